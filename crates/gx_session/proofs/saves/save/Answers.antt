use Rattle.std.proofs.Common.{◌≡◌, true, false, Some, None, Ok, Err, ap, sym, ◌∙◌}
use Rattle.std.proofs.lemmas.Result.{err_from_is_err_and}
use Rattle.gx_state.specs.Flat.{FlatState}
use Rattle.gx_state.specs.declared.effects.Reply.{Reply}
use Rattle.gx_state.specs.Copies.{Copy}
use Rattle.gx_story.specs.Stories.{FlatStory}
use Rattle.gx_machine.specs.SavedCopies.{saved_copy}
use Rattle.quetzal.specs.Writing.{save_bytes}
use Rattle.gx_session.specs.Saving.{is_save_begun}
use Rattle.gx_session.proofs.Saving.{saving-fails, save-by}
use Rattle.gx_session.proofs.saves.save.Goals as goal

pub returns-then-not-is_begun-clause-value : goal.returns-then-not-is_begun-clause-value
returns-then-not-is_begun-clause-value g c =
    let f = (g.E.Engine.whole c.args.engine.now).machine.flat in
    let none : is_save_begun c.args.world.now.scene f c.args.stream ≡ false =
    ap (λ (x : FlatState). is_save_begun c.args.world.now.scene x c.args.stream) (sym c.state.ensures)
    ∙ sym c.is_begun.ensures ∙ c.if-not-is_begun.true in
    saving-fails c.args.world.now f c.args.stream none
    ∙ ap (λ (r : Reply). Ok (c.args.world.now, r)) (sym c.failed.ensures)

pub returns-in_err-reply-clause-value : goal.returns-in_err-reply-clause-value
returns-in_err-reply-clause-value g c =
    let p = err_from_is_err_and c.from_residual-in_err-reply.result c.from_residual-in_err-reply.ensures.1 in
    let f = (g.E.Engine.whole c.args.engine.now).machine.flat in
    let begun : is_save_begun c.args.world.now.scene f c.args.stream ≡ true =
    ap (λ (x : FlatState). is_save_begun c.args.world.now.scene x c.args.stream) (sym c.state.ensures)
    ∙ sym c.is_begun.ensures ∙ c.if-not-is_begun.false in
    let is : c.as_slice.result.now ≡ save_bytes f.story (saved_copy f) =
    c.as_slice.ensures ∙ c.in_ok-bytes.ensures.value
    ∙ ap (λ (s : FlatStory). save_bytes s c.in_ok-copy.copy) c.story.ensures
    ∙ ap (λ (x : Copy). save_bytes f.story x) c.in_ok-copy.ensures.value in
    rw (p.1, p.2)
    (save-by c.args.world.now c.put_save.new.world f c.state-2.result.now.flat c.state-2.ensures c.args.stream
    c.as_slice.result.now (Err c.in_err-reply.field-0.0) begun is c.in_err-reply.ensures.value)

pub returns-in-Some-clause-value : goal.returns-in-Some-clause-value
returns-in-Some-clause-value g c =
    let f = (g.E.Engine.whole c.args.engine.now).machine.flat in
    let begun : is_save_begun c.args.world.now.scene f c.args.stream ≡ true =
    ap (λ (x : FlatState). is_save_begun c.args.world.now.scene x c.args.stream) (sym c.state.ensures)
    ∙ sym c.is_begun.ensures ∙ c.if-not-is_begun.false in
    let is : c.as_slice.result.now ≡ save_bytes f.story (saved_copy f) =
    c.as_slice.ensures ∙ c.in_ok-bytes.ensures.value
    ∙ ap (λ (s : FlatStory). save_bytes s c.in_ok-copy.copy) c.story.ensures
    ∙ ap (λ (x : Copy). save_bytes f.story x) c.in_ok-copy.ensures.value in
    save-by c.args.world.now c.put_save.new.world f c.state-2.result.now.flat c.state-2.ensures c.args.stream
    c.as_slice.result.now (Ok (Some c.in-Some.reply)) begun is (rw c.in-Some.is at c.in_ok-reply.ensures.value)

pub returns-clause-value : goal.returns-clause-value
returns-clause-value g c =
    let f = (g.E.Engine.whole c.args.engine.now).machine.flat in
    let begun : is_save_begun c.args.world.now.scene f c.args.stream ≡ true =
    ap (λ (x : FlatState). is_save_begun c.args.world.now.scene x c.args.stream) (sym c.state.ensures)
    ∙ sym c.is_begun.ensures ∙ c.if-not-is_begun.false in
    let is : c.as_slice.result.now ≡ save_bytes f.story (saved_copy f) =
    c.as_slice.ensures ∙ c.in_ok-bytes.ensures.value
    ∙ ap (λ (s : FlatStory). save_bytes s c.in_ok-copy.copy) c.story.ensures
    ∙ ap (λ (x : Copy). save_bytes f.story x) c.in_ok-copy.ensures.value in
    save-by c.args.world.now c.put_save.new.world f c.state-2.result.now.flat c.state-2.ensures c.args.stream
    c.as_slice.result.now (Ok None) begun is (rw c.in-None.is at c.in_ok-reply.ensures.value)
    ∙ ap (λ (r : Reply). Ok (c.put_save.new.world, r)) (sym c.failed-in-None.ensures)
