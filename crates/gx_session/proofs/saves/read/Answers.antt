use Rattle.std.proofs.Common.{◌≡◌, ℕ, List, None, refl, ap, subst, sym, ◌∙◌}
use Rattle.std.proofs.lemmas.Bool.{eq-eqb, ne_eqb}
use Rattle.std.proofs.lemmas.Result.{err_from_is_err_and}
use Rattle.gx_words.specs.Constants.{ceiling, glk_system}
use Rattle.gx_story.specs.Stories.{FlatStory}
use Rattle.gx_state.specs.Flat.{FlatState}
use Rattle.quetzal.specs.ReadingSaves.{copy_in_save}
use Rattle.gx_state.specs.Copies.{IsCopyFor}
use Rattle.gx_state.specs.Sound.{IsSound}
use Rattle.gx_machine.proofs.WaysBack.{way_back}
use Rattle.gx_session.proofs.Saving.{restoring-fails, read-refused, read-is, read-found, unread}
use Rattle.gx_session.proofs.saves.read.Goals as goal

pub returns-then-iosys-ne-GLK_SYSTEM-clause-value : goal.returns-then-iosys-ne-GLK_SYSTEM-clause-value
returns-then-iosys-ne-GLK_SYSTEM-clause-value g c =
    let f = (g.E.Engine.whole c.args.engine.now).machine.flat in
    let system : c.iosys.result.0 ≡ f.iosys.0 =
    ap (λ (x : ℕ × ℕ). x.0) c.iosys.ensures ∙ ap (λ (x : FlatState). x.iosys.0) c.state.ensures in
    restoring-fails c.args.world.now f c.args.stream
    (ne_eqb f.iosys.0 glk_system (λ glk. c.if-iosys-ne-GLK_SYSTEM.true (system ∙ glk)))

pub returns-in_err-bytes-clause-value : goal.returns-in_err-bytes-clause-value
returns-in_err-bytes-clause-value g c =
    let p = err_from_is_err_and c.from_residual.result c.from_residual.ensures.1 in
    let f = (g.E.Engine.whole c.args.engine.now).machine.flat in
    let system : c.iosys.result.0 ≡ f.iosys.0 =
    ap (λ (x : ℕ × ℕ). x.0) c.iosys.ensures ∙ ap (λ (x : FlatState). x.iosys.0) c.state.ensures in
    rw (p.1, p.2)
    (read-refused c.args.world.now c.take_rest.new.world f c.state-2.result.now.flat c.state-2.ensures c.args.stream
    (eq-eqb f.iosys.0 glk_system (sym system ∙ c.if-iosys-ne-GLK_SYSTEM.false)) c.in_err-bytes.field-0.0
    c.in_err-bytes.ensures)

pub returns-in_default-clause-value : goal.returns-in_default-clause-value
returns-in_default-clause-value g c =
    let f = (g.E.Engine.whole c.args.engine.now).machine.flat in
    let system : c.iosys.result.0 ≡ f.iosys.0 =
    ap (λ (x : ℕ × ℕ). x.0) c.iosys.ensures ∙ ap (λ (x : FlatState). x.iosys.0) c.state.ensures in
    read-is c.args.world.now c.take_rest.new.world f c.state-2.result.now.flat c.state-2.ensures c.args.stream
    (eq-eqb f.iosys.0 glk_system (sym system ∙ c.if-iosys-ne-GLK_SYSTEM.false))
    None None refl (rw c.in_default.is at c.in_ok-bytes.ensures)

pub returns-in-Ok-clause-value : goal.returns-in-Ok-clause-value
returns-in-Ok-clause-value g c =
    let f = (g.E.Engine.whole c.args.engine.now).machine.flat in
    let system : c.iosys.result.0 ≡ f.iosys.0 =
    ap (λ (x : ℕ × ℕ). x.0) c.iosys.ensures ∙ ap (λ (x : FlatState). x.iosys.0) c.state.ensures in
    let same : copy_in_save ceiling c.in-Some.bytes f.story ≡ copy_in_save ceiling c.as_slice.result.now c.story.result.now =
    ap (λ (x : List ℕ). copy_in_save ceiling x f.story) (sym c.as_slice.ensures)
    ∙ ap (λ (s : FlatStory). copy_in_save ceiling c.as_slice.result.now s) (sym c.story.ensures) in
    read-found c.args.world.now c.take_rest.new.world f c.state-2.result.now.flat c.state-2.ensures c.args.stream
    (eq-eqb f.iosys.0 glk_system (sym system ∙ c.if-iosys-ne-GLK_SYSTEM.false))
    c.in-Some.bytes (rw c.in-Some.is at c.in_ok-bytes.ensures) c.in-Ok.copy (same ∙ c.in-Ok.ensures.value)

pub returns-clause-value : goal.returns-clause-value
returns-clause-value g c =
    let f = (g.E.Engine.whole c.args.engine.now).machine.flat in
    let system : c.iosys.result.0 ≡ f.iosys.0 =
    ap (λ (x : ℕ × ℕ). x.0) c.iosys.ensures ∙ ap (λ (x : FlatState). x.iosys.0) c.state.ensures in
    let same : copy_in_save ceiling c.in-Some.bytes f.story ≡ copy_in_save ceiling c.as_slice.result.now c.story.result.now =
    ap (λ (x : List ℕ). copy_in_save ceiling x f.story) (sym c.as_slice.ensures)
    ∙ ap (λ (s : FlatStory). copy_in_save ceiling c.as_slice.result.now s) (sym c.story.ensures) in
    unread c.args.world.now c.take_rest.new.world f c.state-2.result.now.flat c.state-2.ensures c.args.stream
    (eq-eqb f.iosys.0 glk_system (sym system ∙ c.if-iosys-ne-GLK_SYSTEM.false))
    c.in-Some.bytes (rw c.in-Some.is at c.in_ok-bytes.ensures) c.in-Err.fault c.refused.result
    (λ other. same ∙ c.in-Err.ensures.value.0 other) c.refused.ensures

pub returns-in-Ok-clause-back : goal.returns-in-Ok-clause-back
returns-in-Ok-clause-back g c =
    let f = (g.E.Engine.whole c.args.engine.now).machine.flat in
    way_back f c.in-Ok.copy (subst IsSound c.state-in-Ok.ensures c.stack-stack.ensures.sound)
    (subst (λ (s : FlatStory). IsCopyFor s c.in-Ok.copy) c.story.ensures c.in-Ok.ensures.sound)
