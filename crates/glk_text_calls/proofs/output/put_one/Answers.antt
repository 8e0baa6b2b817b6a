use Rattle.std.proofs.Common.{◌≡◌, true, subst, ◌∷◌, [], rules, IsTrue}
use Rattle.std.proofs.lemmas.Result.{err_from_is_err_and}
use Rattle.glk_world.specs.Putting.{is_plain_text}
use Rattle.glk_world.specs.World.{FlatWorld, MakesCall}
use Rattle.glk_text_calls.specs.Putting.{put_all, put_grows_one}
use Rattle.glk_text_calls.proofs.Puts.{text_put, text_wanted}
use Rattle.glk_text_calls.proofs.output.put_one.Goals as goal

pub returns-in_err-put_text-clause-value : goal.returns-in_err-put_text-clause-value
returns-in_err-put_text-clause-value g c =
    let p = err_from_is_err_and c.from_residual.result c.from_residual.ensures.1 in
    let plain : is_plain_text c.args.world.now.scene c.args.stream ≡ true = c.in_err-put_text.ensures.memory in
    rw (p.1, p.2) (text_wanted _ _ _ _ _ plain c.in_err-put_text.ensures.grows (c.put_text.ensures.places plain 1))

pub returns-then-branch-clause-value : goal.returns-then-branch-clause-value
returns-then-branch-clause-value g c =
    let plain : is_plain_text c.args.world.now.scene c.args.stream ≡ true = search rules in
    rw (c.in_ok-put_text.ensures.put c.if-branch.true, c.reply.ensures)
    (text_put c.args.world.now c.args.state.now.flat c.args.stream c.args.c plain (c.put_text.ensures.places plain 1))

pub returns-clause-value : goal.returns-clause-value
returns-clause-value g c =
    let same : c.put_text.new.self ≡ c.args.world.now = search rules in
    subst (λ (u : FlatWorld). MakesCall (IsTrue (put_grows_one u.scene c.args.stream c.args.c)) c.put_placed.result u
    c.put_placed.new.world (put_all u.scene c.args.state.now.flat c.args.stream (c.args.c ∷ []))) same
    c.put_placed.ensures.value
