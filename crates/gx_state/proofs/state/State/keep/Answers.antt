-- a copy of a sound state is fit for its story
use Rattle.std.proofs.Common.{length, ap, subst, ◌∙◌, arith}
use Rattle.std.proofs.lemmas.List.{take_all}
use Rattle.gx_stack.specs.Stubs.{stub_below}
use Rattle.gx_state.specs.Flat.{HeldState}
use Rattle.gx_state.specs.Sound.{IsSound}
use Rattle.gx_state.proofs.Backs.{copy_fits}
use Rattle.gx_state.proofs.state.State.keep.Goals as goal

pub returns-clause-fit : goal.returns-clause-fit
returns-clause-fit g c =
    λ takes.
    let sound = subst (λ (h : HeldState). IsSound h.flat) c.self.view_is c.self.invariant.sound in
    copy_fits c.args.self.now.flat c.args.dest.now c.args.next _ sound c.requires.live c.requires.room
    (ap (λ p. stub_below p.stack (length p.stack)) c.in_ok-new.ensures.ok ∙ c.in_ok-stack.ensures.top
    ∙ c.stub.ensures) takes (grind (arith, take_all))
