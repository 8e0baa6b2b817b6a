-- a copy of a sound state whose stack was cut is fit for its story
use Rattle.std.proofs.Common.{subst, ◌∙◌, arith}
use Rattle.gx_state.specs.Flat.{HeldState}
use Rattle.gx_state.specs.Sound.{IsSound}
use Rattle.gx_state.proofs.FlatCopies.{flat_fits}
use Rattle.gx_state.proofs.state.State.flat.Goals as goal

pub returns-clause-fit : goal.returns-clause-fit
returns-clause-fit g c =
    λ takes.
    let sound = subst (λ (h : HeldState). IsSound h.flat) c.self.view_is c.self.invariant.sound in
    flat_fits c.args.self.now.flat c.args.sp c.args.dest.now c.args.next _ sound c.requires.height c.requires.room
    (c.in_ok-stack.ensures.top ∙ c.stub.ensures) takes (grind arith)
