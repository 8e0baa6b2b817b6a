-- the copies are fit for the story of a state that is sound
use Rattle.std.proofs.Common.{subst}
use Rattle.gx_machine.specs.Machine.{Whole}
use Rattle.gx_machine.specs.Views.{whole_of}
use Rattle.gx_machine.specs.WaysBack.{HasWaysBack}
use Rattle.gx_machine.proofs.WaysBack.{ways_back}
use Rattle.gx_machine.proofs.machine.Machine.ways_back.Goals as goal

pub returns : goal.returns
returns g c =
    let w : Whole = whole_of c.self.inside in
    subst (λ (x : Whole). HasWaysBack x.machine) c.self.view_is
    (ways_back w.machine c.stack-stack.ensures.sound c.self.invariant.copies)
