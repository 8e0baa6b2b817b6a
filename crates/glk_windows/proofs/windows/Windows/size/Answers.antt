use Rattle.glk_windows.specs.Held.{flat_of}
use Rattle.glk_windows.proofs.Placing.{whole}
use Rattle.glk_windows.proofs.windows.Windows.size.Goals as goal

pub returns-clause-whole : goal.returns-clause-whole
returns-clause-whole c = rw (← c.self.view_is) (whole (flat_of c.self.inside) c.self.invariant.placed)
