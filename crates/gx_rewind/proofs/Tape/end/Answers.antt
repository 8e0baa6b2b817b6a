-- the units of all that is recorded
use Rattle.std.proofs.Common.{ap, ◌∙◌}
use Rattle.gx_rewind.specs.Tape.{units_at_end}
use Rattle.gx_rewind.proofs.Ends.{ends}
use Rattle.gx_rewind.proofs.Tape.end.Goals as goal

pub returns : goal.returns
returns g c = ends c.self.inside.book c.self.inside.machine c.self.invariant.book ∙ ap units_at_end c.self.view_is
