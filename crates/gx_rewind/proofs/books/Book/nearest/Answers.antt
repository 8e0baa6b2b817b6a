-- the beginning is a place of the run
use Rattle.std.proofs.Common.{[], ap, refl, ◌∙◌}
use Rattle.gx_machine.specs.Machine.{Whole}
use Rattle.gx_rewind.proofs.Paths.{units-nil}
use Rattle.gx_rewind.proofs.books.Book.nearest.Goals as goal

pub returns-then-count-eq0-clause-spot : goal.returns-then-count-eq0-clause-spot
returns-then-count-eq0-clause-spot g c = record {
  before = [];
  path = (ap (λ (w : Whole). w.machine) c.in_ok-fork.ensures, refl);
  units_is = units-nil;
  asks = ap (λ (w : Whole). w.asking) c.in_ok-fork.ensures ∙ c.requires.kept.2.opening;
}
