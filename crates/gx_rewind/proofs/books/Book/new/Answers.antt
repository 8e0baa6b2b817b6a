-- nothing is recorded yet
use Rattle.std.proofs.Common.{ap, refl, sym, ◌∙◌, arith}
use Rattle.gx_machine.specs.Machine.{Whole}
use Rattle.gx_rewind.proofs.Paths.{units-nil}
use Rattle.gx_rewind.proofs.books.Book.new.Goals as goal

pub returns : goal.returns
returns g c = record {
  path = (ap (λ (w : Whole). w.machine) (sym c.in_ok-fork.ensures), refl);
  units_is = units-nil;
  on = refl;
  checkpoints = rw c.new-2.ensures.items (λ k d within. absurd (omega (arith, within)));
  opening = ap (λ (w : Whole). w.asking) c.in_ok-fork.ensures ∙ c.requires;
}
