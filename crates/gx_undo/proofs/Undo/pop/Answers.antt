use Rattle.std.proofs.Common.{subst, sym}
use Rattle.circular_buffer.specs.Buffer.{Buffer}
use Rattle.gx_state.specs.Copies.{Copy}
use Rattle.gx_undo.specs.Undo.{FlatUndo, AreCopiesFor}
use Rattle.gx_undo.specs.Sound.{flat_of}
use Rattle.gx_undo.proofs.Fit.{fit_without}
use Rattle.gx_undo.proofs.Undo.pop.Goals as goal

pub returns-clause-fit : goal.returns-clause-fit
returns-clause-fit g c =
    λ story all.
    let held = subst (λ (u : FlatUndo). AreCopiesFor story u.copies) (sym c.self.view_is) all in
    subst (λ (b : Buffer Copy). AreCopiesFor story b.items) (sym c.pop_front.ensures.items)
    (fit_without story (flat_of c.self.inside) held)
