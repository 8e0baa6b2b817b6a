use Rattle.std.proofs.Common.{subst, sym}
use Rattle.circular_buffer.specs.Buffer.{Buffer}
use Rattle.gx_state.specs.Copies.{Copy}
use Rattle.gx_undo.specs.Undo.{FlatUndo, AreCopiesFor}
use Rattle.gx_undo.specs.Sound.{flat_of}
use Rattle.gx_undo.proofs.Fit.{fit_with}
use Rattle.gx_undo.proofs.Undo.push.Goals as goal

pub returns-clause-fit : goal.returns-clause-fit
returns-clause-fit g c =
    λ story all one.
    let held = subst (λ (u : FlatUndo). AreCopiesFor story u.copies) (sym c.self.view_is) all in
    subst (λ (b : Buffer Copy). AreCopiesFor story b.items) (sym c.push_front-oldest.ensures.items)
    (fit_with story (flat_of c.self.inside) c.args.copy held one)
