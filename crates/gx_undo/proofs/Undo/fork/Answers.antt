use Rattle.std.proofs.Common.{◌≡◌, ◌≤◌, ◌∷◌, [], ◌++◌, List, length, slice_get, Some, sym, ap, ◌∙◌, arith}
use Rattle.circular_buffer.specs.Buffer.{Buffer, buffer, keep_last}
use Rattle.gx_state.specs.Copies.{Copy}
use Rattle.gx_undo.specs.Undo.{FlatUndo}
use Rattle.gx_undo.proofs.Forks.{one_more}
use Rattle.gx_undo.proofs.Undo.fork.Goals as goal

pub loop-i-preserved : goal.loop-i-preserved
loop-i-preserved g c =
    let undo = c.args.self.now in
    let i = c.loop-i.i in
    let copy = c.in_ok-fork-in-Some.field-0 in
    let copies : c.self.inside.ring.items ≡ undo.copies = ap (λ (u : FlatUndo). u.copies) c.self.view_is in
    let is : slice_get undo.copies i ≡ Some copy =
    ap (λ (xs : List Copy). slice_get xs i) (sym copies) ∙ sym c.in-Some.ensures
    ∙ ap (λ (x : Copy). Some x) (sym c.in_ok-fork-in-Some.ensures) in
    let room : length undo.copies ≤ undo.depth = grind arith in
    c.push_back-none.ensures.items
    ∙ ap (λ (b : Buffer Copy). buffer (keep_last b.capacity (b.items ++ copy ∷ [])) b.capacity) c.loop-i.invariant
    ∙ ap (λ (xs : List Copy). buffer xs undo.depth) (one_more undo.copies i undo.depth copy room is)
