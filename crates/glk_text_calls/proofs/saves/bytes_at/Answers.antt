use Rattle.std.proofs.Common.{◌≡◌, ◌∙◌, ◌+◌, ◌-◌, ◌%◌, ◌≤◌, take, drop, ap, sym, arith}
use Rattle.std.proofs.lemmas.List.{take-take, drop-drop}
use Rattle.std.proofs.Math.Seq.{take-add}
use Rattle.glk_text_calls.proofs.saves.bytes_at.Goals as goal

pub loop-done-preserved : goal.loop-done-preserved
loop-done-preserved g c =
    let n = c.min-piece.result in
    let done = c.loop-done.done in
    let at = c.args.at in
    let m = c.args.memory.now in
    let k = 256 - (at + done) % 256 in
    let page = c.bytes_in_page-page.ensures.value in
    let few : n ≤ k = omega (arith, c.bytes_in_page-page.ensures.len) in
    let piece : take n c.bytes_in_page-page.result.now ≡ take n (drop done (drop at m)) =
    ap (take n) page ∙ take-take n k (drop (at + done) m) few ∙ ap (take n) (sym (drop-drop done at m)) in
    record {
      upto = omega arith;
      made = rw (c.in_ok-extend_from_slice.ensures.ok, piece, c.loop-done.invariant.made)
          (sym (take-add done n (drop at m)));
    }
