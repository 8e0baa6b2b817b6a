use Rattle.std.proofs.Common.{◌≡◌, take, drop, length-take, length-drop, ◌+◌, ◌%◌, ◌-◌, ◌≤◌, ◌∙◌, ap, sym, arith}
use Rattle.std.proofs.Common.{length}
use Rattle.std.proofs.lemmas.List.{take-take, drop-drop}
use Rattle.gx_pages.proofs.Splice.{copy_step, length-spliced}
use Rattle.gx_pages.proofs.ranges.copy_out.Goals as goal

pub loop-done-preserved : goal.loop-done-preserved
loop-done-preserved g c =
    let n = c.in_one_page-count.result in
    let done = c.loop-done.done in
    let from = c.args.from in
    let xs = c.args.table.now in
    let to = c.loop-done.to in
    let inside : from + length c.args.to.now ≤ length xs = c.requires (omega (arith, c.loop-done.invariant.size)) in
    let k = 256 - (from + done) % 256 in
    let piece = take n c.rest_of_page.result.now in
    let e : piece ≡ take n (drop done (drop from xs)) =
    ap (take n) c.rest_of_page.ensures ∙ take-take n k (drop (from + done) xs)
    (omega (arith, c.in_one_page-count.ensures.page)) ∙ ap (take n) (sym (drop-drop done from xs)) in
    let l : length piece ≡ n = ap length e ∙ simp (length-take, length-drop) (omega arith) in
    record {
      upto = omega arith;
      size = ap length c.splice.ensures ∙ length-spliced to piece done (omega arith) ∙ c.loop-done.invariant.size;
      made = ap (take (done + n)) c.splice.ensures
          ∙ copy_step to (drop from xs) piece done n (omega arith) l e c.loop-done.invariant.made;
    }
