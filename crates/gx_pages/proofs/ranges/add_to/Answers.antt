use Rattle.std.proofs.Common.{◌≡◌, ℕ, List, ◌-◌, ◌++◌, ◌∙◌, ap, sym, arith, take, drop, append_assoc}
use Rattle.std.proofs.Math.Seq.{take-add}
use Rattle.gx_pages.proofs.ranges.add_to.Goals as goal

pub loop-done-preserved : goal.loop-done-preserved
loop-done-preserved g c =
    let xs = c.args.table.now in
    let done = c.loop-done.done in
    let page = c.rest_of_page.result.now in
    let piece : page ≡ take 256 (drop done xs) =
    c.rest_of_page.ensures ∙ ap (λ (k : ℕ). take (256 - k) (drop done xs)) c.loop-done.invariant.whole in
    record {
      upto = omega arith;
      whole = omega arith;
      made =
          c.in_ok-extend_from_slice.ensures.ok
          ∙ ap (λ (m : List ℕ). m ++ page) c.loop-done.invariant.made
          ∙ append_assoc c.args.bytes.now (take done xs) page
          ∙ ap (λ (m : List ℕ). c.args.bytes.now ++ (take done xs ++ m)) piece
          ∙ ap (λ (m : List ℕ). c.args.bytes.now ++ m) (sym (take-add done 256 xs));
    }
