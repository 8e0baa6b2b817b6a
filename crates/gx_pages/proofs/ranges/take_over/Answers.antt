use Rattle.std.proofs.Common.{◌≡◌, ℕ, ◌+◌, ◌≤◌, ◌-◌, ◌∙◌, ap, arith, length, take, drop}
use Rattle.gx_words.specs.Numbers.{spliced}
use Rattle.gx_pages.proofs.Splice.{taken_step}
use Rattle.gx_pages.proofs.ranges.take_over.Goals as goal

pub loop-at-preserved : goal.loop-at-preserved
loop-at-preserved g c =
    let there : c.args.end ≤ length c.args.other.now = c.requires.there (omega arith) in
    let n = c.whole_pages_or_less.result in
    let same : c.loop-at.at + n - c.loop-at.at ≡ n = omega arith in
    record {
      above = omega arith;
      upto = omega arith;
      size = c.in_ok-take_piece.ensures.size ∙ c.loop-at.invariant.size;
      made =
          c.in_ok-take_piece.ensures.ok
          ∙ ap (λ (k : ℕ). spliced c.loop-at.table c.loop-at.at (take k (drop c.loop-at.at c.args.other.now))) same
          ∙ taken_step c.args.table.now c.loop-at.table c.args.other.now c.args.from c.args.end c.loop-at.at n
          (omega (arith, c.requires.inside)) there (omega arith) (omega arith) c.loop-at.invariant.made;
    }
