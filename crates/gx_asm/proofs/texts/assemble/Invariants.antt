use Rattle.std.proofs.Common.{◌≡◌, ◌≤◌, ◌<◌, ◌+◌, List, ℕ, true, false, length}
use Rattle.std.specs.List.{slice_split}
use Rattle.gx_asm.specs.Texts.{assembled, code_of, is_line_feed}
use Rattle.gx_asm.proofs.TextLaws.{behind_code}
use Rattle.gx_asm.proofs.texts.assemble.Given as goal

abbrev pub invariant-loop-line : goal.invariant-loop-line
invariant-loop-line l = record {
  said : (done : List ℕ) × (behind_code done (code_of (l.number + 1) (slice_split is_line_feed l.rest))
      ≡ assembled l.text) × (l.whole ≡ true → l.code ≡ done);
  few : l.number + length l.rest ≤ length l.text;
  some : l.whole ≡ false → 0 < length l.text;
}

abbrev pub decreases-loop-line : goal.decreases-loop-line
decreases-loop-line l = length l.rest
