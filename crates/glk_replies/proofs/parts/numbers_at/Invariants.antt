use Rattle.std.proofs.Common.{◌≡◌}
use Rattle.glk_replies.specs.Parts.{numbers_in}
use Rattle.glk_replies.proofs.parts.numbers_at.Given as goal

abbrev pub invariant-loop-i : goal.invariant-loop-i
invariant-loop-i g l = l.numbers ≡ numbers_in l.width l.memory l.at l.i
