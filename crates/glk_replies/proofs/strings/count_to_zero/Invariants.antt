use Rattle.std.proofs.Common.{◌≡◌, ◌+◌, ◌-◌, ◌*◌, length}
use Rattle.glk_replies.specs.Strings.{count_to_zero}
use Rattle.glk_replies.proofs.Counting.{counted}
use Rattle.glk_replies.proofs.strings.count_to_zero.Given as goal

abbrev pub invariant-loop-count : goal.invariant-loop-count
invariant-loop-count g l =
    (l.place ≡ l.at + l.width * l.count)
    × (counted l.count (count_to_zero (length l.memory - l.count) l.width l.memory l.place)
    ≡ count_to_zero (length l.memory) l.width l.memory l.at)
