-- the bytes from here on have the order of the whole keys
use Rattle.std.proofs.Common.{◌≡◌, drop}
use Rattle.std.specs.Ordering.{nat_cmp}
use Rattle.std.specs.Cmp.Lexicographic.{slice_cmp}
use Rattle.gx_search.specs.Keys.{sought_key, key_at}
use Rattle.gx_search.proofs.keys.order.Given as goal

abbrev pub invariant-loop-i : goal.invariant-loop-i
invariant-loop-i g l = slice_cmp nat_cmp (drop l.i (sought_key l.memory l.ask))
    (drop l.i (key_at l.memory l.ask l.at)) ≡ slice_cmp nat_cmp (sought_key l.memory l.ask) (key_at l.memory l.ask l.at)
