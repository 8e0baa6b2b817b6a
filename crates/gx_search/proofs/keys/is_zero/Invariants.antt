-- the bytes from here on are zeros exactly where all are
use Rattle.std.proofs.Common.{◌≡◌, ◌==◌, drop}
use Rattle.std.specs.List.{list_all}
use Rattle.gx_search.specs.Keys.{key_at}
use Rattle.gx_search.proofs.keys.is_zero.Given as goal

abbrev pub invariant-loop-i : goal.invariant-loop-i
invariant-loop-i g l = list_all (λ b. b == 0) (drop l.i (key_at l.memory l.ask l.at))
    ≡ list_all (λ b. b == 0) (key_at l.memory l.ask l.at)
