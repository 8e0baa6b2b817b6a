-- the rest of the walk gives what the whole walk gives, and its bits lie in memory
use Rattle.std.proofs.Common.{◌≡◌, ◌≤◌, ◌+◌, ◌-◌, ◌*◌, ◌⊎◌, length, drop}
use Rattle.gx_strings.specs.Bits.{bits}
use Rattle.gx_strings.specs.Nodes.{walk}
use Rattle.gx_strings.proofs.nodes.walk_in_memory.Given as goal

abbrev pub invariant-bits : goal.invariant-bits
invariant-bits g l = record {
  same : walk l.memory l.node l.used (drop (l.from + l.used) (bits l.memory))
      ≡ walk l.memory l.root 0 (drop l.from (bits l.memory));
  bits : (l.used ≡ 0) ⊎ (l.from + l.used ≤ 8 * length l.memory);
}

abbrev pub decreases-bits : goal.decreases-bits
decreases-bits g l = 8 * length l.memory - (l.from + l.used)
