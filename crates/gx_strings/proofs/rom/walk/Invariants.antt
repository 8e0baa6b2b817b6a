-- the rest of the walk gives what the whole walk gives, and its bits lie in memory
use Rattle.std.proofs.Common.{◌≡◌, ◌≤◌, ◌<◌, ◌-◌, ◌*◌, ◌/◌, ◌%◌, ◌^◌, length, drop}
use Rattle.gx_words.specs.Numbers.{byte}
use Rattle.gx_strings.specs.Bits.{bits}
use Rattle.gx_strings.specs.Nodes.{walk}
use Rattle.gx_strings.proofs.rom.walk.Given as goal

abbrev pub invariant-bits : goal.invariant-bits
invariant-bits l = record {
  same : walk l.rom l.node (l.place - l.from) (drop l.place (bits l.rom))
      ≡ walk l.rom l.root 0 (drop l.from (bits l.rom));
  begun : l.from ≤ l.place;
  there : l.place / 8 < length l.rom;
  left : l.left ≡ byte l.rom (l.place / 8) / 2 ^ (l.place % 8);
}

abbrev pub decreases-bits : goal.decreases-bits
decreases-bits l = 8 * length l.rom - l.place
