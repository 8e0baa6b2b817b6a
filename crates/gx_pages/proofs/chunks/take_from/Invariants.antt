-- The bytes up to here are taken.
use Rattle.std.proofs.Common.{◌≡◌, ◌≤◌, ◌-◌, take, drop, length}
use Rattle.gx_words.specs.Numbers.{spliced}
use Rattle.gx_pages.specs.Chunks.{AllWhole, flat}
use Rattle.gx_pages.proofs.chunks.take_from.Given as goal

abbrev pub invariant-loop-at : goal.invariant-loop-at
invariant-loop-at g l = record {
  above : l.from ≤ l.at;
  upto : l.at ≤ l.end;
  whole : AllWhole g.C.Chunk.IsWhole l.chunks;
  count : length l.chunks ≡ length l.initial.chunks;
  made : flat g.C.Chunk.bytes_of l.chunks ≡ spliced (flat g.C.Chunk.bytes_of l.initial.chunks) l.from
      (take (l.at - l.from) (take (l.end - l.from) (drop l.from (flat g.C.Chunk.bytes_of l.others))));
}

abbrev pub decreases-loop-at : goal.decreases-loop-at
decreases-loop-at g l = l.end - l.at
