-- What is written so far is the first bytes.
use Rattle.std.proofs.Common.{◌≡◌, ◌≤◌, ◌-◌, take, length}
use Rattle.gx_words.specs.Numbers.{spliced}
use Rattle.gx_pages.specs.Chunks.{AllWhole, flat}
use Rattle.gx_pages.proofs.chunks.put.Given as goal

abbrev pub invariant-loop-done : goal.invariant-loop-done
invariant-loop-done g l = record {
  upto : l.done ≤ length l.bytes;
  whole : AllWhole g.C.Chunk.IsWhole l.chunks;
  count : length l.chunks ≡ length l.initial.chunks;
  made : flat g.C.Chunk.bytes_of l.chunks ≡ spliced (flat g.C.Chunk.bytes_of l.initial.chunks) l.at
      (take l.done l.bytes);
}

abbrev pub decreases-loop-done : goal.decreases-loop-done
decreases-loop-done g l = length l.bytes - l.done
