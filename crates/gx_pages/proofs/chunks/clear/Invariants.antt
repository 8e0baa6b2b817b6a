-- So many bytes are zeros.
use Rattle.std.proofs.Common.{◌≡◌, ◌≤◌, ◌-◌, replicate, length}
use Rattle.gx_words.specs.Numbers.{spliced}
use Rattle.gx_pages.specs.Chunks.{AllWhole, flat}
use Rattle.gx_pages.proofs.chunks.clear.Given as goal

abbrev pub invariant-loop-done : goal.invariant-loop-done
invariant-loop-done g l = record {
  upto : l.done ≤ l.count;
  whole : AllWhole g.C.Chunk.IsWhole l.chunks;
  count : length l.chunks ≡ length l.initial.chunks;
  made : flat g.C.Chunk.bytes_of l.chunks ≡ spliced (flat g.C.Chunk.bytes_of l.initial.chunks) l.at
      (replicate l.done 0);
}

abbrev pub decreases-loop-done : goal.decreases-loop-done
decreases-loop-done g l = l.count - l.done
