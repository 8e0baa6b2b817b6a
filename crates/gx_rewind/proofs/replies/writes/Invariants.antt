-- the writes so far are copied
use Rattle.std.proofs.Common.{◌≡◌, take}
use Rattle.gx_rewind.proofs.replies.writes.Given as goal

abbrev pub invariant-loop-write : goal.invariant-loop-write
invariant-loop-write l = l.copy ≡ take l.write-index l.all
