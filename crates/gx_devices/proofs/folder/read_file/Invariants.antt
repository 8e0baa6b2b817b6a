-- Between two pieces the bytes that were taken are what the reader has lost, and they are at most `most`.
use Rattle.std.proofs.Common.{◌≤◌, ◌+◌, ◌-◌, length}
use Rattle.std.specs.Io.KnownBytes.{Consumes}
use Rattle.gx_devices.proofs.folder.read_file.Given as goal

abbrev pub invariant-pieces : goal.invariant-pieces
invariant-pieces g l = (length l.bytes ≤ l.most)
    × Consumes (g.R.Read.remaining l.initial.file) (g.R.Read.remaining l.file) l.bytes

abbrev pub decreases-pieces : goal.decreases-pieces
decreases-pieces g l = l.most + 1 - length l.bytes
