-- A read that is made again has consumed nothing, and the buffer keeps its length.
use Rattle.std.proofs.Common.{◌≡◌, length}
use Rattle.std.specs.Io.KnownBytes.{Keeps}
use Rattle.gx_devices.proofs.patient.PatientRead.read.Given as goal

abbrev pub invariant-loop : goal.invariant-loop
invariant-loop g l = (length l.buf ≡ length l.initial.buf)
    × Keeps (g.R.Read.remaining l.initial.self) (g.R.Read.remaining l.self)
