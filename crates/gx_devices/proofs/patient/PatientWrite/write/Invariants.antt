-- A write that is made again has added nothing.
use Rattle.std.specs.Io.KnownBytes.{Keeps}
use Rattle.gx_devices.proofs.patient.PatientWrite.write.Given as goal

abbrev pub invariant-loop : goal.invariant-loop
invariant-loop g l = Keeps (g.W.Write.contents l.initial.self) (g.W.Write.contents l.self)
