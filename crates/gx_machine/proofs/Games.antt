-- The machine that a row of Game makes.
use Rattle.std.proofs.Common.{Result, Ok}
use Rattle.gx_words.specs.declared.faults.Fault.{Fault}
use Rattle.gx_words.specs.Results.{◌>>=◌}
use Rattle.gx_state.specs.declared.effects.Effect.{Effect}
use Rattle.gx_state.specs.Flat.{FlatState}
use Rattle.gx_undo.specs.Undo.{FlatUndo}
use Rattle.gx_machine.specs.Machine.{FlatMachine}

abbrev pub with_both : Result ((FlatState × FlatUndo) × Effect) Fault → Result (FlatMachine × Effect) Fault
with_both r = r >>= (λ (x : (FlatState × FlatUndo) × Effect). Ok (record { flat = x.0.0; undo = x.0.1 }, x.1))
