-- What the step from a configuration does or asks.
use Rattle.std.specs.Prelude.{nat_lt, if◌then◌else◌, Option, None, option_map, option_and_then}
use Rattle.std.specs.Result.{result_ok}
use Rattle.gx_state.specs.declared.effects.Effect.{Effect}
use Rattle.gx_machine.specs.Machine.{FlatMachine}
use Rattle.gx_machine.specs.declared.askings.Asking.{Asking}
use Rattle.gx_machine.specs.Step.{cost_of, step_of, asking_of}
use Rattle.gx_session.specs.declared.ends.Stop.{Stop}
use Rattle.gx_session.specs.declared.ends.Stop.TheVariants as stop
use Rattle.rand_core.specs.Stream.{next_u32}
use Rattle.gx_session.specs.Configurations.{Configuration}

-- What the step from here does or asks, where the budget is enough for it and it has no fault.
abbrev pub effect_at : Configuration → Option Effect
effect_at m = if nat_lt m.left (cost_of m.machine) then None else
    option_map (λ (r : FlatMachine × Effect). r.1) (result_ok (step_of m.machine (next_u32 m.words).0))

-- What the step from here asks, if it has no fault and asks something.
unfoldable pub asked : Configuration → Option Asking
asked m =
    option_and_then (λ (r : FlatMachine × Effect). asking_of r.1) (result_ok (step_of m.machine (next_u32 m.words).0))

-- What the machine asks at a stop: nothing after a step that ends the program or that the budget is too small for.
-- Every other stop is that of a step that asked something, or of one that met a fault and asks nothing.
abbrev pub asked_at : Stop → Configuration → Option Asking
asked_at stop.Ended m = None
asked_at stop.Spent m = None
asked_at s m = asked m
