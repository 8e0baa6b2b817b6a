-- The random words of a run: those of a seed, where the command line has one, and else the device's.
use Rattle.std.specs.Prelude.{ℕ, Option}
use Rattle.std.specs.Option.{option_map_or}
use Rattle.rand_core.specs.Steps.{stream_of, steps_u32}
use Rattle.rand_pcg.specs.Pcg.{pcg32}
use Rattle.ops_calc.specs.Generator.{pcg32_of}
use Rattle.gx_session.specs.Devices.{Devices}

-- The devices of a run, with the words that it draws from. Those of a seed are the words of the generator that
-- setrandom has for a number too; here 0 is a seed like any other.
abbrev pub devices_for : Option ℕ → Devices → Devices
devices_for seed entry =
    record entry { words = option_map_or (λ number. stream_of (steps_u32 pcg32) (pcg32_of number)) seed entry.words }
