-- Job rewind: the line that tells the machine as it stood so many units before the end of a run.
use Rattle.std.specs.Prelude.{ℕ, List, [], ◌∷◌, ◌++◌, decimal}
use Rattle.gx_state.specs.Flat.{sp_of}
use Rattle.gx_machine.specs.Log.{units_of}
use Rattle.gx_rewind.specs.Tape.{FlatTape, gone_back}
use Rattle.gx_session.specs.Reports.{hex_of}
use Rattle.gx_play.specs.Jobs.{ram_sum_of}

-- THE LINE of a tape that goes back by so many units: the units that were used up to there; and of the machine there PC
-- in hexadecimal, the stack pointer, and the sum of RAM.
abbrev pub rewind_line : ℕ → FlatTape → List ℕ
rewind_line back tape = let there = gone_back tape back in let f = there.whole.machine.flat in
    (decimal (units_of there.log.before) ++ 32 ∷ hex_of 8 f.pc ++ 32 ∷ decimal (sp_of f)
    ++ 32 ∷ decimal (ram_sum_of f)) ++ 10 ∷ []
