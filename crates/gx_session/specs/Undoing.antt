-- Which copies a machine keeps for undo in the course of a run (Glulx 3.1.2, "Game State").
--
-- No move looks at the history of the run (a log, where the run is recorded, is only added to): that the copies of a
-- configuration are those of the saveundos that are alive by now is a law over the configurations of the run.
use Rattle.std.specs.Prelude.{◌≡◌, ℕ, zero, suc, ◌==◌, ◌||◌, if◌then◌else◌, List, [], ◌∷◌, take, drop}
use Rattle.std.specs.Prelude.{Some, Result, Ok}
use Rattle.std.specs.Option.{option_map_or}
use Rattle.gx_words.specs.declared.faults.Fault.{Fault}
use Rattle.gx_rows.specs.Numbers as numbers
use Rattle.gx_rows.specs.declared.instructions.Class.{Class}
use Rattle.gx_rows.specs.declared.instructions.Class.TheVariants as class
use Rattle.gx_state.specs.declared.modes.Mode.{Mode}
use Rattle.gx_state.specs.declared.modes.Mode.TheVariants as mode
use Rattle.gx_state.specs.Copies.{Copy, copy_of}
use Rattle.gx_operands.specs.Instructions.{Instruction, instruction}
use Rattle.gx_session.specs.Configurations.{Configuration, Phase, steps}
use Rattle.gx_session.specs.Moves.{sends_now}
use Rattle.gx_session.specs.Session.{run_of}

-- The saveundos that are alive, each by the number of moves before it, the newest first, after an instruction with j
-- moves before it, by its class and its number. A saveundo comes in front, and the oldest drops out where there are as
-- many as the depth; a restoreundo takes the newest, and so does a discardundo. Every other instruction leaves them,
-- save, restore and hasundo among them.
abbrev pub alive_by : ℕ → ℕ → List ℕ → Class → ℕ → List ℕ
alive_by depth j live class.Game number = if number == numbers.saveundo then take depth (j ∷ live) else
    if number == numbers.restoreundo || number == numbers.discardundo then drop 1 live else live
alive_by depth j live c number = live

-- the same after what comes next: only the step of an instruction is anything to them
abbrev pub alive_next : ℕ → ℕ → List ℕ → Phase → Mode → Result Instruction Fault → List ℕ
alive_next depth j live steps mode.Running (Ok i) = alive_by depth j live i.row.class i.row.number
alive_next depth j live d m r = live

-- The saveundos that are alive after so many moves. A move that sends is nothing to them.
unfoldable pub alive : Configuration → ℕ → List ℕ
alive start zero = []
alive start (suc j) =
    option_map_or (λ (m : Configuration).
    if sends_now m then alive start j else
    alive_next start.machine.undo.depth j (alive start j) m.phase m.machine.flat.mode (instruction m.machine.flat))
    (run_of start j) (alive start j)

-- the copy that the saveundo after so many moves takes: of the whole state that it meets
abbrev pub IsTaken : Configuration → ℕ → Copy → Type 0
IsTaken start j c = (m : Configuration) × (i : Instruction) × (run_of start j ≡ Some m)
    × (instruction m.machine.flat ≡ Ok i) × (c ≡ copy_of m.machine.flat i.dest i.next)

-- the copies, in order, are those that these saveundos took
abbrev pub AreTaken : Configuration → List Copy → List ℕ → Type 0
AreTaken start [] [] = Unit {0}
AreTaken start (c ∷ cs) (j ∷ js) = IsTaken start j c × AreTaken start cs js
AreTaken start cs js = ⊥

-- In a run that begins without copies, those of each configuration are, in order, the copies that the saveundos took
-- which are alive there. So a restoreundo goes back to the whole copy of the newest saveundo that was neither
-- used, nor discarded, nor dropped as the oldest; it finds none exactly where there is none, and hasundo answers 1
-- exactly there. A discardundo takes exactly that newest copy away. A restore leaves these copies, so that a
-- restoreundo after it goes back to a saveundo before it. That the way back has no fault is said of the moves that a
-- run makes (`IsSoundStep` of Sound).
unfoldable pub LastsUndo : Configuration → Type 0
LastsUndo start = start.machine.undo.copies ≡ [] → (j : ℕ) (m : Configuration) → run_of start j ≡ Some m
    → AreTaken start m.machine.undo.copies (alive start j)
