-- Parts of definitions that proofs speak of by name.
use Rattle.std.proofs.Common.{◌≡◌, ℕ, ◌==◌, ◌&&◌, ◌⊎◌, if◌then◌else◌, Bool, List, [], ◌∷◌, ◌++◌, Option, Result}
use Rattle.std.proofs.Common.{◌+◌, Some, None, Ok, Err, IsTrue}
use Rattle.std.specs.Prelude.{IsSome, IsOkAnd, option_map, option_and_then}
use Rattle.std.specs.Result.{result_ok}
use Rattle.gx_words.specs.declared.faults.Fault.{Fault}
use Rattle.gx_state.specs.Copies.{Copy}
use Rattle.gx_state.specs.declared.effects.Effect.{Effect}
use Rattle.gx_state.specs.declared.effects.Effect.TheVariants as effect
use Rattle.glk_replies.specs.Parts.{replies}
use Rattle.gx_state.specs.declared.effects.Reply.{Reply}
use Rattle.gx_machine.specs.declared.askings.Asking.{Asking}
use Rattle.gx_machine.specs.Machine.{FlatMachine}
use Rattle.gx_machine.specs.Log.{Log}
use Rattle.gx_machine.specs.Step.{asking_of}
use Rattle.glk_streams.specs.Stream as one
use Rattle.glk_streams.specs.Streams as streams
use Rattle.glk_world.specs.World.{Scene, Said, after}
use Rattle.glk_world.specs.Shown.{end_text}
use Rattle.gx_session.specs.declared.ends.Stop.TheVariants as stop
use Rattle.gx_session.specs.Constants.{status_input_fault, failed}
use Rattle.gx_session.specs.Configurations.{Configuration, Verdict, steps}
use Rattle.gx_session.specs.Cuts.{RunCut, by_memory, AsksFor, IsLineStop}
use Rattle.gx_session.specs.Moves.{act_by, sends_now}
use Rattle.gx_session.specs.Session.{moves_by, final_of}
use Rattle.gx_session.specs.Saving.{is_save_begun}
use Rattle.gx_session.specs.Sending.{pending}
use Rattle.gx_session.specs.Wants.{IsWait, ReplyWants}
use Rattle.rand_core.specs.Stream.{Stream, next_u32}

-- all of the text is sent
abbrev pub with_all : List (List ℕ) → List ℕ → List (List ℕ)
with_all s text = s ++ pending s text ∷ []

-- the configuration once the last screen is shown, where the screen is composed, or what is held is let go
abbrev pub with_last_screen : Configuration → Configuration
with_last_screen m = record m { world = after m.world (end_text m.world.scene) }

-- the first list is a front of the second
abbrev pub IsFront : List ℕ → List ℕ → Type 0
IsFront xs ys = (more : List ℕ) × (ys ≡ xs ++ more)

-- these words are to come, or one less, which was drawn and not used
abbrev pub AreDrawn : Stream → Stream → Type 0
AreDrawn words stream = (stream ≡ words) ⊎ (stream ≡ (next_u32 words).1)

-- the step from a configuration
abbrev pub step_from : Configuration → Verdict
step_from m = act_by steps m

-- no more moves than these are to come
abbrev pub moves_left : Configuration → ℕ
moves_left m = moves_by m.phase m.left + (if sends_now m then 1 else 0)

-- what a step does or asks, if it has no fault, and what it asks, if it asks something
abbrev pub effect_of : Result (FlatMachine × Effect) Fault → Option Effect
effect_of r = option_map (λ (p : FlatMachine × Effect). p.1) (result_ok r)

abbrev pub asked_by : Result (FlatMachine × Effect) Fault → Option Asking
asked_by r = option_and_then (λ (p : FlatMachine × Effect). asking_of p.1) (result_ok r)

-- an effect asks for a save that is begun
abbrev pub BeginsSave : Configuration → Option Effect → Type 0
BeginsSave m (Some (effect.Save stream)) = IsTrue (is_save_begun m.world.scene m.machine.flat stream)
BeginsSave m e = ⊥

-- a restore wants memory
abbrev pub RestoreWants : Option Log → FlatMachine → Result (Said × Option Copy) Fault → Type 0
RestoreWants log machine (Ok (said, Some copy)) = Unit {0}
RestoreWants log machine (Ok (said, None)) = ReplyWants log machine (replies failed)
RestoreWants log machine (Err fault) = ⊥

-- a stream that is there and open for reading
abbrev pub may_hold : Scene → ℕ → Bool
may_hold w stream = streams.has w.streams stream && one.readable (streams.stream w.streams stream)

-- an answer, if there is one, is a reply that may want memory
abbrev pub AnswerWants : Option Log → FlatMachine → Result (Said × Reply) Fault → Type 0
AnswerWants log machine result = IsOkAnd result (λ r. ReplyWants log machine r.1)

-- one read failed at this status
abbrev pub read_failures : ℕ → ℕ
read_failures status = if status == status_input_fault then 1 else 0

-- the run was cut short after a stop at which a line was awaited, and after one at too long a line
abbrev pub AwaitedAt : Configuration → Option ℕ → Type 0
AwaitedAt start moves = (moves ≡ None) × IsLineStop (final_of start).stop

abbrev pub LongAt : Configuration → Option ℕ → Type 0
LongAt start moves = (moves ≡ None) × ((final_of start).stop ≡ stop.LineTooLong)

-- memory was wanted at a wait for a line
abbrev pub IsLineCut : Option ℕ → RunCut → Configuration → Type 0
IsLineCut moves cut m = IsSome moves × (cut ≡ by_memory) × AsksFor m.phase IsWait
