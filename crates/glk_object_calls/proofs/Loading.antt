-- The files that begin empty: those that are written alone, and those that are missing and not read alone.
use Rattle.std.proofs.Common.{◌≡◌, ◌==◌, ◌&&◌, ℕ, true, false, if◌then◌else◌, List, [], Result, Ok, IsTrue, refl}
use Rattle.std.proofs.Common.{◌∙◌, sym}
use Rattle.gx_words.specs.declared.faults.Fault.{Fault}
use Rattle.gx_outside.specs.declared.devices.Load.{Load}
use Rattle.gx_outside.specs.declared.devices.Load.TheVariants.{Missing}
use Rattle.gx_state.specs.declared.effects.Reply.{Reply}
use Rattle.glk_streams.specs.Constants.{read_mode, write_mode}
use Rattle.glk_world.specs.World.{Scene, FlatWorld, Outcome, MakesCall, silent, waits, arg}
use Rattle.glk_world.specs.Calls.{is_identifier, with_new_stream}
use Rattle.glk_replies.specs.Parts.{replies}
use Rattle.glk_replies.specs.declared.Turn.{Turn}
use Rattle.glk_replies.specs.declared.Turn.TheVariants as turn
use Rattle.glk_object_calls.specs.References.{open_with, open_goes_on, open_goes_on_grow, stream_open_file, file_name}
use Rattle.glk_object_calls.specs.References.{opening_grows, mode_loads}
use Rattle.glk_object_calls.proofs.Closing.{answering, turns}

pub begins_empty : (old new : FlatWorld) (selector : ℕ) (args content : List ℕ) (load : Load)
    (result : Result Reply Fault)
    → load ≡ Missing → (arg args 1 == read_mode) ≡ false → content ≡ []
    → MakesCall (IsTrue (is_identifier old.scene.next_id)) result old new (open_with old.scene selector args content)
    → MakesCall (IsTrue (open_goes_on_grow old.scene args load)) result old new
    (open_goes_on old.scene selector args load)
begins_empty old new selector args content load result is other none done = rw (is, other, ← none) done

-- nothing is opened where no identifier is left
abbrev refused : Scene → Outcome Turn
refused w = Ok (silent w, turn.Answer (replies 0))

abbrev loaded : Scene → ℕ → List ℕ → Outcome Turn
loaded w selector args = Ok (silent (waits w selector args), turn.Load (file_name w (arg args 0)))

pub none_left : (w : Scene) (selector : ℕ) (args : List ℕ) → is_identifier w.next_id ≡ false
    → stream_open_file selector w args ≡ refused w
unfolding stream_open_file open_with with_new_stream
none_left w selector args none =
    let loads = mode_loads (arg args 1) in
    rw none (elim (arg args 1 == write_mode) as
    (λ b. (if b then refused w else if loads && false then loaded w selector args else refused w) ≡ refused w) [
      | true ↦ refl
      | false ↦ elim loads as (λ b. (if b && false then loaded w selector args else refused w) ≡ refused w) [
        | true ↦ refl
        | false ↦ refl
      ]
    ])

pub written_alone : (old new : FlatWorld) (selector mode : ℕ) (args content : List ℕ) (result : Result Reply Fault)
    → mode ≡ arg args 1 → mode ≡ write_mode → content ≡ []
    → MakesCall (IsTrue (is_identifier old.scene.next_id)) result old new (open_with old.scene selector args content)
    → MakesCall (IsTrue (opening_grows old.scene args)) (answering result) old new
    (stream_open_file selector old.scene args)
unfolding stream_open_file
written_alone old new selector mode args content result at is none done = rw (sym at ∙ is, ← none)
    (turns _ _ old new (open_with old.scene selector args content) result (λ may. may) done)
