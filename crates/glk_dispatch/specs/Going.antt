-- A call that waited goes on with what it was given: to an answer, or a fault.
use Rattle.std.specs.Prelude.{ℕ, ◌==◌, ◌&&◌, not, if◌then◌else◌, Bool, false, length, Option, Some, None, Err}
use Rattle.gx_words.specs.declared.faults.Fault.TheVariants.{BadGlk}
use Rattle.gx_state.specs.Flat.{FlatState}
use Rattle.gx_state.specs.declared.effects.Reply.{Reply}
use Rattle.glk_world.specs.World.{WaitingCall, Scene, Outcome, arg}
use Rattle.glk_world.specs.Calls.{is_identifier}
use Rattle.glk_replies.specs.declared.Turn.{Turn}
use Rattle.glk_replies.specs.declared.Given.{Given}
use Rattle.glk_replies.specs.declared.Given.TheVariants as given
use Rattle.glk_replies.specs.Numbers as selectors
use Rattle.glk_replies.specs.TextNumbers as texts
use Rattle.glk_object_calls.specs.Answers.{tells, as_turn}
use Rattle.glk_object_calls.specs.Streams.{close}
use Rattle.glk_object_calls.specs.References.{prompt_goes_on, open_goes_on, open_goes_on_grow}
use Rattle.glk_event_calls.specs.Events.{select_goes_on, select_goes_on_grow}

-- with a line for the call that waits for an event, or for a prompt; with a file that was loaded, stored, or removed or
-- looked for
abbrev pub resumed : Scene → FlatState → ℕ → WaitingCall → Given → Outcome Reply
resumed w f room call (given.Line line) = if call.selector == texts.select
    then select_goes_on w f room call.arguments line else prompt_goes_on w call.arguments line
resumed w f room call (given.Loaded load) = open_goes_on w call.selector call.arguments load
resumed w f room call given.Stored = close w f room call.arguments
resumed w f room call (given.Was was) =
    tells w (if call.selector == selectors.fileref_does_file_exist && was then 1 else 0)

-- it waits no longer then
abbrev pub go_by : Option WaitingCall → Scene → FlatState → ℕ → Given → Outcome Turn
go_by None w f room g = Err BadGlk
go_by (Some call) w f room g = as_turn (resumed (record w { waiting = None }) f room call g)

unfoldable pub glk_go_on : Scene → FlatState → ℕ → Given → Outcome Turn
glk_go_on w f room g = go_by w.waiting w f room g

-- ---- where memory may be wanted

abbrev pub resumed_grow : Scene → FlatState → WaitingCall → Given → Bool
resumed_grow w f call (given.Line line) = if call.selector == texts.select
    then select_goes_on_grow w f call.arguments line else not (length line == 0) && is_identifier w.next_id
resumed_grow w f call (given.Loaded load) = open_goes_on_grow w call.arguments load
resumed_grow w f call given.Stored = not (arg call.arguments 1 == 0)
resumed_grow w f call (given.Was was) = false

unfoldable pub go_grows : Scene → FlatState → Given → Bool
go_grows w f g = elim w.waiting [ None ↦ false | Some call ↦ resumed_grow (record w { waiting = None }) f call g ]
