-- What a call that waits goes on with.
use Rattle.std.specs.Prelude.{◌≡◌, ◌⊎◌, ℕ, true, List, [], ◌∷◌, Option, Some, None, Result, Ok, Err}
use Rattle.gx_words.specs.declared.faults.Fault.{Fault}
use Rattle.gx_words.specs.declared.faults.Fault.TheVariants.{NoMemory}
use Rattle.gx_state.specs.Flat.{FlatState}
use Rattle.gx_outside.specs.Outside.{IsBounded}
use Rattle.glk_streams.specs.Constants.{largest}
use Rattle.glk_streams.specs.Stream as one
use Rattle.glk_streams.specs.Streams as streams
use Rattle.glk_events.specs.declared.requests.Request.{Request}
use Rattle.glk_world.specs.World.{WaitingCall, Scene, has_reference, arg}
use Rattle.glk_replies.specs.Numbers as selectors
use Rattle.glk_replies.specs.TextNumbers as texts
use Rattle.glk_replies.specs.Parts.{can_give_pair}
use Rattle.glk_object_calls.specs.References.{mode_loads}
use Rattle.glk_replies.specs.declared.Given.{Given}
use Rattle.glk_replies.specs.declared.Given.TheVariants as given

-- some window waits for a line or a character
abbrev pub HasRequest : List Request → Type 0
HasRequest [] = ⊥
HasRequest (r ∷ rs) = Unit {0}

-- what the waiting call goes on with, and what it needs then
abbrev pub IsAwaited : Scene → WaitingCall → Given → Type 0
IsAwaited w call (given.Line line) =
    ((call.selector ≡ texts.select) × HasRequest w.requests) ⊎ (call.selector ≡ selectors.fileref_create_by_prompt)
IsAwaited w call (given.Loaded load) =
    ((call.selector ≡ selectors.stream_open_file) ⊎ (call.selector ≡ selectors.stream_open_file_uni))
    × (has_reference w (arg call.arguments 0) ≡ true)
    × (mode_loads (arg call.arguments 1) ≡ true)
    × IsBounded largest load
IsAwaited w call given.Stored =
    (call.selector ≡ selectors.stream_close)
    × (streams.has w.streams (arg call.arguments 0) ≡ true)
    × (one.window_of (streams.stream w.streams (arg call.arguments 0)) ≡ 0)
IsAwaited w call (given.Was was) =
    (call.selector ≡ selectors.fileref_delete_file) ⊎ (call.selector ≡ selectors.fileref_does_file_exist)

abbrev pub AwaitsIn : Scene → Option WaitingCall → Given → Type 0
AwaitsIn w None g = ⊥
AwaitsIn w (Some call) g = IsAwaited w call g

-- the call that waits goes on with this
unfoldable pub Awaits : Scene → Given → Type 0
Awaits w g = AwaitsIn w w.waiting g

-- ---- no look is left for later

-- The looks at what a call gives back were made before it asked: a stream_close looks at its reference before the file
-- is stored. A line is looked at once it is there.
abbrev pub IsLookedBy : FlatState → ℕ → WaitingCall → Given → Type 0
IsLookedBy f room call (given.Line line) = Unit {0}
IsLookedBy f room call (given.Loaded load) = Unit {0}
IsLookedBy f room call given.Stored = can_give_pair f room (arg call.arguments 1) ≡ Ok tt
IsLookedBy f room call (given.Was was) = Unit {0}

abbrev pub LookedIn : FlatState → ℕ → Option WaitingCall → Given → Type 0
LookedIn f room None g = ⊥
LookedIn f room (Some call) g = IsLookedBy f room call g

unfoldable pub Looked : FlatState → ℕ → Scene → Given → Type 0
Looked f room w g = LookedIn f room w.waiting g

-- what stands under a name, that it is stored, whether it was there: all that is given but a line
abbrev pub IsOfFile : Given → Type 0
IsOfFile (given.Line line) = ⊥
IsOfFile (given.Loaded load) = Unit {0}
IsOfFile given.Stored = Unit {0}
IsOfFile (given.Was was) = Unit {0}

-- an answer, or want of memory
abbrev pub MeetsNoFault : {X : Type 0} → Result X Fault → Type 0
MeetsNoFault (Ok x) = Unit {0}
MeetsNoFault (Err e) = e ≡ NoMemory
