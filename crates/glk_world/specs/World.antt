-- The Glk world (Glk 0.7.5): all that its calls look at, and the text that is shown.
use Rattle.std.specs.Prelude.{ℕ, List, [], ◌++◌, ◌∷◌, slice_index, Bool, true, false, Option, Some, None, Result, Ok}
use Rattle.std.specs.Prelude.{Err}
use Rattle.gx_words.specs.declared.faults.Fault.{Fault}
use Rattle.gx_words.specs.Faults.{MayLose}
use Rattle.glk_objects.specs.Objects as objects
use Rattle.glk_streams.specs.declared.kinds.Stream.{Stream}
use Rattle.glk_windows.specs.Windows.{FlatWindows, no_windows}
use Rattle.glk_events.specs.declared.requests.Request.{Request}
use Rattle.glk_screen.specs.Texts.{FlatText}
use Rattle.glk_screen.specs.Wrapper.{FlatWrapper, no_row}
use Rattle.glk_world.specs.declared.references.FileReference.{FileReference}
use Rattle.glk_world.specs.declared.grids.ShownGrid.{ShownGrid}
use Rattle.glk_world.specs.declared.views.View.{View}
use Rattle.glk_world.specs.declared.views.View.TheVariants as view

-- a Glk call that waits to go on: its selector and its arguments
pub record WaitingCall : Type 0 where
  pub selector : ℕ
  pub arguments : List ℕ

-- What Glk calls look at. Objects of all classes take their identifiers from one sequence.
pub record Scene : Type 0 where
  pub windows : FlatWindows  -- with their tree, their grids and the size of the screen
  pub view : View  -- how the text is put together
  pub shown : List ShownGrid  -- the grids as they were shown last
  pub screen : List FlatText  -- for the composed screen: the text of each buffer window
  pub last_screen : Option (List ℕ)  -- the screen as it was shown last
  pub streams : List Stream
  pub references : List FileReference
  pub requests : List Request
  pub current : ℕ  -- the current stream, 0 for none
  pub next_id : ℕ  -- the identifier of the next object
  pub row : FlatWrapper  -- for a view that wraps: the present row of text
  pub fresh : Bool  -- nothing was shown since the last line feed or the last line that was taken
  pub waiting : Option WaitingCall

-- A world is a scene and its text. No call looks at the text, and each adds at its end.
pub record FlatWorld : Type 0 where
  pub scene : Scene
  pub text : List ℕ

-- what a call makes: the scene after it, and the text that it adds
abbrev pub Said : Type 0
Said = Scene × List ℕ

-- the world after a call
abbrev pub after : FlatWorld → Said → FlatWorld
after w said = record { scene = said.0; text = w.text ++ said.1 }

-- nothing is said
abbrev pub silent : Scene → Said
silent w = (w, [])

-- what a call comes to: what it makes and its answer, or a fault
abbrev pub Outcome : Type 0 → Type 0
Outcome X = Result (Said × X) Fault

-- a call that adds no text
abbrev pub answered : {X : Type 0} → Scene → X → Outcome X
answered w answer = Ok (silent w, answer)

-- a call on a world: its text grows by what the call adds
abbrev pub on_world : {X : Type 0} → FlatWorld → Outcome X → Result (FlatWorld × X) Fault
on_world w (Ok r) = Ok (after w r.0, r.1)
on_world w (Err e) = Err e

-- How the answer of a call relates to what it comes to. It may want memory where this holds, and then the world can
-- only be dropped; it stands after every other fault.
abbrev pub MakesCall : {X : Type 0} → Type 0 → Result X Fault → FlatWorld → FlatWorld → Outcome X → Type 0
MakesCall wants result old new outcome = MayLose wants (λ x. x) result old new (on_world old outcome)

-- one thing said after another
abbrev pub then_said : Said → (Scene → Said) → Said
then_said first more = ((more first.0).0, first.1 ++ (more first.0).1)

-- each of a list said after the one before it
unfoldable pub said_each : {A : Type 0} → (Scene → A → Said) → Scene → List A → Said
said_each say w [] = silent w
said_each say w (x ∷ xs) = then_said (say w x) (λ more. said_each say more xs)

-- the screen is composed, and no text stands beside it
abbrev pub is_composed : Scene → Bool
is_composed w = elim w.view [
  | view.Rows ↦ false
  | view.Plain ↦ false
  | view.Screen ↦ true
  | view.WrappedRows ↦ false
  | view.WrappedPlain ↦ false
]

-- text is wrapped
abbrev pub wraps : View → Bool
wraps view.WrappedRows = true
wraps view.WrappedPlain = true
wraps v = false

abbrev pub is_wrapping : Scene → Bool
is_wrapping w = wraps w.view

-- what comes to a text buffer is text as it comes: the screen isn't composed, and no text is wrapped
abbrev pub is_direct : View → Bool
is_direct view.Rows = true
is_direct view.Plain = true
is_direct v = false

-- the world before any call, on a screen of so many columns and rows
abbrev pub empty_world : View → ℕ → ℕ → FlatWorld
empty_world v columns rows = record {
  scene = record {
    windows = no_windows columns rows;
    view = v;
    shown = [];
    screen = [];
    last_screen = None;
    streams = [];
    references = [];
    requests = [];
    current = 0;
    next_id = 1;
    row = no_row columns;
    fresh = true;
    waiting = None;
  };
  text = [];
}

-- ---- file references

abbrev pub reference_id : FileReference → ℕ
reference_id r = r.id

abbrev pub no_reference : FileReference
no_reference = record { id = 0; base = []; usage = 0; rock = 0 }

abbrev pub has_reference : Scene → ℕ → Bool
has_reference w id = objects.has reference_id w.references id

abbrev pub reference_at : Scene → ℕ → FileReference
reference_at w id = objects.at reference_id no_reference w.references id

-- ---- arguments, and calls that wait

-- an argument, counted from 0; one that isn't there is 0
abbrev pub arg : List ℕ → ℕ → ℕ
arg args i = slice_index args i

-- a call waits with its first three arguments
abbrev pub waits : Scene → ℕ → List ℕ → Scene
waits w selector args = let first = arg args 0 ∷ arg args 1 ∷ arg args 2 ∷ [] in
    record w { waiting = Some (record { selector = selector; arguments = first }) }
