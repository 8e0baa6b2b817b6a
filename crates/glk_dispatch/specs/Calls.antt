-- A call of Glk (Glk 0.7.5, "The Dispatch Layer").
--
-- Every call is looked at in one order. BadGlk: no such selector, too few arguments, an identifier other than 0 that
-- names no object of its class. Then a call on the object 0 does nothing, where its row needs the object. Any other
-- does what its row says, which looks at addresses, the arguments from the left to the right, and then at the room for
-- what is pushed; then it changes the world. Spare arguments drop.
use Rattle.std.specs.Prelude.{◌≡◌, ℕ, ◌==◌, ◌&&◌, ◌||◌, not, nat_lt, nat_le, if◌then◌else◌, Bool, true, false}
use Rattle.std.specs.Prelude.{List, [], ◌∷◌, length, replicate, Some, None, Result, Ok, Err}
use Rattle.gx_words.specs.declared.faults.Fault.{Fault}
use Rattle.gx_words.specs.declared.faults.Fault.TheVariants.{BadGlk}
use Rattle.gx_words.specs.Results.{◌>>=◌}
use Rattle.gx_state.specs.Flat.{FlatState}
use Rattle.gx_state.specs.declared.effects.Reply.{Reply}
use Rattle.glk_streams.specs.Streams as streams
use Rattle.glk_windows.specs.Windows.{is_window}
use Rattle.glk_world.specs.World.{Scene, has_reference, Outcome, arg}
use Rattle.glk_replies.specs.declared.Turn.{Turn}
use Rattle.glk_replies.specs.declared.Turn.TheVariants.{Answer}
use Rattle.glk_replies.specs.Parts.{give, give_each}
use Rattle.glk_object_calls.specs.Answers.{tells, replying, as_turn}
use Rattle.glk_dispatch.specs.declared.table.ObjectClass.{ObjectClass}
use Rattle.glk_dispatch.specs.declared.table.ObjectClass.TheVariants.{Plain, Window, Stream, Reference}
use Rattle.glk_dispatch.specs.declared.table.Selector.{Selector}
use Rattle.glk_dispatch.specs.CallRows.{Doing, answers, turns}
use Rattle.glk_dispatch.specs.Table.{row_for, is_dropped}

-- ---- the looks at arguments

-- an object of a class has this identifier
abbrev pub has_object : Scene → ObjectClass → ℕ → Bool
has_object w Plain id = true
has_object w Window id = is_window w.windows id
has_object w Stream id = streams.has w.streams id
has_object w Reference id = has_reference w id

-- an argument that names an object is 0 or names one
abbrev pub named : Scene → ObjectClass → ℕ → Result (Unit {0}) Fault
named w class id = if id == 0 || has_object w class id then Ok tt else Err BadGlk

unfoldable pub looked_at : Scene → Selector → List ℕ → Result (Unit {0}) Fault
looked_at w row args = if nat_lt (length args) row.arguments then Err BadGlk else
    named w row.first (arg args 0) >>= λ first. named w row.other (arg args row.other_place)

-- a call on the object 0
abbrev pub is_on_none : Selector → List ℕ → Bool
is_on_none row args = row.needs_first && arg args 0 == 0

-- It does nothing, and gives 0 to its references: to one for all its words, or to some of one word each.
unfoldable pub nothing : Scene → FlatState → ℕ → Selector → List ℕ → Outcome Reply
nothing w f room row args = if row.references == 0 then tells w 0 else
    replying w (if row.references == 1 then give f room 0 (arg args 1) (replicate row.words 0) else
    if row.references == 2 then give_each f room 0 (arg args 1 ∷ arg args 2 ∷ []) (0 ∷ 0 ∷ []) else
    give_each f room 0 (arg args 1 ∷ arg args 2 ∷ arg args 3 ∷ []) (0 ∷ 0 ∷ 0 ∷ []))

-- ---- the call

-- an answer as a turn
abbrev pub answer_turn : Result Reply Fault → Result Turn Fault
answer_turn (Ok reply) = Ok (Answer reply)
answer_turn (Err e) = Err e

abbrev pub done : Doing → Scene → FlatState → ℕ → List ℕ → Outcome Turn
done (answers call) w f room args = as_turn (call w f room args)
done (turns call) w f room args = call w f room args

-- THE CALL of a selector, by its row; where there is none, arguments are dropped, or there is no such call.
unfoldable pub glk_call : Scene → FlatState → ℕ → ℕ → List ℕ → Outcome Turn
glk_call w f room selector args = elim (row_for selector) [
  | None ↦ if is_dropped selector then as_turn (tells w 0) else Err BadGlk
  | Some row ↦ do
    there ← looked_at w row.looks args
    if is_on_none row.looks args then as_turn (nothing w f room row.looks args) else done row.does w f room args
]

-- ---- where it may want memory

-- a call that does nothing gives to a reference
abbrev pub gives_nothing : Selector → List ℕ → Bool
gives_nothing row args = (nat_le 1 row.references && not (arg args 1 == 0))
    || (nat_le 2 row.references && not (arg args 2 == 0)) || (nat_le 3 row.references && not (arg args 3 == 0))

-- the call of a selector that may want memory: one that adds text, writes, pushes, names a file or makes an object
unfoldable pub grows : Scene → FlatState → ℕ → List ℕ → Bool
grows w f selector args = elim (row_for selector) [
  | None ↦ false
  | Some row ↦ if is_on_none row.looks args then gives_nothing row.looks args else row.wants w f args
]

abbrev pub IsGrowing : Scene → FlatState → ℕ → List ℕ → Type 0
IsGrowing w f selector args = grows w f selector args ≡ true
