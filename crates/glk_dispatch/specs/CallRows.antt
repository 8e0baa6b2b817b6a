-- What a row of the table of Glk's calls says (Glk 0.7.5, "The Dispatch Layer"), and what rows are made of.
--
-- A row says the selector by its name, how many arguments the call needs, and what it does. `on` says that the first
-- argument names an object of a class and that with 0 for it nothing is done; `maybe_on` that it is 0 or names one.
-- `naming` says the same of another argument, `giving` which references are given 0 where nothing is done. `wants` says
-- where the call may want memory; a call without it never does.
use Rattle.std.specs.Prelude.{◌==◌, ◌&&◌, not, ℕ, Bool, true, false, List}
use Rattle.gx_state.specs.Flat.{FlatState}
use Rattle.gx_state.specs.declared.effects.Reply.{Reply}
use Rattle.glk_streams.specs.Stream as one
use Rattle.glk_world.specs.World.{Scene, Outcome, arg}
use Rattle.glk_world.specs.Calls.{is_identifier}
use Rattle.glk_replies.specs.declared.Turn.{Turn}
use Rattle.glk_object_calls.specs.Answers.{tells}
use Rattle.glk_object_calls.specs.Streams.{stream_open_memory, memory_kind}
use Rattle.glk_object_calls.specs.References.{stream_open_file, opening_grows}
use Rattle.glk_dispatch.specs.declared.table.ObjectClass.{ObjectClass}
use Rattle.glk_dispatch.specs.declared.table.ObjectClass.TheVariants.{Plain, Reference}
use Rattle.glk_dispatch.specs.declared.table.Selector.{Selector}

-- What a call does, from the world, the machine's state, the room for what is pushed, and the arguments: it answers at
-- once, or takes a turn.
pub data Doing : Type 0 where
  answers : (Scene → FlatState → ℕ → List ℕ → Outcome Reply) → Doing
  turns : (Scene → FlatState → ℕ → List ℕ → Outcome Turn) → Doing

pub record CallRow : Type 0 where
  pub looks : Selector  -- its number, and what it needs of its arguments
  pub does : Doing
  pub wants : Scene → FlatState → List ℕ → Bool  -- where it may want memory

-- ---- what it needs

abbrev pub row_with : ℕ → ℕ → Doing → CallRow
row_with number arguments does =
    let looks : Selector = record {
      number = number;
      arguments = arguments;
      first = Plain;
      needs_first = false;
      other = Plain;
      other_place = 0;
      references = 0;
      words = 0;
    } in
    record { looks = looks; does = does; wants = λ w f args. false }

abbrev pub on : ObjectClass → CallRow → CallRow
on class r = record r { looks = record r.looks { first = class; needs_first = true } }

abbrev pub maybe_on : ObjectClass → CallRow → CallRow
maybe_on class r = record r { looks = record r.looks { first = class } }

-- the argument at a place, counted from 0
abbrev pub naming : ObjectClass → ℕ → CallRow → CallRow
naming class place r = record r { looks = record r.looks { other = class; other_place = place } }

-- so many references of so many words each, from the second argument on
abbrev pub giving : ℕ → ℕ → CallRow → CallRow
giving references words r = record r { looks = record r.looks { references = references; words = words } }

-- ---- what it does

-- a call that looks at the world and its arguments alone
abbrev pub plain : (Scene → List ℕ → Outcome Reply) → Doing
plain call = answers (λ w f room args. call w args)

-- one that looks at memory too
abbrev pub looking : (Scene → FlatState → List ℕ → Outcome Reply) → Doing
looking call = answers (λ w f room args. call w f args)

-- the first of a call that takes a turn
abbrev pub taking_turn : (Scene → List ℕ → Outcome Turn) → Doing
taking_turn call = turns (λ w f room args. call w args)

-- nothing is done
abbrev pub idles : Scene → List ℕ → Outcome Reply
idles w args = tells w 0

-- ---- where it may want memory

abbrev pub wants : (Scene → FlatState → List ℕ → Bool) → CallRow → CallRow
wants grows r = record r { wants = grows }

-- for a reference that is given something: the argument at a place isn't 0
abbrev pub is_given : ℕ → Scene → FlatState → List ℕ → Bool
is_given place w f args = not (arg args place == 0)

-- ---- the same in two widths of characters

-- stream_open_file and its Unicode form, by the selector
abbrev pub opens_file : ℕ → CallRow
opens_file selector =
    wants (λ w f args. opening_grows w args)
    (on Reference (row_with selector 3 (taking_turn (stream_open_file selector))))

-- stream_open_memory and its Unicode form
abbrev pub opens_memory : ℕ → Bool → CallRow
opens_memory selector wide =
    wants (λ w f args. one.allows_mode (memory_kind args wide) (arg args 2) && is_identifier w.next_id)
    (row_with selector 4 (plain (λ w args. stream_open_memory w args wide)))
