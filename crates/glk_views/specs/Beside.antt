-- What is said in a view that wraps, beside what is said in the view that doesn't.
use Rattle.std.specs.Prelude.{◌≡◌, ◌≤◌, ℕ, Bool, true, false, List, Ok, Err}
use Rattle.std.specs.Str.{encode_utf8_all}
use Rattle.gx_words.specs.declared.faults.Fault.{Fault}
use Rattle.glk_screen.specs.Wrapper.{FlatWrapper, no_row}
use Rattle.glk_world.specs.declared.views.View.{View}
use Rattle.glk_world.specs.declared.views.View.TheVariants as view
use Rattle.glk_world.specs.World.{Scene, Said, Outcome}
use Rattle.glk_views.specs.Parts.{Part, as_it_comes, lines_taken, wrapped}

-- the views with rows of grids, and those without
abbrev pub wrapping_view : Bool → View
wrapping_view true = view.WrappedRows
wrapping_view false = view.WrappedPlain

abbrev pub plain_view : Bool → View
plain_view true = view.Rows
plain_view false = view.Plain

-- a scene in a view that wraps, with a present row, and in the one that doesn't, where no row is used
abbrev pub in_wrapping : Bool → FlatWrapper → Scene → Scene
in_wrapping rows r w = record w { view = wrapping_view rows; row = r }

abbrev pub in_plain : Bool → ℕ → Scene → Scene
in_plain rows limit w = record w { view = plain_view rows; row = no_row limit }

-- What is said in a view that wraps, from a row on, beside what is said in the other: the scenes are the same but for
-- view and row, and the texts are those of the same parts, where so many lines are taken at most.
pub record SaysBeside (most : ℕ) (rows : Bool) (limit : ℕ) (r : FlatWrapper) (wrapping plain : Said) : Type 0 where
  pub scene : Scene
  pub parts : List Part
  pub wraps : wrapping ≡ (in_wrapping rows (wrapped r parts).1 scene, encode_utf8_all (wrapped r parts).0)
  pub comes : plain ≡ (in_plain rows limit scene, encode_utf8_all (as_it_comes parts))
  pub lines : lines_taken parts ≤ most

-- What a call comes to: so much, and the same answer; or the same fault.
pub data ComesBeside (most : ℕ) (rows : Bool) (limit : ℕ) (r : FlatWrapper) {X : Type 0}
    : Outcome X → Outcome X → Type 0 where
  comes_to : {a b : Said} {x : X} → SaysBeside most rows limit r a b
      → ComesBeside most rows limit r (Ok (a, x)) (Ok (b, x))
  fails : (e : Fault) → ComesBeside most rows limit r (Err e) (Err e)
