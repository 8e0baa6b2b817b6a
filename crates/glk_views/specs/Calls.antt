-- The calls of Glk, in a view that wraps and in the one that doesn't.
use Rattle.std.specs.Prelude.{ℕ, Bool, List}
use Rattle.gx_state.specs.Flat.{FlatState}
use Rattle.glk_screen.specs.Wrapper.{FlatWrapper}
use Rattle.glk_world.specs.World.{Scene}
use Rattle.glk_world.specs.Shown.{show_grids, show_line, end_text}
use Rattle.glk_replies.specs.declared.Given.{Given}
use Rattle.glk_replies.specs.declared.Given.TheVariants as given
use Rattle.glk_text_calls.specs.Output.{putting}
use Rattle.glk_text_calls.specs.PuttingSaves.{put_save, take_rest}
use Rattle.glk_dispatch.specs.Calls.{glk_call}
use Rattle.glk_dispatch.specs.Going.{glk_go_on}
use Rattle.glk_views.specs.Beside.{in_wrapping, in_plain, SaysBeside, ComesBeside}

-- a line is taken by what goes on with one
abbrev pub lines_in : Given → ℕ
lines_in (given.Line line) = 1
lines_in g = 0

-- Each call comes to the same, and so does each that goes on, a character that the program prints, and the bytes of a
-- save that are put or taken. So does what is shown at a wait, for a line that was taken, and at the end.
pub record CallsBeside : Type 0 where
  pub calls : (rows : Bool) (limit : ℕ) (r : FlatWrapper) (w : Scene) (f : FlatState) (room selector : ℕ)
      (args : List ℕ)
      → ComesBeside 0 rows limit r (glk_call (in_wrapping rows r w) f room selector args)
      (glk_call (in_plain rows limit w) f room selector args)
  pub goes_on : (rows : Bool) (limit : ℕ) (r : FlatWrapper) (w : Scene) (f : FlatState) (room : ℕ) (g : Given)
      → ComesBeside (lines_in g) rows limit r (glk_go_on (in_wrapping rows r w) f room g)
      (glk_go_on (in_plain rows limit w) f room g)
  pub prints : (rows : Bool) (limit : ℕ) (r : FlatWrapper) (w : Scene) (f : FlatState) (c : ℕ)
      → ComesBeside 0 rows limit r (putting (in_wrapping rows r w) f c) (putting (in_plain rows limit w) f c)
  pub saves : (rows : Bool) (limit : ℕ) (r : FlatWrapper) (w : Scene) (f : FlatState) (id : ℕ) (bytes : List ℕ)
      → ComesBeside 0 rows limit r (put_save (in_wrapping rows r w) f id bytes)
      (put_save (in_plain rows limit w) f id bytes)
  pub restores : (rows : Bool) (limit : ℕ) (r : FlatWrapper) (w : Scene) (f : FlatState) (id : ℕ)
      → ComesBeside 0 rows limit r (take_rest (in_wrapping rows r w) f id) (take_rest (in_plain rows limit w) f id)
  pub shows : (rows : Bool) (limit : ℕ) (r : FlatWrapper) (w : Scene)
      → SaysBeside 0 rows limit r (show_grids (in_wrapping rows r w)) (show_grids (in_plain rows limit w))
  pub shows_line : (rows : Bool) (limit : ℕ) (r : FlatWrapper) (w : Scene) (line : List ℕ)
      → SaysBeside 0 rows limit r (show_line (in_wrapping rows r w) line) (show_line (in_plain rows limit w) line)
  pub ends : (rows : Bool) (limit : ℕ) (r : FlatWrapper) (w : Scene)
      → SaysBeside 0 rows limit r (end_text (in_wrapping rows r w)) (end_text (in_plain rows limit w))
