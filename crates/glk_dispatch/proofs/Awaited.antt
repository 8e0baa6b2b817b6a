-- What a call that waits goes on with stays the same while grids, lines and the screen are shown: that changes only
-- what was shown last, the present row, and whether something was shown since the last line feed.
use Rattle.std.proofs.Common.{◌≡◌, ℕ, ◌==◌, Bool, true, false, if◌then◌else◌, List, [], ◌∷◌, ◌++◌, length, map, codes}
use Rattle.std.proofs.Common.{Option, Some, refl, sym, subst, ap, ◌∙◌}
use Rattle.std.specs.Str.{encode_utf8_all}
use Rattle.gx_words.specs.Constants.{line_feed}
use Rattle.glk_text.specs.Characters.{shown}
use Rattle.glk_world.specs.declared.views.View.{View}
use Rattle.glk_world.specs.declared.views.View.TheVariants as view
use Rattle.glk_screen.specs.Wrapper.{FlatWrapper, wrapped_chars, let_go, restarted}
use Rattle.glk_world.specs.World.{Scene, Said, silent, then_said, said_each, is_composed, is_wrapping}
use Rattle.glk_world.specs.Shown.{said_row, said_grid, show_rows, screen_of, show_screen}
use Rattle.glk_world.specs.Shown.{show_grids, show_line, wrapped_text, row_let_go, same_rows, last_rows, shown_grid}
use Rattle.glk_world.specs.declared.grids.ShownGrid.{ShownGrid}
use Rattle.glk_replies.specs.declared.Given.{Given}
use Rattle.glk_replies.specs.declared.Given.TheVariants as given
use Rattle.glk_dispatch.specs.Turns.{Awaits}

-- a scene after something was shown, or nothing
abbrev with_mark : Scene → FlatWrapper → Bool → Scene
with_mark w row fresh = record w { row = row; fresh = fresh }

abbrev IsShown : Scene → Scene → Type 0
IsShown w v = v ≡ with_mark w v.row v.fresh

row_shown : (w : Scene) (row : List ℕ) → IsShown w (said_row w row).0
unfolding said_row
row_shown w row =
    elim (length row == 0) as
    (λ none. let v : Said = if none then silent w
    else (
      record w { row = restarted w.row; fresh = true },
      (if w.fresh then [] else line_feed ∷ []) ++ (codes "| " ++ (encode_utf8_all (map shown row) ++ line_feed ∷ [])),
    ) in IsShown w v.0) [
      | true ↦ refl
      | false ↦ refl
    ]

-- one thing shown after another
both_shown : (w v u : Scene) → IsShown w v → IsShown v u → IsShown w u
both_shown w v u first more = more ∙ ap (λ (x : Scene). with_mark x u.row u.fresh) first

rows_shown : (w : Scene) (rows : List (List ℕ)) → IsShown w (said_each said_row w rows).0
unfolding said_each
rows_shown w [] = refl
rows_shown w (row ∷ rows) =
    both_shown w (said_row w row).0 (said_each said_row (said_row w row).0 rows).0 (row_shown w row)
    (rows_shown (said_row w row).0 rows)

grid_shown : (w : Scene) (grid : ShownGrid) → IsShown w (said_grid w grid).0
unfolding said_grid
grid_shown w grid =
    elim (same_rows grid.rows (last_rows w.shown grid.id)) as
    (λ same. let v : Said = if same then silent w else said_each said_row w grid.rows in IsShown w v.0) [
      | true ↦ refl
      | false ↦ rows_shown w grid.rows
    ]

grids_shown : (w : Scene) (grids : List ShownGrid) → IsShown w (said_each said_grid w grids).0
unfolding said_each
grids_shown w [] = refl
grids_shown w (grid ∷ grids) =
    both_shown w (said_grid w grid).0 (said_each said_grid (said_grid w grid).0 grids).0 (grid_shown w grid)
    (grids_shown (said_grid w grid).0 grids)

-- what is shown isn't looked at
awaits_still : (w : Scene) (shown : List ShownGrid) (last : Option (List ℕ)) (row : FlatWrapper) (fresh : Bool)
    (g : Given) → Awaits w g → Awaits (record w { shown = shown; last_screen = last; row = row; fresh = fresh }) g
unfolding Awaits
awaits_still w shown last row fresh (given.Line line) is = is
awaits_still w shown last row fresh (given.Loaded load) is = is
awaits_still w shown last row fresh given.Stored is = is
awaits_still w shown last row fresh (given.Was was) is = is

abbrev plain_or_wrapped : Bool → Scene → List ℕ → Said
plain_or_wrapped b w line =
    if b then wrapped_text (record w { fresh = true }) (map shown line ++ line_feed ∷ [])
    else (record w { fresh = true }, encode_utf8_all (map shown line) ++ line_feed ∷ [])

awaits_wrapped : (w : Scene) (cs : List ℕ) (fresh : Bool) (g : Given) → Awaits w g
    → Awaits (wrapped_text (record w { fresh = fresh }) cs).0 g
awaits_wrapped w cs fresh g is = awaits_still w w.shown w.last_screen (wrapped_chars w.row cs).1 fresh g is

awaits_text : (b : Bool) (w : Scene) (line : List ℕ) (g : Given) → Awaits w g
    → Awaits (plain_or_wrapped b w line).0 g
awaits_text true w line g is = awaits_wrapped w (map shown line ++ line_feed ∷ []) true g is
awaits_text false w line g is = awaits_still w w.shown w.last_screen w.row true g is

pub awaits-line : (w : Scene) (line : List ℕ) (g : Given) → Awaits w g → Awaits (show_line w line).0 g
unfolding show_line
awaits-line w line g is =
    elim (is_composed w) as
    (λ b. Awaits (if b then silent w else plain_or_wrapped (is_wrapping w) w line).0 g) [
      | true ↦ is
      | false ↦ awaits_text (is_wrapping w) w line g is
    ]

awaits_rows : (w : Scene) (g : Given) → Awaits w g → Awaits (show_rows w).0 g
unfolding show_rows
awaits_rows w g is =
    let grids : List ShownGrid = map shown_grid w.windows.grids in
    subst (λ (x : Scene). Awaits (record x { shown = grids }) g) (sym (grids_shown w grids))
    (awaits_still w grids w.last_screen (said_each said_grid w grids).0.row (said_each said_grid w grids).0.fresh g is)

awaits_screen : (w : Scene) (g : Given) → Awaits w g → Awaits (show_screen w).0 g
unfolding show_screen
awaits_screen w g is = awaits_still w w.shown (Some (screen_of w)) w.row w.fresh g is

awaits_let_go : (w : Scene) (g : Given) → Awaits w g → Awaits (row_let_go w).0 g
awaits_let_go w g is = awaits_still w w.shown w.last_screen (let_go w.row).1 w.fresh g is

abbrev shown_in : View → Scene → Said
shown_in v w = elim v [
  | view.Rows ↦ show_rows w
  | view.Plain ↦ silent w
  | view.Screen ↦ show_screen w
  | view.WrappedRows ↦ then_said (row_let_go w) show_rows
  | view.WrappedPlain ↦ row_let_go w
]

awaits_view : (v : View) (w : Scene) (g : Given) → Awaits w g → Awaits (shown_in v w).0 g
awaits_view view.Rows w g is = awaits_rows w g is
awaits_view view.Plain w g is = is
awaits_view view.Screen w g is = awaits_screen w g is
awaits_view view.WrappedRows w g is = awaits_rows (row_let_go w).0 g (awaits_let_go w g is)
awaits_view view.WrappedPlain w g is = awaits_let_go w g is

pub awaits-grids : (w : Scene) (g : Given) → Awaits w g → Awaits (show_grids w).0 g
unfolding show_grids
awaits-grids w g is = awaits_view w.view w g is
