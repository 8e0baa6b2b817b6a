-- The text beside that of buffer windows: grids, prompts and lines that were taken; or the composed screen.
use Rattle.std.specs.Prelude.{◌≢◌, ◌⊎◌, ℕ, ◌+◌, ◌==◌, ◌&&◌, not, if◌then◌else◌, Bool, true, false, List, [], ◌∷◌, ◌++◌}
use Rattle.std.specs.Prelude.{length, map, take, codes, Option, Some, None}
use Rattle.std.specs.Cmp.Lexicographic.{pointwise}
use Rattle.std.specs.Str.{encode_utf8_all}
use Rattle.glk_objects.specs.Objects as objects
use Rattle.gx_words.specs.Constants.{line_feed}
use Rattle.glk_text.specs.Characters.{shown}
use Rattle.glk_windows.specs.declared.grid.Grid.{Grid}
use Rattle.glk_screen.specs.ScreenRows.{trimmed}
use Rattle.glk_screen.specs.Screen.{composed}
use Rattle.glk_screen.specs.Wrapper.{wrapped_chars, let_go, restarted}
use Rattle.glk_world.specs.declared.grids.ShownGrid.{ShownGrid}
use Rattle.glk_world.specs.declared.views.View.TheVariants as view
use Rattle.glk_world.specs.Constants.{prompt_selector}
use Rattle.glk_world.specs.World.{WaitingCall, Scene, Said, silent, then_said, said_each, is_composed, is_wrapping}

-- ---- grids: rows without trailing blanks, without trailing empty rows

-- how many rows are left
unfoldable pub kept_rows : List (List ℕ) → ℕ
kept_rows [] = 0
kept_rows (row ∷ rows) = if kept_rows rows == 0 && length row == 0 then 0 else kept_rows rows + 1

abbrev pub shown_grid : Grid → ShownGrid
shown_grid grid = let rows = map trimmed grid.rows in record { id = grid.id; rows = take (kept_rows rows) rows }

-- the rows of a grid among those that were shown last, none at first
abbrev pub last_rows : List ShownGrid → ℕ → List (List ℕ)
last_rows grids id =
    let none : ShownGrid = record { id = 0; rows = [] } in (objects.at (λ (g : ShownGrid). g.id) none grids id).rows

abbrev pub same_rows : List (List ℕ) → List (List ℕ) → Bool
same_rows rows others = pointwise (pointwise (λ c d. c == d)) rows others

-- a row that isn't blank is shown behind a bar, on a line of its own: behind a line feed where something stands on the
-- last line
unfoldable pub said_row : Scene → List ℕ → Said
said_row w row = let start = if w.fresh then [] else line_feed ∷ [] in
    if length row == 0 then silent w else (
      record w { row = restarted w.row; fresh = true },
      start ++ (codes "| " ++ (encode_utf8_all (map shown row) ++ line_feed ∷ [])),
    )

-- a grid is shown where it differs from what was shown last
unfoldable pub said_grid : Scene → ShownGrid → Said
said_grid w grid = if same_rows grid.rows (last_rows w.shown grid.id) then silent w else said_each said_row w grid.rows

-- the grids at a wait, in order of identifiers
unfoldable pub show_rows : Scene → Said
show_rows w = let grids = map shown_grid w.windows.grids in
    then_said (said_each said_grid w grids) (λ more. silent (record more { shown = grids }))

-- ---- the composed screen

abbrev pub screen_of : Scene → List ℕ
screen_of w = composed w.screen w.windows (w.windows.columns, w.windows.rows)

abbrev pub prompt_words : List ℕ
prompt_words = codes "File name: "

-- a prompt for a file's name waits
abbrev pub is_prompting : Option WaitingCall → Bool
is_prompting None = false
is_prompting (Some call) = call.selector == prompt_selector

-- the screen at a wait, and behind it the words of a prompt that waits
unfoldable pub show_screen : Scene → Said
show_screen w = let prompt = if is_prompting w.waiting then prompt_words else [] in
    (record w { last_screen = Some (screen_of w) }, screen_of w ++ prompt)

-- a screen is the one that was shown last
abbrev pub is_last : Option (List ℕ) → List ℕ → Bool
is_last None screen = false
is_last (Some last) screen = pointwise (λ c d. c == d) last screen

-- the screen once more, where it differs from the one shown last
abbrev pub screen_again : Scene → Said
screen_again w = if not (is_last w.last_screen (screen_of w))
    then (record w { last_screen = Some (screen_of w) }, screen_of w) else silent w

-- ---- wrapped text

-- characters come to the present row
abbrev pub wrapped_text : Scene → List ℕ → Said
wrapped_text w cs = (record w { row = (wrapped_chars w.row cs).1 }, encode_utf8_all (wrapped_chars w.row cs).0)

-- what is held of it is let go
abbrev pub row_let_go : Scene → Said
row_let_go w = (record w { row = (let_go w.row).1 }, encode_utf8_all (let_go w.row).0)

-- something is held
abbrev pub IsHeld : Scene → Type 0
IsHeld w = w.row.row ≢ []

-- ---- at a wait, and at the end

-- What is shown at a wait, in each view.
unfoldable pub show_grids : Scene → Said
show_grids w = elim w.view [
  | view.Rows ↦ show_rows w
  | view.Plain ↦ silent w
  | view.Screen ↦ show_screen w
  | view.WrappedRows ↦ then_said (row_let_go w) show_rows
  | view.WrappedPlain ↦ row_let_go w
]

-- where that may want memory
abbrev pub ShowWants : Scene → Type 0
ShowWants w = elim w.view [
  | view.Rows ↦ w.windows.grids ≢ []
  | view.Plain ↦ ⊥
  | view.Screen ↦ Unit {0}
  | view.WrappedRows ↦ IsHeld w ⊎ (w.windows.grids ≢ [])
  | view.WrappedPlain ↦ IsHeld w
]

-- What is shown at the end of a run: the last screen, or what is held.
unfoldable pub end_text : Scene → Said
end_text w = elim w.view [
  | view.Rows ↦ silent w
  | view.Plain ↦ silent w
  | view.Screen ↦ screen_again w
  | view.WrappedRows ↦ row_let_go w
  | view.WrappedPlain ↦ row_let_go w
]

-- where that may want memory
abbrev pub EndWants : Scene → Type 0
EndWants w = elim w.view [
  | view.Rows ↦ ⊥
  | view.Plain ↦ ⊥
  | view.Screen ↦ Unit {0}
  | view.WrappedRows ↦ IsHeld w
  | view.WrappedPlain ↦ IsHeld w
]

-- ---- prompts and lines: nothing stands beside the composed screen

-- the words of a prompt for a file's name; a view that wraps holds nothing of them back
unfoldable pub show_prompt : Scene → Said
show_prompt w = if is_composed w then silent w else
    if is_wrapping w then then_said (wrapped_text (record w { fresh = false }) prompt_words) row_let_go
    else (record w { fresh = false }, prompt_words)

-- a line that was taken, as shown
unfoldable pub show_line : Scene → List ℕ → Said
show_line w line = if is_composed w then silent w else
    if is_wrapping w then wrapped_text (record w { fresh = true }) (map shown line ++ line_feed ∷ [])
    else (record w { fresh = true }, encode_utf8_all (map shown line) ++ line_feed ∷ [])

-- a line was taken: nothing was shown since then, and a paragraph begins
abbrev pub line_taken : Scene → Scene
line_taken w = record w { row = restarted w.row; fresh = true }
