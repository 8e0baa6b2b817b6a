-- What comes to the text of a run, part by part, and the text that it makes as it comes, and wrapped.
use Rattle.std.specs.Prelude.{ℕ, suc, if◌then◌else◌, Bool, List, [], ◌∷◌, ◌++◌, codes}
use Rattle.gx_words.specs.Constants.{line_feed}
use Rattle.glk_screen.specs.Wrapper.{FlatWrapper, LetGo, no_row, wrapped_char, let_go, restarted}

pub data Part : Type 0 where
  comes : ℕ → Part  -- a character
  grid_row : Bool → List ℕ → Part  -- a row of a grid, where nothing stands on the last line, or something does
  goes : Part  -- all that is held back is let go: at a wait, a prompt or the end
  taken : Part  -- a line was taken

-- the row of a grid behind a bar, on a line of its own
abbrev pub barred : Bool → List ℕ → List ℕ
barred fresh cs = (if fresh then [] else line_feed ∷ []) ++ (codes "| " ++ (cs ++ line_feed ∷ []))

-- as it comes
abbrev pub as_it_comes : List Part → List ℕ
as_it_comes [] = []
as_it_comes (comes c ∷ parts) = c ∷ as_it_comes parts
as_it_comes (grid_row fresh cs ∷ parts) = barred fresh cs ++ as_it_comes parts
as_it_comes (goes ∷ parts) = as_it_comes parts
as_it_comes (taken ∷ parts) = as_it_comes parts

-- What a part lets go of a row, and the row after it. Rows of grids stand as they are, and a paragraph begins after
-- them and after a line that was taken.
abbrev pub part_wrapped : FlatWrapper → Part → LetGo
part_wrapped r (comes c) = wrapped_char r c
part_wrapped r (grid_row fresh cs) = (r.row ++ barred fresh cs, no_row r.limit)
part_wrapped r goes = let_go r
part_wrapped r taken = ([], restarted r)

-- how many lines were taken
abbrev pub lines_taken : List Part → ℕ
lines_taken [] = 0
lines_taken (taken ∷ parts) = suc (lines_taken parts)
lines_taken (part ∷ parts) = lines_taken parts

-- wrapped
abbrev pub wrapped : FlatWrapper → List Part → LetGo
wrapped r [] = ([], r)
wrapped r (part ∷ parts) = let first = part_wrapped r part in
    (first.0 ++ (wrapped first.1 parts).0, (wrapped first.1 parts).1)
