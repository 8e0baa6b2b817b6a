-- What holds of a text that is made of parts.
use Rattle.std.specs.Prelude.{◌≡◌, true, List, [], ◌∷◌, ◌++◌}
use Rattle.glk_screen.specs.Wrapper.{FlatWrapper, no_row, stays_within}
use Rattle.glk_screen.specs.Laws.{IsWrapped}
use Rattle.glk_views.specs.Parts.{Part, grid_row, as_it_comes, part_wrapped, wrapped}

-- What each part lets go stays within the row's columns, from those on that were let go before, but for a character
-- that is wider than a row. Rows of grids stand as they are.
abbrev pub RowsStay : FlatWrapper → List Part → Type 0
RowsStay r [] = Unit {0}
RowsStay r (grid_row fresh cs ∷ parts) = (stays_within r.limit r.gone r.row ≡ true) × RowsStay (no_row r.limit) parts
RowsStay r (part ∷ parts) =
    (stays_within r.limit r.gone (part_wrapped r part).0 ≡ true) × RowsStay (part_wrapped r part).1 parts

-- From a row of which nothing is held nothing is lost, with what is held in the end: the text is the one that comes but
-- for the breaks, each of which took the place of one blank, or was added. And no row is wider than it may be.
pub record PartsWrapRight (r : FlatWrapper) (parts : List Part) : Type 0 where
  pub kept : IsWrapped (as_it_comes parts) ((wrapped r parts).0 ++ (wrapped r parts).1.row)
  pub within : RowsStay r parts

abbrev pub WrappingKeepsParts : Type 0
WrappingKeepsParts = (r : FlatWrapper) (parts : List Part) → r.row ≡ [] → PartsWrapRight r parts
