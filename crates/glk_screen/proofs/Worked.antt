-- A case that is worked out: the rows of `aaa bb cccccc` in a window of five columns.
use Rattle.std.proofs.Common.{◌≡◌, ◌∷◌, [], refl}
use Rattle.unicode_width.specs.Width.{char_width}
use Rattle.glk_screen.specs.Wrapping.{width_of, columns_of, first_row, rows_from, wrapped}

pub wrapped_five : wrapped 5
    (0x61 ∷ 0x61 ∷ 0x61 ∷ 0x20 ∷ 0x62 ∷ 0x62 ∷ 0x20 ∷ 0x63 ∷ 0x63 ∷ 0x63 ∷ 0x63 ∷ 0x63 ∷ 0x63 ∷ [])
    ≡ 0 ∷ 3 ∷ 4 ∷ 6 ∷ 7 ∷ 12 ∷ 12 ∷ 13 ∷ []
unfolding char_width width_of columns_of first_row rows_from
wrapped_five = refl
