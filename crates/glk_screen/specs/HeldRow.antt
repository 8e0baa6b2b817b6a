-- What contracts see of a wrapper, and what holds of its fields.
use Rattle.std.specs.Prelude.{◌≡◌, ◌≤◌, ◌+◌}
use Rattle.glk_screen.specs.declared.wrapper.Wrapper.TheInside.{Inside}
use Rattle.glk_screen.specs.Wrapping.{drawn_columns}
use Rattle.glk_screen.specs.Wrapper.{FlatWrapper}

abbrev pub flat_of : Inside → FlatWrapper
flat_of w = record { limit = w.limit; gone = w.gone; row = w.chars.items }

-- its columns are counted, and few
pub record WrapperInvariant (w : Inside) : Type 0 where
  pub counted : w.columns ≡ w.gone + drawn_columns w.chars.items
  pub few : w.columns ≤ w.limit + 3
  pub limit : w.limit ≤ 255
