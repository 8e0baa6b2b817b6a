-- What contracts see of a text, and what holds of its fields.
use Rattle.std.specs.Prelude.{◌≡◌, ◌≤◌, ◌<◌, ◌^◌, length, drop}
use Rattle.glk_screen.specs.Constants.{most_paragraphs}
use Rattle.glk_screen.specs.declared.texts.Text.TheInside.{Inside}
use Rattle.glk_screen.specs.Texts.{FlatText, line_feeds}

-- what stands before its start was dropped
abbrev pub flat_of : Inside → FlatText
flat_of t = record { id = t.id; text = drop t.start t.chars.items }

-- what is kept is short enough, has so many line feeds, and one paragraph more
pub record TextsInvariant (t : Inside) : Type 0 where
  pub start : t.start ≤ length t.chars.items
  pub counted : t.line_feeds ≡ line_feeds (drop t.start t.chars.items)
  pub few : t.line_feeds < most_paragraphs
  pub short : length (drop t.start t.chars.items) < 2 ^ 32
