-- The number that stands in the definitions by name. The constant of the same name in code is tied to it.
use Rattle.std.specs.Prelude.{ℕ}

-- so many paragraphs of a buffer window are kept at most: no window has more rows
abbrev pub most_paragraphs : ℕ
most_paragraphs = 255
