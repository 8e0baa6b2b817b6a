-- What holds of locals formats and of frames.
use Rattle.std.specs.Prelude.{ℕ, ◌≡◌, ◌-◌, ◌≤◌, List, [], ◌∷◌, length}
use Rattle.gx_words.specs.Numbers.{IsWidth, byte}
use Rattle.gx_stack.specs.Formats.{pairs_of}

-- pairs of types 1, 2 and 4
abbrev pub ArePairs : List ℕ → Type 0
ArePairs [] = Unit {0}
ArePairs (t ∷ []) = ⊥
ArePairs (t ∷ n ∷ pairs) = IsWidth t × ArePairs pairs

-- at most 64 pairs and an ending pair, whose type is 0
pub record IsFormat (format : List ℕ) : Type 0 where
  pub pairs : ArePairs (pairs_of format)
  pub ending : 2 ≤ length format
  pub ends : byte format (length format - 2) ≡ 0
  pub few : length format ≤ 130

-- the format of locals of four bytes alone: one pair, and the ending one
pub record IsOfWords (format : List ℕ) : Type 0 where
  pub pairs : length format ≡ 4
  pub words : byte format 0 ≡ 4
