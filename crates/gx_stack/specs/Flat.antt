-- A stack as contracts see it: its bytes, the oldest first, and how many there may be.
use Rattle.std.specs.Prelude.{ℕ, List}

pub record FlatStack : Type 0 where
  pub bytes : List ℕ
  pub limit : ℕ
