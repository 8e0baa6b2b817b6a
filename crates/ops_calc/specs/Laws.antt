-- What quotients, remainders and random numbers are beside their definitions.
use Rattle.std.specs.Prelude.{◌≡◌, ℕ, ℤ, pos, unsigned_abs, ◌<◌, ◌+ℤ◌, ◌*ℤ◌, ◌≤ℤ◌, ◌<ℤ◌}
use Rattle.ops_calc.specs.Arithmetic.{signed}

-- the standard's words: q times the divisor and r are the dividend, and r is nearer to 0 than the
-- divisor, with the sign of the dividend where it isn't 0
pub record IsDivision (a b q r : ℤ) : Type 0 where
  pub whole : (q *ℤ b) +ℤ r ≡ a
  pub nearer : unsigned_abs r < unsigned_abs b
  pub positive : pos 0 ≤ℤ a → pos 0 ≤ℤ r
  pub negative : a ≤ℤ pos 0 → r ≤ℤ pos 0

abbrev pub IsQuotient : ℕ → ℕ → ℕ → Type 0
IsQuotient a b q = (r : ℤ) × IsDivision (signed a) (signed b) (signed q) r

abbrev pub IsRemainder : ℕ → ℕ → ℕ → Type 0
IsRemainder a b r = (q : ℤ) × IsDivision (signed a) (signed b) q (signed r)

-- from 0 to the limit less one, or from the limit and one to 0
pub record IsPicked (limit picked : ℕ) : Type 0 where
  pub positive : pos 0 <ℤ signed limit → (pos 0 ≤ℤ signed picked) × (signed picked <ℤ signed limit)
  pub negative : signed limit <ℤ pos 0 → (signed limit <ℤ signed picked) × (signed picked ≤ℤ pos 0)
