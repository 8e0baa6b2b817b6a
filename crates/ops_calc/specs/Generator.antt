-- The random words of a story (Glulx 3.1.2, "Random Number Generator").
use Rattle.std.specs.Prelude.{ℕ, ◌%◌, ◌==◌, nat_lt, Bool, true, false, if◌then◌else◌}
use Rattle.rand_core.specs.Pcg32Seed.{pcg32_seed}
use Rattle.rand_pcg.specs.Lcg.{Lcg}
use Rattle.rand_pcg.specs.Pcg.{pcg32, pcg32_of_seed}
use Rattle.ops_calc.specs.Arithmetic.{neg}
use Rattle.ops_calc.specs.declared.random.Generator.{Generator}
use Rattle.ops_calc.specs.declared.random.Generator.TheVariants.{Outside, Seeded}

-- The standard leaves the generator of a seed open. Here it is the Pcg32 that `seed_from_u64` makes
-- of the number, by the 16 bytes that it spreads the number over: small, and the same everywhere.
abbrev pub pcg32_of : ℕ → Lcg
pcg32_of v = pcg32_of_seed (pcg32_seed 16 v)

abbrev pub is_outside : Generator → Bool
is_outside Outside = true
is_outside (Seeded pcg) = false

-- the next word, where one from outside is at hand
abbrev pub word_from : Generator → ℕ → ℕ
word_from Outside outside = outside
word_from (Seeded pcg) outside = (pcg32 pcg).0

-- the generator after that word
abbrev pub after_word : Generator → Generator
after_word Outside = Outside
after_word (Seeded pcg) = Seeded (pcg32 pcg).1

-- random: any word for 0, the rest by a positive limit, the negated rest by the size of a negative
-- one
unfoldable pub pick : ℕ → ℕ → ℕ
pick limit word =
    if limit == 0 then word else if nat_lt limit 0x80000000 then word % limit else neg (word % neg limit)
