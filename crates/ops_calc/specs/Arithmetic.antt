-- What integer math gives (Glulx 3.1.2, "Integer Math"), and the sign extensions ("Moving Data").
--
-- Operands and answers are words of 32 bits. Sums, differences and products are modulo 2^32.
use Rattle.std.specs.Prelude.{ℕ, ℤ, ◌+◌, ◌-◌, ◌*◌, ◌/◌, ◌%◌, ◌^◌, Bool, ◌==◌, ◌&&◌, ◌||◌, nat_lt, if◌then◌else◌, Option}
use Rattle.std.specs.Prelude.{Some, None, bit_and, bit_or, bit_xor, int_div, int_rem}
use Rattle.std.specs.Int.{w32, cast_signed, cast_unsigned, int_shr}
use Rattle.gx_words.specs.Numbers.{extended}
use Rattle.ops_calc.specs.Acts as acts

-- a word read as two's complement; `cast_unsigned w32` is the word of such a number
abbrev pub signed : ℕ → ℤ
signed v = cast_signed w32 v

-- There is no quotient by 0. The standard is silent on -2^31 by -1, whose quotient has no place in
-- a word: it has none either, and no remainder, so that each answer is a division as below.
abbrev pub has_no_quotient : ℕ → ℕ → Bool
has_no_quotient a b = b == 0 || (a == 0x80000000 && b == 0xFFFFFFFF)

-- 13 div: signed, toward zero
unfoldable pub div : ℕ → ℕ → Option ℕ
div a b = if has_no_quotient a b then None else Some (cast_unsigned w32 (int_div (signed a) (signed b)))

-- 14 mod: signed, with the sign of the dividend
unfoldable pub mod_ : ℕ → ℕ → Option ℕ
mod_ a b = if has_no_quotient a b then None else Some (cast_unsigned w32 (int_rem (signed a) (signed b)))

-- 15 neg
abbrev pub neg : ℕ → ℕ
neg a = (2 ^ 32 - a) % 2 ^ 32

-- 1C shiftl: all bits are gone after 32 places
abbrev pub shiftl : ℕ → ℕ → ℕ
shiftl a b = if nat_lt b 32 then a * 2 ^ b % 2 ^ 32 else 0

-- 1D sshiftr: copies of the sign come in, and are all that is left after 32 places
abbrev pub sshiftr : ℕ → ℕ → ℕ
sshiftr a b = cast_unsigned w32 (int_shr (signed a) (if nat_lt b 32 then b else 31))

-- 1E ushiftr
abbrev pub ushiftr : ℕ → ℕ → ℕ
ushiftr a b = if nat_lt b 32 then a / 2 ^ b else 0

-- 44 sexs, 45 sexb: the low 16 or 8 bits by their sign
abbrev pub sexs : ℕ → ℕ
sexs a = extended 2 (a % 2 ^ 16)

abbrev pub sexb : ℕ → ℕ
sexb a = extended 1 (a % 2 ^ 8)

-- The instructions by the low byte of their numbers; None is a division with no quotient.
unfoldable pub calc : ℕ → ℕ → ℕ → Option ℕ
calc act a b =
    if act == acts.add then Some ((a + b) % 2 ^ 32) else
    if act == acts.sub then Some ((a + (2 ^ 32 - b)) % 2 ^ 32) else
    if act == acts.mul then Some (a * b % 2 ^ 32) else
    if act == acts.div then div a b else
    if act == acts.mod_ then mod_ a b else
    if act == acts.neg then Some (neg a) else
    if act == acts.bitand then Some (bit_and a b) else
    if act == acts.bitor then Some (bit_or a b) else
    if act == acts.bitxor then Some (bit_xor a b) else
    if act == acts.bitnot then Some (0xFFFFFFFF - a) else
    if act == acts.shiftl then Some (shiftl a b) else
    if act == acts.sshiftr then Some (sshiftr a b) else
    if act == acts.ushiftr then Some (ushiftr a b) else
    if act == acts.sexs then Some (sexs a) else
    if act == acts.sexb then Some (sexb a) else
    None
