-- Numbers (Glulx 3.1.2, "The Memory Map"): big-endian in a list of bytes, and arithmetic modulo 2^32.
use Rattle.std.specs.Prelude.{◌≡◌, ◌⊎◌, ℕ, zero, suc, Bool, ◌+◌, ◌*◌, ◌/◌, ◌%◌, ◌^◌, ◌==◌, nat_lt, if◌then◌else◌, List}
use Rattle.std.specs.Prelude.{[], ◌∷◌, ◌++◌, length, take, drop, slice_index}
use Rattle.gx_words.specs.Constants.{checksum_at}

-- numbers in a story have one of these widths in bytes
abbrev pub IsWidth : ℕ → Type 0
IsWidth n = (n ≡ 1) ⊎ (n ≡ 2) ⊎ (n ≡ 4)

-- the byte, half and word at an address
abbrev pub byte : List ℕ → ℕ → ℕ
byte m a = slice_index m a

abbrev pub half : List ℕ → ℕ → ℕ
half m a = byte m a * 256 + byte m (a + 1)

abbrev pub word : List ℕ → ℕ → ℕ
word m a = half m a * 65536 + half m (a + 2)

-- the number of so many bytes at an address
abbrev pub number : ℕ → List ℕ → ℕ → ℕ
number width m a = if width == 1 then byte m a else if width == 2 then half m a else word m a

-- the low bytes of a number
abbrev pub low : ℕ → ℕ → ℕ
low width v = if width == 1 then v % 256 else if width == 2 then v % 65536 else v

-- a number of so many bytes as 32 bits, by its sign
abbrev pub extended : ℕ → ℕ → ℕ
extended width v =
    if width == 1 then (if nat_lt v 0x80 then v else v + 0xFFFFFF00) else
    if width == 2 then (if nat_lt v 0x8000 then v else v + 0xFFFF0000) else
    v

-- the bytes of a word, the highest first
abbrev pub bytes_of_word : ℕ → List ℕ
bytes_of_word v = (v / 2 ^ 24 % 256) ∷ (v / 2 ^ 16 % 256) ∷ (v / 2 ^ 8 % 256) ∷ (v % 256) ∷ []

-- the low bytes of a number, the highest of them first
abbrev pub bytes_of_number : ℕ → ℕ → List ℕ
bytes_of_number width v =
    if width == 1 then (v % 256) ∷ [] else
    if width == 2 then (v / 2 ^ 8 % 256) ∷ (v % 256) ∷ [] else
    bytes_of_word v

-- a list with these bytes over those from an address on
abbrev pub spliced : List ℕ → ℕ → List ℕ → List ℕ
spliced m at bytes = take at m ++ (bytes ++ drop (at + length bytes) m)

-- the least multiple of 256 from a number on
abbrev pub rounded_up : ℕ → ℕ
rounded_up v = (v + 255) / 256 * 256

-- a place in a byte: bit 0 is the lowest
abbrev pub is_bit : ℕ → Bool
is_bit bit = nat_lt bit 8

-- The sum of the first words of a story, that of its checksum taken as zero ("The Header").
unfoldable pub sum_of_words : ℕ → List ℕ → ℕ
sum_of_words zero bytes = 0
sum_of_words (suc n) bytes = sum_of_words n bytes + (if 4 * n == checksum_at then 0 else word bytes (4 * n))
