-- The story of a number (Glulx 3.1.2, "The Memory Map"): a page with header and code, and RAM.
use Rattle.std.specs.Prelude.{ℕ, zero, suc, ◌+◌, ◌*◌, ◌%◌, ◌^◌, List, [], ◌∷◌, ◌++◌, replicate}
use Rattle.std.specs.List.{flat_map}
use Rattle.gx_words.specs.Constants.{magic}
use Rattle.gx_words.specs.Numbers.{bytes_of_word, sum_of_words}

-- RAM has from 64 to 262,144 words
abbrev pub ram_count : ℕ → ℕ
ram_count number = 64 * (1 + number % 4096)

abbrev pub work_word : ℕ → ℕ → ℕ
work_word number index = (number + index) * 0x9E3779B1 % 2 ^ 32

-- the bytes of the first words of RAM
unfoldable pub ram : ℕ → ℕ → List ℕ
ram zero number = []
ram (suc n) number = ram n number ++ bytes_of_word (work_word number n)

-- a function that opens a text window for output, sums up so many words of RAM in place and prints the last sum
abbrev pub code : ℕ → List ℕ
code count =
    (0xC1 ∷ 0x04 ∷ 0x02 ∷ 0x00 ∷ 0x00 ∷ []) ++  -- two locals: the index of a word, the sum
    (0x81 ∷ 0x49 ∷ 0x01 ∷ 0x02 ∷ []) ++  -- setiosys 2 0: output goes to Glk
    (0x40 ∷ 0x80 ∷ 0x40 ∷ 0x81 ∷ 0x03 ∷ []) ++  -- copy 0 sp, copy 3 sp
    (0x40 ∷ 0x80 ∷ 0x40 ∷ 0x80 ∷ 0x40 ∷ 0x80 ∷ []) ++  -- copy 0 sp, three times
    (0x81 ∷ 0x30 ∷ 0x11 ∷ 0x08 ∷ 0x23 ∷ 0x05 ∷ []) ++  -- glk window_open 5 sp
    (0x81 ∷ 0x30 ∷ 0x11 ∷ 0x00 ∷ 0x2F ∷ 0x01 ∷ []) ++  -- glk set_window 1
    (0x48 ∷ 0x92 ∷ 0x08 ∷ 0x01 ∷ 0x00 ∷ 0x00 ∷ []) ++  -- aload 0x100 index sp
    (0x10 ∷ 0x98 ∷ 0x09 ∷ 0x04 ∷ 0x04 ∷ []) ++  -- add sp sum sum
    (0x4C ∷ 0x92 ∷ 0x09 ∷ 0x01 ∷ 0x00 ∷ 0x00 ∷ 0x04 ∷ []) ++  -- astore 0x100 index sum
    (0x10 ∷ 0x19 ∷ 0x09 ∷ 0x00 ∷ 0x01 ∷ 0x00 ∷ []) ++  -- add index 1 index
    (0x2A ∷ 0x39 ∷ 0x01 ∷ 0x00 ∷ []) ++ bytes_of_word count ++ (0xE1 ∷ []) ++  -- jltu index count, to the aload
    (0x71 ∷ 0x09 ∷ 0x04 ∷ []) ++ (0x70 ∷ 0x01 ∷ 0x0A ∷ []) ++ (0x81 ∷ 0x20 ∷ [])  -- streamnum sum, streamchar 10, quit

-- The bytes before RAM, for so many words of RAM: magic, version 3.1.2, RAMSTART, EXTSTART, ENDMEM, stack size, start
-- function, no table and checksum; then the code.
unfoldable pub page : ℕ → ℕ → List ℕ
page count checksum = let size = 0x100 + 4 * count in
    flat_map bytes_of_word (magic ∷ 0x00030102 ∷ 0x100 ∷ size ∷ size ∷ 0x100 ∷ 0x24 ∷ 0 ∷ checksum ∷ [])
    ++ code count ++ replicate 147 0

-- the story with a checksum
unfoldable pub work_story_with : ℕ → ℕ → List ℕ
work_story_with number checksum = page (ram_count number) checksum ++ ram (ram_count number) number

-- the story whose checksum is the sum modulo 2^32 of its words with that word zero
unfoldable pub work_story : ℕ → List ℕ
work_story number = work_story_with number (sum_of_words (64 + ram_count number) (work_story_with number 0) % 2 ^ 32)
