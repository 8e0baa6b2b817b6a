-- The listing of a story, and the story of a code (Glulx 3.1.2, "The Header" and "Functions").
use Rattle.std.specs.Prelude.{◌≡◌, ℕ, zero, suc, ◌+◌, ◌-◌, ◌/◌, ◌%◌, ◌^◌, ◌==◌, ◌||◌, if◌then◌else◌, Bool, true, List}
use Rattle.std.specs.Prelude.{[], ◌∷◌, ◌++◌, length, drop, replicate, Option, Some, None, Result, Ok}
use Rattle.std.specs.List.{flat_map, list_any}
use Rattle.std.specs.Option.{ok_or}
use Rattle.gx_words.specs.Constants.{magic, stack_function, locals_function, header_len}
use Rattle.gx_words.specs.Numbers.{bytes_of_word, rounded_up, sum_of_words}
use Rattle.gx_words.specs.Results.{◌>>=◌}
use Rattle.gx_story.specs.Stories.{FlatStory}
use Rattle.gx_asm.specs.declared.faults.ListFault.{ListFault}
use Rattle.gx_asm.specs.declared.faults.ListFault.TheVariants as of_code
use Rattle.gx_asm.specs.Codes.{ends_listing, text_from}
use Rattle.gx_asm.specs.Instructions.{Spells, WrittenInstruction, instruction_line}

-- ---- the listing of a story

-- the types of functions
abbrev pub is_function : ℕ → Bool
is_function kind = kind == stack_function || kind == locals_function

-- the types of locals
abbrev pub is_type : ℕ → Bool
is_type t = t == 1 || t == 2 || t == 4

-- a length with a pair more
abbrev pub longer : Option ℕ → Option ℕ
longer None = None
longer (Some len) = Some (len + 2)

-- How long a locals format is, which has at most so many pairs of a type and a count before its ending pair, whose type
-- is 0.
unfoldable pub format_len : ℕ → List ℕ → Option ℕ
format_len left [] = None
format_len left (t ∷ []) = None
format_len zero (t ∷ n ∷ rest) = if t == 0 then Some 2 else None
format_len (suc left) (t ∷ n ∷ rest) =
    if t == 0 then Some 2 else if is_type t then longer (format_len left rest) else None

-- a function's first instruction is behind its type and its locals format, of at most 64 pairs, which the standard
-- leaves open
abbrev pub head_len : List ℕ → Option ℕ
head_len [] = None
head_len (kind ∷ format) = if is_function kind then format_len 64 format else None

-- the address behind a function's head
abbrev pub with_start : ℕ → Option ℕ → Option ℕ
with_start at None = None
with_start at (Some len) = Some (at + 1 + len)

-- where the start function's first instruction stands
abbrev pub code_start : FlatStory → Option ℕ
code_start story = with_start story.header.start_function (head_len (drop story.header.start_function story.bytes))

-- The instructions of the start function from its first one to the first quit or return, all of them stored.
unfoldable pub listed_story : FlatStory → Result (List ℕ) ListFault
listed_story story = do
  at ← ok_or (code_start story) (of_code.BadFunction story.header.start_function)
  text_from (length story.bytes) true at (drop at story.bytes)

-- ---- the story of a code

-- what stands before the code: the header, and the start function's type and format
abbrev pub code_at : ℕ
code_at = 0x27

-- its length: the least multiple of 256 that holds the code
abbrev pub story_len : List ℕ → ℕ
story_len code = rounded_up (code_at + length code)

-- magic, version 3.1.2, RAMSTART, EXTSTART, ENDMEM, stack size, start function, no table, checksum
abbrev pub header_of : ℕ → ℕ → List ℕ
header_of size checksum =
    flat_map bytes_of_word (magic ∷ 0x00030102 ∷ size ∷ size ∷ size ∷ 0x100 ∷ header_len ∷ 0 ∷ checksum ∷ [])

-- a function without locals, behind the header, and zeros
unfoldable pub story_with_checksum : ℕ → List ℕ → List ℕ
story_with_checksum checksum code =
    header_of (story_len code) checksum ++ (locals_function ∷ 0 ∷ 0 ∷ []) ++ code
    ++ replicate (story_len code - (code_at + length code)) 0

-- the sum modulo 2^32 of its words, that of the checksum taken as zero
abbrev pub checksum_of : List ℕ → ℕ
checksum_of code = sum_of_words (story_len code / 4) (story_with_checksum 0 code) % 2 ^ 32

-- the story whose checksum is right
unfoldable pub wrapped_code : List ℕ → List ℕ
wrapped_code code = story_with_checksum (checksum_of code) code

-- what it is accepted as
abbrev pub wrapped_story : List ℕ → FlatStory
wrapped_story code = record {
  header = record {
    version = 0x00030102;
    ramstart = story_len code;
    extstart = story_len code;
    endmem = story_len code;
    stack_size = 0x100;
    start_function = header_len;
    table = 0;
    checksum = checksum_of code;
  };
  bytes = wrapped_code code;
}

-- ---- its listing

-- the instructions up to the first quit or return, that one included
abbrev pub up_to_end : List WrittenInstruction → List WrittenInstruction
up_to_end [] = []
up_to_end (w ∷ rest) = if ends_listing w then w ∷ [] else w ∷ up_to_end rest

-- A code that a text spells and that has a quit or return is listed, in its story, as the text up to the first of them.
abbrev pub IsListedBack : List ℕ → Type 0
IsListedBack code = (text : List ℕ) (spelled : Spells text code) → list_any ends_listing spelled.instructions ≡ true
    → listed_story (wrapped_story code) ≡ Ok (flat_map instruction_line (up_to_end spelled.instructions))
