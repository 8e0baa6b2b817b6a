-- Names of files (Glk 0.7.5, "File References").
use Rattle.std.specs.Prelude.{ℕ, ◌%◌, ◌==◌, Bool, not, ◌&&◌, ◌||◌, List, [], ◌∷◌, length, take, filter, take_while}
use Rattle.std.specs.Prelude.{codes, Option, Some, None, if◌then◌else◌}
use Rattle.std.specs.List.{list_any}
use Rattle.std.specs.Str.{encode_utf8_all}
use Rattle.glk_text.specs.Characters.{is_printable}
use Rattle.glk_files.specs.Constants.{longest, saved_game, transcript, input_record}

-- a name may have this character: not those that mean something to a file system, / \ < > : " | ? *
abbrev pub is_allowed : ℕ → Bool
is_allowed v =
    is_printable v && not (list_any (λ c. c == v) (0x2F ∷ 0x5C ∷ 0x3C ∷ 0x3E ∷ 0x3A ∷ 0x22 ∷ 0x7C ∷ 0x3F ∷ 0x2A ∷ []))

abbrev pub allowed_of : ℕ → Option ℕ
allowed_of v = if is_allowed v then Some v else None

-- the allowed characters up to the first period, so many at most
abbrev pub stem_of : List ℕ → List ℕ
stem_of chars = take longest (take_while (λ v. not (v == 0x2E)) (filter is_allowed chars))

-- the base of the name, in UTF-8
abbrev pub base_of : List ℕ → List ℕ
base_of chars =
    let name = encode_utf8_all (stem_of chars) in if length name == 0 then codes "null" else name

-- the suffix by the low four bits of the usage: a saved game, a transcript or a record of commands, and data
abbrev pub suffix_of : ℕ → List ℕ
suffix_of usage =
    if usage % 16 == saved_game then codes ".glksave" else
    if usage % 16 == transcript || usage % 16 == input_record then codes ".txt" else codes ".glkdata"
