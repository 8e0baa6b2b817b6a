-- The line that says how a run ended.
use Rattle.std.specs.Prelude.{ℕ, ◌+◌, ◌/◌, ◌%◌, ◌^◌, ◌==◌, suc, zero, nat_lt, if◌then◌else◌, List, [], ◌∷◌, ◌++◌}
use Rattle.std.specs.Prelude.{decimal, codes}
use Rattle.gx_session.specs.Constants.{status_bad_words, status_bad_story, status_fault, status_spent}
use Rattle.gx_session.specs.Constants.{status_input_ended, status_stuck, status_line_too_long, status_shelf_fault}
use Rattle.gx_session.specs.Constants.{status_input_fault, status_output_fault, status_no_memory, status_bad_text}
use Rattle.gx_session.specs.Constants.{status_no_listing}

-- the low hexadecimal digits of a number, the highest of them first, in lower case
abbrev pub hex_of : ℕ → ℕ → List ℕ
hex_of zero v = []
hex_of (suc n) v = let d = v / 16 ^ n % 16 in (if nat_lt d 10 then 48 + d else 87 + d) ∷ hex_of n v

-- the line of a fault; a checksum that differs is a fault with no number
abbrev pub fault_line : ℕ → ℕ → ℕ → List ℕ
fault_line fault at steps =
    if fault == 0 then codes "gx_player: the checksum differs" else
    codes "gx_player: fault " ++ decimal fault ++ codes " at " ++ hex_of 8 at ++ codes " after " ++ decimal steps
    ++ codes " steps"

-- the line of a text that has no code: its fault and the number of a line
abbrev pub text_line : ℕ → ℕ → List ℕ
text_line fault line =
    codes "gx_player: text not understood (" ++ decimal fault ++ codes " at line " ++ decimal line ++ codes ")"

-- the line of a story that has no listing: the fault and its address
abbrev pub listing_line : ℕ → ℕ → List ℕ
listing_line fault at = codes "gx_player: no listing (" ++ decimal fault ++ codes " at " ++ hex_of 8 at ++ codes ")"

-- The line of a status with its fault, place and steps. The end of the program has an empty one, and
-- so has a status in no row.
unfoldable pub report_line : ℕ → ℕ → ℕ → ℕ → List ℕ
report_line status fault at steps =
    if status == status_bad_words then codes "gx_player: the command line is not understood" else
    if status == status_bad_story then codes "gx_player: no story (" ++ decimal fault ++ codes ")" else
    if status == status_fault then fault_line fault at steps else
    if status == status_spent then codes "gx_player: budget spent after " ++ decimal steps ++ codes " steps" else
    if status == status_input_ended then codes "gx_player: input ended" else
    if status == status_stuck then codes "gx_player: nothing to wait for" else
    if status == status_line_too_long then codes "gx_player: input line too long" else
    if status == status_shelf_fault then codes "gx_player: file fault" else
    if status == status_input_fault then codes "gx_player: input fault" else
    if status == status_output_fault then codes "gx_player: output fault" else
    if status == status_no_memory then codes "gx_player: out of memory" else
    if status == status_bad_text then text_line fault at else
    if status == status_no_listing then listing_line fault at else []
