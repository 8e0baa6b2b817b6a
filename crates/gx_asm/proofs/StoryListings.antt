-- The instructions of a code, listed up to the first that ends.
use Rattle.std.proofs.Common.{◌≡◌, ◌<◌, ◌≤◌, ◌+◌, ◌||◌, if◌then◌else◌, ℕ, Bool, true, false, List, [], ◌∷◌, ◌++◌}
use Rattle.std.proofs.Common.{length, length-append, drop, All, Ok, ap, ◌∙◌, append_assoc, append-nil, refl, sym}
use Rattle.std.proofs.Common.{arith}
use Rattle.std.proofs.Math.Seq.{drop-append_seam}
use Rattle.std.proofs.lemmas.Bool.{false≢true}
use Rattle.std.proofs.lemmas.List.Elements.{All-head, All-tail}
use Rattle.std.specs.List.{flat_map, list_any}
use Rattle.gx_asm.specs.Codes.{instruction_at, ends_listing, text_from}
use Rattle.gx_asm.specs.Instructions.{IsWritten, WrittenInstruction, bytes_of, instruction_line}
use Rattle.gx_asm.specs.Stories.{up_to_end}
use Rattle.gx_asm.proofs.CodesRead.{bytes_some, reads_back}
use Rattle.gx_asm.proofs.CodesText.{one_last, one_more, prefixed}

-- the text from an instruction on, which ends or doesn't
one_listed : (ends : Bool) (fuel at : ℕ) (code : List ℕ) (w : WrittenInstruction) (others : List WrittenInstruction)
    → ends_listing w ≡ ends → 0 < length code
    → length code ≤ fuel → instruction_at at code ≡ Ok w → (ends || list_any ends_listing others) ≡ true
    → (list_any ends_listing others ≡ true → text_from fuel true (at + length (bytes_of w))
    (drop (length (bytes_of w)) code) ≡ Ok (flat_map instruction_line (up_to_end others)))
    → text_from fuel true at code ≡ Ok (flat_map instruction_line (if ends then w ∷ [] else w ∷ up_to_end others))
one_listed true fuel at code w others is there long read some behind =
    one_last fuel true at code w there long read is
    ∙ ap (λ (text : List ℕ). Ok text) (sym (append-nil (instruction_line w)))
one_listed false fuel at code w others is there long read some behind =
    one_more fuel true at code w there long read is ∙ ap (prefixed (instruction_line w)) (behind some)

pub listed_to_end : (fuel at : ℕ) (instructions : List WrittenInstruction) (rest : List ℕ) → All IsWritten instructions
    → list_any ends_listing instructions ≡ true → length (flat_map bytes_of instructions ++ rest) ≤ fuel
    → text_from fuel true at (flat_map bytes_of instructions ++ rest)
    ≡ Ok (flat_map instruction_line (up_to_end instructions))
listed_to_end fuel at [] rest each some long = absurd (false≢true some)
listed_to_end fuel at (w ∷ others) rest each some long =
    let behind = flat_map bytes_of others ++ rest in
    let joined : (bytes_of w ++ flat_map bytes_of others) ++ rest ≡ bytes_of w ++ behind =
    append_assoc (bytes_of w) (flat_map bytes_of others) rest in
    let len = length-append (bytes_of w) behind in
    let all : length (bytes_of w ++ behind) ≤ fuel = rw joined at long in
    let there : 0 < length (bytes_of w ++ behind) = omega (arith, len, bytes_some w) in
    let left : drop (length (bytes_of w)) (bytes_of w ++ behind) ≡ behind = drop-append_seam (bytes_of w) behind in
    ap (text_from fuel true at) joined
    ∙ one_listed (ends_listing w) fuel at (bytes_of w ++ behind) w others refl there all
    (reads_back at w behind (All-head IsWritten w others each)) some
    (λ more. ap (text_from fuel true (at + length (bytes_of w))) left
    ∙ listed_to_end fuel (at + length (bytes_of w)) others rest (All-tail IsWritten w others each) more
    (omega (arith, len, all)))
