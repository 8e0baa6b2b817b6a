-- One turn of each loop that reads words, and what the parts of reading a line make together.
use Rattle.std.proofs.Common.{◌≡◌, ◌≢◌, ◌<◌, ◌≤◌, ◌+◌, ◌-◌, ◌*◌, ◌==◌, ◌&&◌, not, nat_le, if◌then◌else◌, ℕ, suc, Bool}
use Rattle.std.proofs.Common.{true, false, List, [], ◌∷◌, ◌++◌, append_assoc, length, take, drop, get_or, codes}
use Rattle.std.proofs.Common.{Option, Some, None, Result, Ok, Err, refl, sym, ap, ◌∙◌, arith}
use Rattle.std.specs.List.{slice_split, position_or_len, after_first, count_by}
use Rattle.std.specs.Option.{ok_or}
use Rattle.std.specs.Str.{bytes_eq}
use Rattle.std.proofs.lemmas.Bool.{eq-eqb, ne_eqb, lt-ltb}
use Rattle.std.proofs.lemmas.List.{drop-drop, append-nil, length-drop}
use Rattle.std.proofs.lemmas.List.Splits.{slice_split_first, slice_split_none, length-slice_split}
use Rattle.std.proofs.lemmas.List.Sums.{fails_before_first, position_or_len_is, prefix_len-le-length}
use Rattle.std.specs.Result.{IfOk}
use Rattle.gx_words.specs.Results.{◌>>=◌, Is}
use Rattle.gx_rows.specs.declared.instructions.Row.{Row}
use Rattle.gx_rows.specs.declared.modes.Addressing.{Addressing}
use Rattle.gx_rows.specs.declared.modes.Addressing.TheVariants.{Zero, Top}
use Rattle.gx_rows.specs.declared.modes.Kind.{Kind}
use Rattle.gx_rows.specs.Modes.{kind_of}
use Rattle.gx_rows.specs.Table.{row_at, row_count}
use Rattle.gx_asm.specs.declared.faults.LineFault.{LineFault}
use Rattle.gx_asm.specs.declared.faults.LineFault.TheVariants.{BadName, Count, BadOperand}
use Rattle.gx_asm.specs.Names.{names, name_at, first_named, place_named}
use Rattle.gx_asm.specs.declared.instruction.Instruction.{Instruction}
use Rattle.gx_asm.specs.Instructions.{WrittenInstruction, IsWritten, operand_count, fits_kind}
use Rattle.gx_asm.specs.Texts.{required, digit_value, bytes_spelled, mode_with, data_in, operand_in, operands_in}
use Rattle.gx_asm.specs.Texts.{place_in, instruction_in_words, instruction_in, is_blank}
use Rattle.gx_asm.specs.Views.{seen_instruction}
use Rattle.gx_asm.proofs.NameLaws.{names_counted}
use Rattle.gx_asm.proofs.Reading.{line_written, paired, with_mode, with_bytes, with_fit, then_rest, bytes_written}
use Rattle.gx_asm.proofs.Reading.{data_made, length-digits}

-- ---- digits

-- bytes behind those that are read already
abbrev pub behind_bytes : List ℕ → Result (List ℕ) LineFault → Result (List ℕ) LineFault
behind_bytes done r = r >>= λ more. Ok (done ++ more)

behind_pair : (done : List ℕ) (rh rl : Result ℕ LineFault) (rest : Result (List ℕ) LineFault) (h l : ℕ) → rh ≡ Ok h
    → rl ≡ Ok l
    → behind_bytes (done ++ (16 * h + l) ∷ []) rest ≡ behind_bytes done (paired rh rl rest)
behind_pair done rh rl (Ok more) h l a b =
    rw (a, b) (ap (λ (bs : List ℕ). Ok bs) (append_assoc done ((16 * h + l) ∷ []) more))
behind_pair done rh rl (Err e) h l a b = rw (a, b) refl

pair_is : (rest behind after : List ℕ) (high low : ℕ) → rest ≡ high ∷ behind → behind ≡ low ∷ after
    → bytes_spelled rest ≡ paired (digit_value high) (digit_value low) (bytes_spelled after)
unfolding bytes_spelled
pair_is rest behind after high low first second = ap bytes_spelled (first ∙ ap (λ (xs : List ℕ). high ∷ xs) second)

pub pair_turn : (rest behind after done : List ℕ) (high low h l : ℕ) (t : Result (List ℕ) LineFault)
    → rest ≡ high ∷ behind → behind ≡ low ∷ after
    → digit_value high ≡ Ok h → digit_value low ≡ Ok l → behind_bytes done (bytes_spelled rest) ≡ t
    → behind_bytes (done ++ (16 * h + l) ∷ []) (bytes_spelled after) ≡ t
pair_turn rest behind after done high low h l t first second a b so_far =
    behind_pair done (digit_value high) (digit_value low) (bytes_spelled after) h l a b
    ∙ ap (behind_bytes done) (sym (pair_is rest behind after high low first second)) ∙ so_far

pub high_fault : (rest behind after done : List ℕ) (high low : ℕ) (e : LineFault) (t : Result (List ℕ) LineFault)
    → rest ≡ high ∷ behind → behind ≡ low ∷ after
    → digit_value high ≡ Err e → behind_bytes done (bytes_spelled rest) ≡ t → t ≡ Err e
high_fault rest behind after done high low e t first second a so_far =
    sym so_far ∙ ap (behind_bytes done) (pair_is rest behind after high low first second)
    ∙ ap (λ (r : Result ℕ LineFault). behind_bytes done (paired r (digit_value low) (bytes_spelled after))) a

pub low_fault : (rest behind after done : List ℕ) (high low h : ℕ) (e : LineFault) (t : Result (List ℕ) LineFault)
    → rest ≡ high ∷ behind → behind ≡ low ∷ after
    → digit_value high ≡ Ok h → digit_value low ≡ Err e → behind_bytes done (bytes_spelled rest) ≡ t → t ≡ Err e
low_fault rest behind after done high low h e t first second a b so_far =
    sym so_far ∙ ap (behind_bytes done) (pair_is rest behind after high low first second)
    ∙ ap (λ (r : Result ℕ LineFault). behind_bytes done (paired r (digit_value low) (bytes_spelled after))) a
    ∙ ap (λ (r : Result ℕ LineFault). behind_bytes done (paired (Ok h) r (bytes_spelled after))) b

nothing : (xs : List ℕ) → length xs ≡ 0 → xs ≡ []
nothing [] none = refl
nothing (x ∷ xs) none = absurd cc

pub half_fault : (rest behind done : List ℕ) (high : ℕ) (t : Result (List ℕ) LineFault) → rest ≡ high ∷ behind
    → length behind ≡ 0
    → behind_bytes done (bytes_spelled rest) ≡ t → t ≡ Err BadOperand
unfolding bytes_spelled
half_fault rest behind done high t first none so_far =
    sym so_far ∙ ap (λ (xs : List ℕ). behind_bytes done (bytes_spelled xs))
    (first ∙ ap (λ (xs : List ℕ). high ∷ xs) (nothing behind none))

pub digits_end : (rest done : List ℕ) (t : Result (List ℕ) LineFault) → length rest ≡ 0
    → behind_bytes done (bytes_spelled rest) ≡ t → t ≡ Ok done
unfolding bytes_spelled
digits_end rest done t none so_far =
    sym so_far ∙ ap (λ (xs : List ℕ). behind_bytes done (bytes_spelled xs)) (nothing rest none)
    ∙ ap (λ (bs : List ℕ). Ok bs) (append-nil done)

behind_none : (r : Result (List ℕ) LineFault) → behind_bytes [] r ≡ r
behind_none (Ok bs) = refl
behind_none (Err e) = refl

pub digits_begin : (digits : List ℕ) → behind_bytes [] (bytes_spelled digits) ≡ bytes_spelled digits
digits_begin digits = behind_none (bytes_spelled digits)

-- ---- a sign and digits

pub bytes_fault : (kind : Kind) (sign : ℕ) (digits : List ℕ) (e : LineFault) → bytes_spelled digits ≡ Err e
    → data_in kind (sign ∷ digits) ≡ Err e
unfolding data_in
bytes_fault kind sign digits e is = ap (λ (r : Result (List ℕ) LineFault).
    with_bytes kind r (λ bs. mode_with sign (length bs))) is

pub mode_fault : (kind : Kind) (sign n : ℕ) (digits bytes : List ℕ) (e : LineFault) → bytes_spelled digits ≡ Ok bytes
    → n ≡ length bytes → mode_with sign n ≡ Err e
    → data_in kind (sign ∷ digits) ≡ Err e
unfolding data_in
mode_fault kind sign n digits bytes e is len fault =
    ap (λ (r : Result (List ℕ) LineFault). with_bytes kind r (λ bs. mode_with sign (length bs))) is
    ∙ ap (λ (r : Result Addressing LineFault). with_mode kind r bytes) (ap (mode_with sign) (sym len) ∙ fault)

pub data_done : (kind : Kind) (sign n : ℕ) (digits bytes : List ℕ) (mode : Addressing)
    → bytes_spelled digits ≡ Ok bytes → n ≡ length bytes → mode_with sign n ≡ Ok mode
    → fits_kind kind mode ≡ true → data_in kind (sign ∷ digits) ≡ Ok (mode, bytes)
unfolding data_in
data_done kind sign n digits bytes mode is len moded fits =
    data_made kind (bytes_spelled digits) (λ bs. mode_with sign (length bs)) bytes mode is
    (ap (mode_with sign) (sym len) ∙ moded) fits

pub data_unfit : (kind : Kind) (sign n : ℕ) (digits bytes : List ℕ) (mode : Addressing)
    → bytes_spelled digits ≡ Ok bytes → n ≡ length bytes → mode_with sign n ≡ Ok mode
    → fits_kind kind mode ≡ false → data_in kind (sign ∷ digits) ≡ Err BadOperand
unfolding data_in
data_unfit kind sign n digits bytes mode is len moded unfit =
    ap (λ (r : Result (List ℕ) LineFault). with_bytes kind r (λ bs. mode_with sign (length bs))) is
    ∙ ap (λ (r : Result Addressing LineFault). with_mode kind r bytes) (ap (mode_with sign) (sym len) ∙ moded)
    ∙ ap (λ (b : Bool). with_fit b mode bytes) unfit

-- ---- more digits than any operand has

digit_only : (a b : Bool) (x y : ℕ) (e : LineFault)
    → ◌≡◌ {A = Result ℕ LineFault} (if a then Ok x else if b then Ok y else Err BadOperand) (Err e) → e ≡ BadOperand
digit_only true b x y e is = absurd cc
digit_only false true x y e is = absurd cc
digit_only false false x y e is = cc

digit_fault : (d : ℕ) (e : LineFault) → digit_value d ≡ Err e → e ≡ BadOperand
digit_fault d e is = digit_only (nat_le 0x30 d && nat_le d 0x39) (nat_le 0x61 d && nat_le d 0x66) (d - 0x30)
    (d - 0x57) e is

paired_fault : (rh rl : Result ℕ LineFault) (rest : Result (List ℕ) LineFault) (e : LineFault)
    → ((x : LineFault) → rh ≡ Err x → x ≡ BadOperand) → ((x : LineFault) → rl ≡ Err x → x ≡ BadOperand)
    → ((x : LineFault) → rest ≡ Err x → x ≡ BadOperand)
    → paired rh rl rest ≡ Err e → e ≡ BadOperand
paired_fault (Ok h) (Ok l) (Ok bs) e f g k is = absurd cc
paired_fault (Ok h) (Ok l) (Err x) e f g k is = let same : x ≡ e = cc in sym same ∙ k x refl
paired_fault (Ok h) (Err x) rest e f g k is = let same : x ≡ e = cc in sym same ∙ g x refl
paired_fault (Err x) rl rest e f g k is = let same : x ≡ e = cc in sym same ∙ f x refl

only_fault : (ds : List ℕ) (e : LineFault) → bytes_spelled ds ≡ Err e → e ≡ BadOperand
unfolding bytes_spelled
only_fault [] e is = absurd cc
only_fault (d ∷ []) e is = cc
only_fault (high ∷ low ∷ rest) e is =
    paired_fault (digit_value high) (digit_value low) (bytes_spelled rest) e (digit_fault high) (digit_fault low)
    (only_fault rest) is

wide : (sign n : ℕ) → 4 < n → mode_with sign n ≡ Err BadOperand
wide sign n more =
    let one : (n == 1) ≡ false = ne_eqb n 1 (λ e. omega (arith, e)) in
    let two : (n == 2) ≡ false = ne_eqb n 2 (λ e. omega (arith, e)) in
    let four : (n == 4) ≡ false = ne_eqb n 4 (λ e. omega (arith, e)) in
    rw (one, two, four) refl

too_by : (kind : Kind) (sign : ℕ) (ds : List ℕ) (r : Result (List ℕ) LineFault) → 8 < length ds → bytes_spelled ds ≡ r
    → with_bytes kind r (λ bs. mode_with sign (length bs)) ≡ Err BadOperand
too_by kind sign ds (Ok bytes) more is =
    let len : 2 * length bytes ≡ length ds = sym (length-digits bytes) ∙ ap length (bytes_written ds bytes is).0 in
    ap (λ (r : Result Addressing LineFault). with_mode kind r bytes) (wide sign (length bytes) (omega (arith, len)))
too_by kind sign ds (Err e) more is = ap (λ (x : LineFault). Err x) (only_fault ds e is)

pub too_many : (kind : Kind) (sign : ℕ) (ds : List ℕ) → 8 < length ds → data_in kind (sign ∷ ds) ≡ Err BadOperand
unfolding data_in
too_many kind sign ds more = too_by kind sign ds (bytes_spelled ds) more refl

-- ---- an operand's word

pub zero_word : (kind : Kind) (word : List ℕ) → bytes_eq word (codes "z") ≡ true → operand_in kind word ≡ Ok (Zero, [])
unfolding operand_in
zero_word kind word is = rw is refl

pub top_word : (kind : Kind) (word : List ℕ) → bytes_eq word (codes "z") ≡ false → bytes_eq word (codes "sp") ≡ true
    → operand_in kind word ≡ Ok (Top, [])
unfolding operand_in
top_word kind word z is = rw (z, is) refl

pub other_word : (kind : Kind) (word : List ℕ) → bytes_eq word (codes "z") ≡ false
    → bytes_eq word (codes "sp") ≡ false → operand_in kind word ≡ data_in kind word
unfolding operand_in
other_word kind word z s = rw (z, s) refl

pub empty_word : (kind : Kind) (word : List ℕ) → length word ≡ 0 → operand_in kind word ≡ Err BadOperand
unfolding operand_in data_in
empty_word kind word none = ap (operand_in kind) (nothing word none)

-- ---- the words of operands

abbrev Operands : Type 0
Operands = List Addressing × List ℕ

-- operands behind those that are read already
abbrev pub behind_operands : List Addressing → List ℕ → Result (List Addressing × List ℕ) LineFault
    → Result (List Addressing × List ℕ) LineFault
behind_operands modes bytes r = r >>= λ more. Ok (modes ++ more.0, bytes ++ more.1)

operand_step : (row : Row) (i : ℕ) (word : List ℕ) (words : List (List ℕ))
    → operands_in row i (word ∷ words) ≡ then_rest (operand_in (kind_of row i) word) (operands_in row (i + 1) words)
unfolding operands_in
operand_step row i word words = refl

behind_then : (modes : List Addressing) (bytes : List ℕ) (first : Result (Addressing × List ℕ) LineFault)
    (rest : Result (List Addressing × List ℕ) LineFault) (mode : Addressing) (here : List ℕ)
    → first ≡ Ok (mode, here) → behind_operands (modes ++ mode ∷ []) (bytes ++ here) rest
    ≡ behind_operands modes bytes (then_rest first rest)
behind_then modes bytes first (Ok (others, there)) mode here is =
    rw is (ap (λ (ms : List Addressing). Ok (ms, (bytes ++ here) ++ there)) (append_assoc modes (mode ∷ []) others)
    ∙ ap (λ (bs : List ℕ). Ok (modes ++ mode ∷ others, bs)) (append_assoc bytes here there))
behind_then modes bytes first (Err e) mode here is = rw is refl

pub operand_turn : (row : Row) (i : ℕ) (words rest : List (List ℕ)) (word : List ℕ) (modes : List Addressing)
    (bytes here : List ℕ) (mode : Addressing) (t : Result (List Addressing × List ℕ) LineFault)
    → words ≡ word ∷ rest → operand_in (kind_of row i) word ≡ Ok (mode, here)
    → behind_operands modes bytes (operands_in row i words) ≡ t
    → behind_operands (modes ++ mode ∷ []) (bytes ++ here) (operands_in row (i + 1) rest) ≡ t
operand_turn row i words rest word modes bytes here mode t split is so_far =
    behind_then modes bytes (operand_in (kind_of row i) word) (operands_in row (i + 1) rest) mode here is
    ∙ ap (behind_operands modes bytes) (sym (operand_step row i word rest) ∙ ap (operands_in row i) (sym split))
    ∙ so_far

pub operand_fault : (row : Row) (i : ℕ) (words rest : List (List ℕ)) (word : List ℕ) (modes : List Addressing)
    (bytes : List ℕ) (e : LineFault) (t : Result (List Addressing × List ℕ) LineFault)
    → words ≡ word ∷ rest → operand_in (kind_of row i) word ≡ Err e
    → behind_operands modes bytes (operands_in row i words) ≡ t → t ≡ Err e
operand_fault row i words rest word modes bytes e t split is so_far =
    sym so_far ∙ ap (behind_operands modes bytes) (ap (operands_in row i) split ∙ operand_step row i word rest)
    ∙ ap (λ (r : Result (Addressing × List ℕ) LineFault).
    behind_operands modes bytes (then_rest r (operands_in row (i + 1) rest))) is

pub operands_end : (row : Row) (i : ℕ) (modes : List Addressing) (bytes : List ℕ)
    (t : Result (List Addressing × List ℕ) LineFault)
    → behind_operands modes bytes (operands_in row i []) ≡ t → t ≡ Ok (modes, bytes)
unfolding operands_in
operands_end row i modes bytes t so_far =
    sym so_far ∙ ap (λ (ms : List Addressing). Ok (ms, bytes ++ [])) (append-nil modes)
    ∙ ap (λ (bs : List ℕ). Ok (modes, bs)) (append-nil bytes)

-- the word of an operand whose kind was asked for
pub word_is : (row given : Row) (i n : ℕ) (kind : Kind) (word : List ℕ) (t : Result (Addressing × List ℕ) LineFault)
    → given ≡ row → n ≡ i → kind ≡ kind_of given n
    → operand_in kind word ≡ t → operand_in (kind_of row i) word ≡ t
word_is row given i n kind word t same place asked is =
    ap (λ (k : Kind). operand_in k word) (sym (asked ∙ ap (λ (r : Row). kind_of r n) same ∙ ap (kind_of row) place))
    ∙ is

-- the same turn, of a loop that pushes
pub operand_pushed : (row : Row) (i next : ℕ) (words rest : List (List ℕ)) (word : List ℕ)
    (modes all_modes : List Addressing) (bytes here slice all_bytes : List ℕ) (mode : Addressing)
    (t : Result (List Addressing × List ℕ) LineFault)
    → words ≡ word ∷ rest → operand_in (kind_of row i) word ≡ Ok (mode, here) → all_modes ≡ modes ++ mode ∷ []
    → next ≡ i + 1 → slice ≡ here → all_bytes ≡ bytes ++ slice
    → behind_operands modes bytes (operands_in row i words) ≡ t
    → behind_operands all_modes all_bytes (operands_in row next rest) ≡ t
operand_pushed row i next words rest word modes all_modes bytes here slice all_bytes mode t split is pushed counted
    same added so_far =
    rw (pushed, counted, added, same) (operand_turn row i words rest word modes bytes here mode t split is so_far)

pub operand_last : (row : Row) (i : ℕ) (words : List (List ℕ)) (word : List ℕ) (modes all_modes : List Addressing)
    (bytes here slice all_bytes : List ℕ) (mode : Addressing)
    (t : Result (List Addressing × List ℕ) LineFault)
    → words ≡ word ∷ [] → operand_in (kind_of row i) word ≡ Ok (mode, here) → all_modes ≡ modes ++ mode ∷ []
    → slice ≡ here → all_bytes ≡ bytes ++ slice
    → behind_operands modes bytes (operands_in row i words) ≡ t → t ≡ Ok (all_modes, all_bytes)
operand_last row i words word modes all_modes bytes here slice all_bytes mode t split is pushed same added so_far =
    operands_end row (i + 1) all_modes all_bytes t
    (operand_pushed row i (i + 1) words [] word modes all_modes bytes here slice all_bytes mode t split is pushed refl
    same added so_far)

behind_no_operands : (r : Result (List Addressing × List ℕ) LineFault) → behind_operands [] [] r ≡ r
behind_no_operands (Ok (ms, bs)) = refl
behind_no_operands (Err e) = refl

pub operands_begin : (row : Row) (words : List (List ℕ))
    → behind_operands [] [] (operands_in row 0 words) ≡ operands_in row 0 words
operands_begin row words = behind_no_operands (operands_in row 0 words)

-- ---- a line

abbrev made : ℕ → Result (List Addressing × List ℕ) LineFault → Result WrittenInstruction LineFault
made place operands = operands >>= λ o. Ok (record { place = place; modes = o.0; operand_data = o.1 })

line_by : (line name : List ℕ) (words : List (List ℕ)) (place : ℕ)
    (operands : Result (List Addressing × List ℕ) LineFault) → slice_split is_blank line ≡ name ∷ words
    → place_in name (length words) ≡ Ok place → operands_in (row_at place) 0 words ≡ operands
    → instruction_in line ≡ made place operands
unfolding instruction_in instruction_in_words
line_by line name words place operands split there is =
    ap instruction_in_words split ∙ ap (λ (r : Result ℕ LineFault). r
    >>= λ p. made p (operands_in (row_at p) 0 words)) there ∙ ap (made place) is

pub line_done : (line name : List ℕ) (words : List (List ℕ)) (count place : ℕ) (modes : List Addressing)
    (bytes : List ℕ) → slice_split is_blank line ≡ name ∷ words → length words ≡ count
    → place_in name count ≡ Ok place → operands_in (row_at place) 0 words ≡ Ok (modes, bytes)
    → instruction_in line ≡ Ok (record { place = place; modes = modes; operand_data = bytes })
line_done line name words count place modes bytes split len there is =
    line_by line name words place (Ok (modes, bytes)) split (ap (place_in name) len ∙ there) is

pub line_bad : (line name : List ℕ) (words : List (List ℕ)) (count place : ℕ) (e : LineFault)
    → slice_split is_blank line ≡ name ∷ words → length words ≡ count
    → place_in name count ≡ Ok place → operands_in (row_at place) 0 words ≡ Err e → instruction_in line ≡ Err e
line_bad line name words count place e split len there is =
    line_by line name words place (Err e) split (ap (place_in name) len ∙ there) is

pub line_unnamed : (line name : List ℕ) (words : List (List ℕ)) (count : ℕ) (e : LineFault)
    → slice_split is_blank line ≡ name ∷ words → length words ≡ count
    → place_in name count ≡ Err e → instruction_in line ≡ Err e
unfolding instruction_in instruction_in_words
line_unnamed line name words count e split len fault =
    ap instruction_in_words split ∙ ap (λ (r : Result ℕ LineFault). r
    >>= λ p. made p (operands_in (row_at p) 0 words)) (ap (place_in name) len ∙ fault)

no_operands : (row : Row) → operands_in row 0 [] ≡ Ok ([], [])
unfolding operands_in
no_operands row = refl

pub line_alone : (line : List ℕ) (place : ℕ) (modes : List Addressing) (bytes : List ℕ)
    → slice_split is_blank line ≡ line ∷ [] → place_in line 0 ≡ Ok place → modes ≡ [] → bytes ≡ []
    → instruction_in line ≡ Ok (record { place = place; modes = modes; operand_data = bytes })
line_alone line place modes bytes split there none empty =
    rw (none, empty) (line_done line line [] 0 place [] [] split refl there (no_operands (row_at place)))

-- what the instruction says that was read at a name's place, and that it is there
pub line_as : (r : Result Instruction LineFault) (line name : List ℕ) (words : List (List ℕ)) (count place : ℕ)
    → slice_split is_blank line ≡ name ∷ words → length words ≡ count
    → place_in name count ≡ Ok place → Is (λ i. (i.modes.items, i.operand_data.items)) r
    (operands_in (row_at place) 0 words) → IfOk r (λ i. i.place ≡ place)
    → Is seen_instruction r (instruction_in line)
line_as (Ok i) line name words count place split len there is same =
    line_done line name words count place i.modes.items i.operand_data.items split len there is
    ∙ ap (λ (p : ℕ). Ok (record { place = p; modes = i.modes.items; operand_data = i.operand_data.items })) (sym same)
line_as (Err e) line name words count place split len there is same =
    line_bad line name words count place e split len there is

pub line_there : (r : Result Instruction LineFault) (line : List ℕ) → Is seen_instruction r (instruction_in line)
    → IfOk r (λ i. IsWritten (seen_instruction i))
line_there (Ok i) line is = (line_written line (seen_instruction i) is).0
line_there (Err e) line is = _

pub words_counted : (n : ℕ) (line : List ℕ) → n ≡ count_by is_blank line → length (slice_split is_blank line) ≡ n + 1
words_counted n line is = length-slice_split is_blank line ∙ ap (λ (k : ℕ). k + 1) (sym is)

-- the name and the count
counted_by : (b : Bool) (found : Option ℕ) (count place : ℕ) → found ≡ Some place
    → (count == operand_count (row_at place)) ≡ b
    → (ok_or found BadName >>= λ p. required (count == operand_count (row_at p)) Count >>= λ _. Ok p)
    ≡ (required b Count >>= λ _. Ok place)
counted_by b found count place is test = rw (is, test) refl

pub place_is : (name : List ℕ) (count place : ℕ) → place_named name ≡ Some place
    → count ≡ operand_count (row_at place) → place_in name count ≡ Ok place
place_is name count place is same = counted_by true (place_named name) count place is (eq-eqb _ _ same)

pub wrong_count : (name : List ℕ) (count place : ℕ) → place_named name ≡ Some place
    → count ≢ operand_count (row_at place) → place_in name count ≡ Err Count
wrong_count name count place is other = counted_by false (place_named name) count place is (ne_eqb _ _ other)

pub no_name : (name : List ℕ) (count : ℕ) → place_named name ≡ None → place_in name count ≡ Err BadName
no_name name count none = ap (λ (o : Option ℕ). ok_or o BadName
    >>= λ p. required (count == operand_count (row_at p)) Count >>= λ _. Ok p) none

-- ---- parts between marks

pub first_part : (mark at : ℕ) (xs before from after : List ℕ) (x : ℕ) → at ≡ position_or_len (λ b. b == mark) xs
    → before ≡ take at xs → from ≡ drop at xs → from ≡ x ∷ after
    → slice_split (λ b. b == mark) xs ≡ before ∷ slice_split (λ b. b == mark) after
first_part mark at xs before from after x is front back some =
    let len : length (drop at xs) ≡ suc (length after) = ap length (sym back ∙ some) in
    let less : position_or_len (λ b. b == mark) xs < length xs = omega (arith, length-drop at xs, len, is) in
    let behind : after_first (λ b. b == mark) xs ≡ after =
    ap (λ (k : ℕ). drop (k + 1) xs) (sym is) ∙ sym (drop-drop 1 at xs) ∙ ap (drop 1) (sym back ∙ some) in
    slice_split_first (λ b. b == mark) xs 0 less
    ∙ ap (λ (k : ℕ). take k xs ∷ slice_split (λ b. b == mark) (after_first (λ b. b == mark) xs)) (sym is)
    ∙ ap (λ (l : List ℕ). l ∷ slice_split (λ b. b == mark) (after_first (λ b. b == mark) xs)) (sym front)
    ∙ ap (λ (l : List ℕ). before ∷ slice_split (λ b. b == mark) l) behind

pub one_part : (mark at : ℕ) (xs from : List ℕ) → at ≡ position_or_len (λ b. b == mark) xs → from ≡ drop at xs
    → length from ≡ 0
    → slice_split (λ b. b == mark) xs ≡ xs ∷ []
one_part mark at xs from is back none =
    let len : length (drop at xs) ≡ 0 = ap length (sym back) ∙ none in
    slice_split_none (λ b. b == mark) xs (λ k d within. fails_before_first (λ b. b == mark) xs k d
    (omega (arith, length-drop at xs, len, is, within)))

pub at_most : (mark at : ℕ) (xs : List ℕ) → at ≡ position_or_len (λ b. b == mark) xs → at ≤ length xs
at_most mark at xs is = omega (arith, is, prefix_len-le-length (λ b. not (b == mark)) xs)

-- ---- names

pub name_here : (name : List ℕ) (place : ℕ) → place < row_count
    → ((k : ℕ) → k < place → bytes_eq (get_or names k []) name ≡ false) → bytes_eq (name_at place) name ≡ true
    → Some place ≡ place_named name
unfolding place_named
name_here name place within before here =
    let first : first_named name ≡ place = position_or_len_is (λ known. bytes_eq known name) names place []
    (omega (arith, names_counted)) before (λ _. here) in
    rw (first, lt-ltb place row_count within) refl

pub name_nowhere : (name : List ℕ) → ((k : ℕ) → k < row_count → bytes_eq (get_or names k []) name ≡ false)
    → None ≡ place_named name
unfolding place_named
name_nowhere name all =
    let past : first_named name ≡ row_count =
    position_or_len_is (λ known. bytes_eq known name) names row_count [] (omega (arith, names_counted)) all
    (λ less. absurd (omega (arith, less, names_counted))) in
    rw past refl

pub ruleset digit_turns = (pair_turn, high_fault, low_fault, half_fault, digits_end, digits_begin)

pub ruleset data_cases = (too_many, bytes_fault, mode_fault, data_done, data_unfit)

pub ruleset word_cases = (zero_word, top_word, other_word, empty_word)

pub ruleset name_cases = (place_is, wrong_count, no_name)

pub ruleset parts = (first_part, one_part, at_most)
