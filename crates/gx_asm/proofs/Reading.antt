-- What words say, and what is said in words: the definitions of the line of an instruction and of the instruction of a
-- line undo each other.
use Rattle.std.proofs.Common.{◌≡◌, ◌<◌, ◌≤◌, ◌+◌, ◌-◌, ◌*◌, ◌/◌, ◌%◌, ◌==◌, ◌&&◌, ◌||◌, not, nat_le, nat_lt}
use Rattle.std.proofs.Common.{if◌then◌else◌, ℕ, suc, Bool, true, false, List, [], ◌∷◌, ◌++◌, length, take, drop}
use Rattle.std.proofs.Common.{codes, All, ◌⊎◌, inl, inr, Option, Some, None, Result, Ok, Err, refl, sym, ap, subst}
use Rattle.std.proofs.Common.{◌∙◌, arith, length-append}
use Rattle.std.specs.List.{slice_split}
use Rattle.std.specs.Option.{ok_or}
use Rattle.std.specs.Str.{bytes_eq}
use Rattle.std.proofs.lemmas.Bool.{agree_below_at, cases_lt, and_parts, leb-true, eqb-true, eq-eqb, ne_eqb, lt-ltb}
use Rattle.std.proofs.lemmas.Bool.{le-ltb}
use Rattle.std.proofs.lemmas.Bool.Decides.{nat_tests}
use Rattle.std.proofs.lemmas.List.{take-append-drop, length-take, length-drop}
use Rattle.std.proofs.lemmas.List.Elements.{All-nil, All-cons, All-head, All-tail, All-append, All-take, All-drop}
use Rattle.std.proofs.lemmas.Slice.Eq.{bytes_eq-Decides}
use Rattle.std.proofs.Math.Seq.{take-append_seam, drop-append_seam}
use Rattle.gx_words.specs.Numbers.{IsWidth}
use Rattle.gx_words.specs.Results.{◌>>=◌}
use Rattle.gx_rows.specs.declared.instructions.Row.{Row}
use Rattle.gx_rows.specs.declared.modes.Addressing.{Addressing}
use Rattle.gx_rows.specs.declared.modes.Addressing.TheVariants.{Zero, Constant, Memory, Top, Local, Ram}
use Rattle.gx_rows.specs.declared.modes.Kind.{Kind}
use Rattle.gx_rows.specs.declared.modes.Kind.TheVariants.{Load, Store}
use Rattle.gx_rows.specs.Modes.{HasWidth, kind_of}
use Rattle.gx_rows.specs.Table.{row_at}
use Rattle.gx_asm.specs.declared.faults.LineFault.{LineFault}
use Rattle.gx_asm.specs.declared.faults.LineFault.TheVariants.{BadName, Count, BadOperand}
use Rattle.gx_asm.specs.Names.{name_at, place_named}
use Rattle.gx_asm.specs.Instructions.{WrittenInstruction, IsWritten, AreModes, operand_count, data_len, all_data_len}
use Rattle.gx_asm.specs.Instructions.{fits_kind, blank, constant_sign, memory_sign, local_sign, ram_sign, digit}
use Rattle.gx_asm.specs.Instructions.{digits, operand_word, words_of, instruction_line}
use Rattle.gx_words.specs.Constants.{line_feed}
use Rattle.gx_asm.specs.Texts.{required, digit_value, bytes_spelled, mode_with, data_in, operand_in, operands_in}
use Rattle.gx_asm.specs.Texts.{place_in, instruction_in_words, instruction_in, is_blank}
use Rattle.gx_asm.proofs.NameLaws.{name_found, named_there, name_lacks_blank, name_lacks_line_feed}
use Rattle.gx_asm.proofs.Words.{lacks, all_lack, behind, lacks-append, split_parts, split_some, parts_join}

-- ---- digits

reads : Result ℕ LineFault → ℕ → Bool
reads (Ok x) v = x == v
reads (Err e) v = false

read_by : (r : Result ℕ LineFault) (v : ℕ) → reads r v ≡ true → r ≡ Ok v
unfolding reads
read_by (Ok x) v is = ap (λ (y : ℕ). Ok y) (eqb-true x v is)
read_by (Err e) v is = absurd cc

digit_read : (v : ℕ) → v < 16 → digit_value (digit v) ≡ Ok v
unfolding reads
digit_read v less = read_by (digit_value (digit v)) v
    (agree_below_at (λ n. reads (digit_value (digit n)) n) (λ n. true) 16 v refl less)

digit_by : (a b : Bool) (d v : ℕ) → (nat_le 0x30 d && nat_le d 0x39) ≡ a → (nat_le 0x61 d && nat_le d 0x66) ≡ b
    → (if a then Ok (d - 0x30) else if b then Ok (d - 0x57) else Err BadOperand) ≡ Ok v
    → ((0x30 ≤ d) × (d ≤ 0x39) × (d - 0x30 ≡ v)) ⊎ ((0x61 ≤ d) × (d ≤ 0x66) × (d - 0x57 ≡ v))
digit_by true b d v s t is =
    let p = and_parts _ _ s in
    let low = leb-true _ _ p.0 in
    let high = leb-true _ _ p.1 in
    inl (low, high, cc)
digit_by false true d v s t is =
    let p = and_parts _ _ t in
    let low = leb-true _ _ p.0 in
    let high = leb-true _ _ p.1 in
    inr (low, high, cc)
digit_by false false d v s t is = absurd cc

pub digit_written : (d v : ℕ) → digit_value d ≡ Ok v → (digit v ≡ d) × (v < 16)
digit_written d v is =
    elim (digit_by (nat_le 0x30 d && nat_le d 0x39) (nat_le 0x61 d && nat_le d 0x66) d v refl refl is) [
      | inl h ↦
          let test : nat_lt v 10 ≡ true = lt-ltb v 10 (omega (arith, h.0, h.1, h.2)) in
          (rw test (omega (arith, h.0, h.1, h.2)), omega (arith, h.0, h.1, h.2))
      | inr h ↦
          let test : nat_lt v 10 ≡ false = le-ltb v 10 (omega (arith, h.0, h.1, h.2)) in
          (rw test (omega (arith, h.0, h.1, h.2)), omega (arith, h.0, h.1, h.2))
    ]

-- two digits and the bytes behind them
abbrev pub paired : Result ℕ LineFault → Result ℕ LineFault → Result (List ℕ) LineFault → Result (List ℕ) LineFault
paired rh rl rest = rh >>= λ h. rl >>= λ l. rest >>= λ bytes. Ok ((16 * h + l) ∷ bytes)

record Pair (rh rl : Result ℕ LineFault) (rest : Result (List ℕ) LineFault) (all : List ℕ) : Type 0 where
  high : ℕ
  low : ℕ
  more : List ℕ
  high_is : rh ≡ Ok high
  low_is : rl ≡ Ok low
  more_is : rest ≡ Ok more
  all_is : (16 * high + low) ∷ more ≡ all

unpaired : (rh rl : Result ℕ LineFault) (rest : Result (List ℕ) LineFault) (all : List ℕ) → paired rh rl rest ≡ Ok all
    → Pair rh rl rest all
unpaired (Ok h) (Ok l) (Ok bytes) all is =
    record { high = h; low = l; more = bytes; high_is = refl; low_is = refl; more_is = refl; all_is = cc }
unpaired (Ok h) (Ok l) (Err e) all is = absurd cc
unpaired (Ok h) (Err e) rest all is = absurd cc
unpaired (Err e) rl rest all is = absurd cc

pair_read : (rh rl : Result ℕ LineFault) (rest : Result (List ℕ) LineFault) (h l : ℕ) (bytes : List ℕ) → rh ≡ Ok h
    → rl ≡ Ok l → rest ≡ Ok bytes
    → paired rh rl rest ≡ Ok ((16 * h + l) ∷ bytes)
pair_read rh rl rest h l bytes a b c = rw (a, b, c) refl

pair_written : (high low h l : ℕ) (rest bytes : List ℕ) → digit_value high ≡ Ok h → digit_value low ≡ Ok l
    → (digits bytes ≡ rest) × All (λ b. b < 256) bytes
    → (digits ((16 * h + l) ∷ bytes) ≡ high ∷ low ∷ rest) × All (λ b. b < 256) ((16 * h + l) ∷ bytes)
pair_written high low h l rest bytes a b more =
    let first = digit_written high h a in
    let second = digit_written low l b in
    let quotient : (16 * h + l) / 16 ≡ h = omega (arith, first.1, second.1) in
    let remainder : (16 * h + l) % 16 ≡ l = omega (arith, first.1, second.1) in (
      ap (λ (n : ℕ). digit n ∷ digit ((16 * h + l) % 16) ∷ digits bytes) quotient
          ∙ ap (λ (n : ℕ). digit h ∷ digit n ∷ digits bytes) remainder
          ∙ ap (λ (d : ℕ). d ∷ digit l ∷ digits bytes) first.0
          ∙ ap (λ (d : ℕ). high ∷ d ∷ digits bytes) second.0
          ∙ ap (λ (ds : List ℕ). high ∷ low ∷ ds) more.0,
      All-cons (λ b. b < 256) (16 * h + l) bytes (omega (arith, first.1, second.1)) more.1,
    )

pub bytes_written : (ds bytes : List ℕ) → bytes_spelled ds ≡ Ok bytes → (digits bytes ≡ ds) × All (λ b. b < 256) bytes
unfolding bytes_spelled
bytes_written [] bytes is =
    let e : [] ≡ bytes = cc in
    subst (λ (bs : List ℕ). (digits bs ≡ []) × All (λ b. b < 256) bs) e (refl, All-nil (λ b. b < 256))
bytes_written (d ∷ []) bytes is = absurd cc
bytes_written (high ∷ low ∷ rest) bytes is =
    let p = unpaired (digit_value high) (digit_value low) (bytes_spelled rest) bytes is in
    subst (λ (bs : List ℕ). (digits bs ≡ high ∷ low ∷ rest) × All (λ b. b < 256) bs) p.all_is
    (pair_written high low p.high p.low rest p.more p.high_is p.low_is (bytes_written rest p.more p.more_is))

bytes_read : (bytes : List ℕ) → All (λ b. b < 256) bytes → bytes_spelled (digits bytes) ≡ Ok bytes
unfolding bytes_spelled
bytes_read [] small = refl
bytes_read (b ∷ bytes) small =
    let less : b < 256 = All-head (λ b. b < 256) b bytes small in
    pair_read (digit_value (digit (b / 16))) (digit_value (digit (b % 16))) (bytes_spelled (digits bytes)) (b / 16)
    (b % 16) bytes
    (digit_read (b / 16) (omega arith)) (digit_read (b % 16) (omega arith))
    (bytes_read bytes (All-tail (λ b. b < 256) b bytes small))
    ∙ ap (λ (x : ℕ). Ok (x ∷ bytes)) (omega arith)

pub length-digits : (bytes : List ℕ) → length (digits bytes) ≡ 2 * length bytes
length-digits [] = refl
length-digits (b ∷ bytes) = omega (arith, length-digits bytes)

-- ---- an operand

-- an operand of a kind
pub record IsOperand (kind : Kind) (mode : Addressing) (bytes : List ℕ) : Type 0 where
  pub width : HasWidth mode
  pub fits : fits_kind kind mode ≡ true
  pub len : length bytes ≡ data_len mode
  pub small : All (λ b. b < 256) bytes

at_width : (f : ℕ → Result Addressing LineFault) (m : ℕ → Addressing) → f 1 ≡ Ok (m 1) → f 2 ≡ Ok (m 2) → f 4 ≡ Ok (m 4)
    → (n : ℕ) → IsWidth n → f n ≡ Ok (m n)
at_width f m one two four n width =
    elim width [
      | inl e ↦ rw e one
      | inr (inl e) ↦ rw e two
      | inr (inr e) ↦ rw e four
    ]

-- the mode of a sign, and what a word says with it
IsSigned : ℕ → ℕ → Addressing → Type 0
IsSigned sign n mode = HasWidth mode × (data_len mode ≡ n)
    × ((bytes : List ℕ) → operand_word mode bytes ≡ sign ∷ digits bytes)

signed_by : (w c m l r : Bool) (sign n : ℕ) (mode : Addressing)
    → (n == 1 || n == 2 || n == 4) ≡ w → (sign == constant_sign) ≡ c → (sign == memory_sign) ≡ m
    → (sign == local_sign) ≡ l → (sign == ram_sign) ≡ r
    → (if not w then Err BadOperand else if c then Ok (Constant n) else if m then Ok (Memory n) else if l
    then Ok (Local n) else if r then Ok (Ram n) else Err BadOperand) ≡ Ok mode
    → IsSigned sign n mode
unfolding IsSigned
signed_by false c m l r sign n mode is_width a b d e is = absurd cc
signed_by true true m l r sign n mode is_width a b d e is =
    let same : Constant n ≡ mode = cc in
    let width : IsWidth n = grind (arith, nat_tests) in
    subst (IsSigned sign n) same (
      width,
      refl,
      λ bytes. ap (λ (s : ℕ). s ∷ digits bytes) (sym (eqb-true sign constant_sign a)),
    )
signed_by true false true l r sign n mode is_width a b d e is =
    let same : Memory n ≡ mode = cc in
    let width : IsWidth n = grind (arith, nat_tests) in
    subst (IsSigned sign n) same (
      width,
      refl,
      λ bytes. ap (λ (s : ℕ). s ∷ digits bytes) (sym (eqb-true sign memory_sign b)),
    )
signed_by true false false true r sign n mode is_width a b d e is =
    let same : Local n ≡ mode = cc in
    let width : IsWidth n = grind (arith, nat_tests) in
    subst (IsSigned sign n) same (
      width,
      refl,
      λ bytes. ap (λ (s : ℕ). s ∷ digits bytes) (sym (eqb-true sign local_sign d)),
    )
signed_by true false false false true sign n mode is_width a b d e is =
    let same : Ram n ≡ mode = cc in
    let width : IsWidth n = grind (arith, nat_tests) in
    subst (IsSigned sign n) same (
      width,
      refl,
      λ bytes. ap (λ (s : ℕ). s ∷ digits bytes) (sym (eqb-true sign ram_sign e)),
    )
signed_by true false false false false sign n mode is_width a b d e is = absurd cc

same_ok : {A E : Type 0} (x y : A) → ◌≡◌ {A = Result A E} (Ok x) (Ok y) → x ≡ y
same_ok x y is = cc

same_pair : {A B E : Type 0} (a c : A) (b d : B) → ◌≡◌ {A = Result (A × B) E} (Ok (a, b)) (Ok (c, d))
    → (a ≡ c) × (b ≡ d)
same_pair {A} {B} {E} a c b d is =
    let e : ◌≡◌ {A = A × B} (a, b) (c, d) = same_ok {A = A × B} {E = E} (a, b) (c, d) is in
    (ap (λ (p : A × B). p.0) e, ap (λ (p : A × B). p.1) e)

abbrev pub with_fit : Bool → Addressing → List ℕ → Result (Addressing × List ℕ) LineFault
with_fit fits m bs = required fits BadOperand >>= λ _. Ok (m, bs)

granted : (b : Bool) (mode m : Addressing) (bs bytes : List ℕ) → with_fit b m bs ≡ Ok (mode, bytes)
    → (b ≡ true) × (m ≡ mode) × (bs ≡ bytes)
granted true mode m bs bytes is =
    let same = same_pair {E = LineFault} m mode bs bytes is in
    (refl, same.0, same.1)
granted false mode m bs bytes is = absurd cc

abbrev pub with_mode : Kind → Result Addressing LineFault → List ℕ → Result (Addressing × List ℕ) LineFault
with_mode kind rm bs = rm >>= λ m. with_fit (fits_kind kind m) m bs

has_mode : (kind : Kind) (rm : Result Addressing LineFault) (bs bytes : List ℕ) (mode : Addressing)
    → with_mode kind rm bs ≡ Ok (mode, bytes)
    → (rm ≡ Ok mode) × (fits_kind kind mode ≡ true) × (bs ≡ bytes)
has_mode kind (Ok m) bs bytes mode is =
    let g = granted (fits_kind kind m) mode m bs bytes is in
    (ap (λ (x : Addressing). Ok x) g.1, subst (λ (x : Addressing). fits_kind kind x ≡ true) g.1 g.0, g.2)
has_mode kind (Err e) bs bytes mode is = absurd cc

abbrev pub with_bytes : Kind → Result (List ℕ) LineFault → (List ℕ → Result Addressing LineFault)
    → Result (Addressing × List ℕ) LineFault
with_bytes kind rb rm = rb >>= λ bs. with_mode kind (rm bs) bs

pub has_data : (kind : Kind) (rb : Result (List ℕ) LineFault) (rm : List ℕ → Result Addressing LineFault)
    (bytes : List ℕ) (mode : Addressing)
    → with_bytes kind rb rm ≡ Ok (mode, bytes) → (rb ≡ Ok bytes) × (rm bytes ≡ Ok mode) × (fits_kind kind mode ≡ true)
has_data kind (Ok bs) rm bytes mode is =
    let h = has_mode kind (rm bs) bs bytes mode is in
    (ap (λ (x : List ℕ). Ok x) h.2, subst (λ (x : List ℕ). rm x ≡ Ok mode) h.2 h.0, h.1)
has_data kind (Err e) rm bytes mode is = absurd cc

data_written : (kind : Kind) (word : List ℕ) (mode : Addressing) (bytes : List ℕ) → data_in kind word ≡ Ok (mode, bytes)
    → IsOperand kind mode bytes × (operand_word mode bytes ≡ word)
unfolding data_in IsSigned
data_written kind [] mode bytes is = absurd cc
data_written kind (sign ∷ rest) mode bytes is =
    let h = has_data kind (bytes_spelled rest) (λ bs. mode_with sign (length bs)) bytes mode is in
    let n = length bytes in
    let s : IsSigned sign (length bytes) mode = signed_by (n == 1 || n == 2 || n == 4) (sign == constant_sign)
    (sign == memory_sign) (sign == local_sign) (sign == ram_sign) sign n mode refl refl refl refl refl h.1 in
    let b = bytes_written rest bytes h.0 in
    (record { width = s.0; fits = h.2; len = sym s.1; small = b.1 }, s.2 bytes ∙ ap (λ (ds : List ℕ). sign ∷ ds) b.0)

fits_no_data : (kind : Kind) → (fits_kind kind Zero ≡ true) × (fits_kind kind Top ≡ true)
fits_no_data Load = (refl, refl)
fits_no_data Store = (refl, refl)

operand_by : (z s : Bool) (kind : Kind) (word : List ℕ) (mode : Addressing) (bytes : List ℕ)
    → bytes_eq word (codes "z") ≡ z → bytes_eq word (codes "sp") ≡ s
    → (if z then Ok (Zero, []) else if s then Ok (Top, []) else data_in kind word) ≡ Ok (mode, bytes)
    → IsOperand kind mode bytes × (operand_word mode bytes ≡ word)
operand_by true s kind word mode bytes a b is =
    let h = same_pair {E = LineFault} Zero mode [] bytes is in
    let same : word ≡ codes "z" = (bytes_eq-Decides word (codes "z")).0 a in
    subst (λ (x : Addressing). IsOperand kind x bytes × (operand_word x bytes ≡ word)) h.0
    (subst (λ (x : List ℕ). IsOperand kind Zero x × (operand_word Zero x ≡ word)) h.1
    (record { width = _; fits = (fits_no_data kind).0; len = refl; small = All-nil (λ b. b < 256) }, sym same))
operand_by false true kind word mode bytes a b is =
    let h = same_pair {E = LineFault} Top mode [] bytes is in
    let same : word ≡ codes "sp" = (bytes_eq-Decides word (codes "sp")).0 b in
    subst (λ (x : Addressing). IsOperand kind x bytes × (operand_word x bytes ≡ word)) h.0
    (subst (λ (x : List ℕ). IsOperand kind Top x × (operand_word Top x ≡ word)) h.1
    (record { width = _; fits = (fits_no_data kind).1; len = refl; small = All-nil (λ b. b < 256) }, sym same))
operand_by false false kind word mode bytes a b is = data_written kind word mode bytes is

pub operand_written : (kind : Kind) (word : List ℕ) (mode : Addressing) (bytes : List ℕ)
    → operand_in kind word ≡ Ok (mode, bytes)
    → IsOperand kind mode bytes × (operand_word mode bytes ≡ word)
unfolding operand_in
operand_written kind word mode bytes is =
    operand_by (bytes_eq word (codes "z")) (bytes_eq word (codes "sp")) kind word mode bytes refl refl is

pub data_made : (kind : Kind) (rb : Result (List ℕ) LineFault) (rm : List ℕ → Result Addressing LineFault)
    (bytes : List ℕ) (mode : Addressing)
    → rb ≡ Ok bytes → rm bytes ≡ Ok mode → fits_kind kind mode ≡ true → with_bytes kind rb rm ≡ Ok (mode, bytes)
data_made kind rb rm bytes mode a b c = rw (a, b, c) refl

data_read : (kind : Kind) (sign : ℕ) (m : ℕ → Addressing) (n : ℕ) (bytes : List ℕ)
    → mode_with sign 1 ≡ Ok (m 1) → mode_with sign 2 ≡ Ok (m 2) → mode_with sign 4 ≡ Ok (m 4)
    → IsWidth n → length bytes ≡ n → fits_kind kind (m n) ≡ true → All (λ b. b < 256) bytes
    → data_in kind (sign ∷ digits bytes) ≡ Ok (m n, bytes)
unfolding data_in
data_read kind sign m n bytes one two four width len fits small =
    data_made kind (bytes_spelled (digits bytes)) (λ bs. mode_with sign (length bs)) bytes (m n)
    (bytes_read bytes small)
    (ap (mode_with sign) len ∙ at_width (mode_with sign) m one two four n width) fits

none_left : (bytes : List ℕ) → length bytes ≡ 0 → [] ≡ bytes
none_left [] len = refl
none_left (b ∷ bytes) len = absurd cc

pub operand_read : (kind : Kind) (mode : Addressing) (bytes : List ℕ) → IsOperand kind mode bytes
    → operand_in kind (operand_word mode bytes) ≡ Ok (mode, bytes)
unfolding operand_in
operand_read kind Zero bytes o = ap (λ (bs : List ℕ). Ok (Zero, bs)) (none_left bytes o.len)
operand_read kind (Constant n) bytes o =
    data_read kind constant_sign Constant n bytes refl refl refl o.width o.len o.fits o.small
operand_read kind (Memory n) bytes o = data_read kind memory_sign Memory n bytes refl refl refl o.width o.len o.fits
    o.small
operand_read kind Top bytes o = ap (λ (bs : List ℕ). Ok (Top, bs)) (none_left bytes o.len)
operand_read kind (Local n) bytes o = data_read kind local_sign Local n bytes refl refl refl o.width o.len o.fits
    o.small
operand_read kind (Ram n) bytes o = data_read kind ram_sign Ram n bytes refl refl refl o.width o.len o.fits o.small

-- ---- the words of operands

-- operands for a row from an index on
pub record AreOperands (row : Row) (i : ℕ) (modes : List Addressing) (bytes : List ℕ) : Type 0 where
  pub each : AreModes row i modes
  pub len : length bytes ≡ all_data_len modes
  pub small : All (λ b. b < 256) bytes

abbrev pub words_in : List Addressing → List ℕ → List (List ℕ)
words_in [] bytes = []
words_in (mode ∷ rest) bytes = operand_word mode (take (data_len mode) bytes) ∷ words_in rest
    (drop (data_len mode) bytes)

pub length-words_in : (modes : List Addressing) (bytes : List ℕ) → length (words_in modes bytes) ≡ length modes
length-words_in [] bytes = refl
length-words_in (mode ∷ rest) bytes = ap suc (length-words_in rest (drop (data_len mode) bytes))

behind_blanks : (modes : List Addressing) (bytes : List ℕ) → words_of modes bytes ≡ behind blank (words_in modes bytes)
unfolding words_of
behind_blanks [] bytes = refl
behind_blanks (mode ∷ rest) bytes =
    ap (λ (more : List ℕ). blank ∷ (operand_word mode (take (data_len mode) bytes) ++ more))
    (behind_blanks rest (drop (data_len mode) bytes))

abbrev pub then_rest : Result (Addressing × List ℕ) LineFault → Result (List Addressing × List ℕ) LineFault
    → Result (List Addressing × List ℕ) LineFault
then_rest first rest = first >>= λ operand. rest >>= λ more. Ok (operand.0 ∷ more.0, operand.1 ++ more.1)

record Parted (first : Result (Addressing × List ℕ) LineFault) (rest : Result (List Addressing × List ℕ) LineFault)
    (modes : List Addressing) (bytes : List ℕ) : Type 0 where
  mode : Addressing
  here : List ℕ
  others : List Addressing
  there : List ℕ
  first_is : first ≡ Ok (mode, here)
  rest_is : rest ≡ Ok (others, there)
  modes_are : mode ∷ others ≡ modes
  bytes_are : here ++ there ≡ bytes

parted : (first : Result (Addressing × List ℕ) LineFault) (rest : Result (List Addressing × List ℕ) LineFault)
    (modes : List Addressing) (bytes : List ℕ)
    → then_rest first rest ≡ Ok (modes, bytes) → Parted first rest modes bytes
parted (Ok (mode, here)) (Ok (others, there)) modes bytes is =
    let same = same_pair {E = LineFault} (mode ∷ others) modes (here ++ there) bytes is in
    record {
      mode = mode;
      here = here;
      others = others;
      there = there;
      first_is = refl;
      rest_is = refl;
      modes_are = same.0;
      bytes_are = same.1;
    }
parted (Ok o) (Err e) modes bytes is = absurd cc
parted (Err e) rest modes bytes is = absurd cc

operands_join : (row : Row) (i : ℕ) (mode : Addressing) (here : List ℕ) (others : List Addressing)
    (there word : List ℕ) (words : List (List ℕ))
    → IsOperand (kind_of row i) mode here × (operand_word mode here ≡ word) → AreOperands row (i + 1) others there
    × (words_in others there ≡ words)
    → AreOperands row i (mode ∷ others) (here ++ there) × (words_in (mode ∷ others) (here ++ there) ≡ word ∷ words)
unfolding all_data_len
operands_join row i mode here others there word words first rest =
    let front : take (data_len mode) (here ++ there) ≡ here = ap (λ (n : ℕ). take n (here ++ there)) (sym first.0.len)
    ∙ take-append_seam here there in
    let back : drop (data_len mode) (here ++ there) ≡ there = ap (λ (n : ℕ). drop n (here ++ there)) (sym first.0.len)
    ∙ drop-append_seam here there in (
      record {
        each = (first.0.width, first.0.fits, rest.0.each);
        len = omega (arith, length-append here there, first.0.len, rest.0.len);
        small = All-append (λ b. b < 256) here there first.0.small rest.0.small;
      },
      ap (λ (bs : List ℕ). operand_word mode bs ∷ words_in others (drop (data_len mode) (here ++ there))) front
          ∙ ap (λ (bs : List ℕ). operand_word mode here ∷ words_in others bs) back
          ∙ ap (λ (x : List ℕ). x ∷ words_in others there) first.1
          ∙ ap (λ (xs : List (List ℕ)). word ∷ xs) rest.1,
    )

pub operands_written : (row : Row) (i : ℕ) (words : List (List ℕ)) (modes : List Addressing) (bytes : List ℕ)
    → operands_in row i words ≡ Ok (modes, bytes)
    → AreOperands row i modes bytes × (words_in modes bytes ≡ words)
unfolding operands_in all_data_len
operands_written row i [] modes bytes is =
    let h = same_pair {E = LineFault} [] modes [] bytes is in
    subst (λ (x : List Addressing). AreOperands row i x bytes × (words_in x bytes ≡ [])) h.0
    (subst (λ (x : List ℕ). AreOperands row i [] x × (words_in [] x ≡ [])) h.1
    (record { each = _; len = refl; small = All-nil (λ b. b < 256) }, refl))
operands_written row i (word ∷ words) modes bytes is =
    let p = parted (operand_in (kind_of row i) word) (operands_in row (i + 1) words) modes bytes is in
    let both = operands_join row i p.mode p.here p.others p.there word words
    (operand_written (kind_of row i) word p.mode p.here p.first_is)
    (operands_written row (i + 1) words p.others p.there p.rest_is) in
    subst (λ (x : List Addressing). AreOperands row i x bytes × (words_in x bytes ≡ word ∷ words)) p.modes_are
    (subst (λ (x : List ℕ). AreOperands row i (p.mode ∷ p.others) x × (words_in (p.mode ∷ p.others) x ≡ word ∷ words))
    p.bytes_are both)

pub rest_made : (first : Result (Addressing × List ℕ) LineFault) (rest : Result (List Addressing × List ℕ) LineFault)
    (mode : Addressing) (here : List ℕ) (others : List Addressing) (there : List ℕ)
    → first ≡ Ok (mode, here) → rest ≡ Ok (others, there) → then_rest first rest ≡ Ok (mode ∷ others, here ++ there)
rest_made first rest mode here others there a b = rw (a, b) refl

operands_read : (row : Row) (i : ℕ) (modes : List Addressing) (bytes : List ℕ) → AreOperands row i modes bytes
    → operands_in row i (words_in modes bytes) ≡ Ok (modes, bytes)
unfolding operands_in all_data_len
operands_read row i [] bytes o = ap (λ (bs : List ℕ). Ok ([], bs)) (none_left bytes o.len)
operands_read row i (mode ∷ others) bytes o =
    let n = data_len mode in
    let first : IsOperand (kind_of row i) mode (take n bytes) =
    record {
      width = o.each.0;
      fits = o.each.1;
      len = length-take n bytes ∙ omega (arith, o.len);
      small = All-take (λ b. b < 256) n bytes o.small;
    } in
    let rest : AreOperands row (i + 1) others (drop n bytes) =
    record {
      each = o.each.2;
      len = length-drop n bytes ∙ omega (arith, o.len);
      small = All-drop (λ b. b < 256) n bytes o.small;
    } in
    rest_made (operand_in (kind_of row i) (operand_word mode (take n bytes)))
    (operands_in row (i + 1) (words_in others (drop n bytes))) mode (take n bytes) others (drop n bytes)
    (operand_read (kind_of row i) mode (take n bytes) first) (operands_read row (i + 1) others (drop n bytes) rest)
    ∙ ap (λ (bs : List ℕ). Ok (mode ∷ others, bs)) (take-append-drop n bytes)

-- ---- words hold nothing below 0x21: no blank, and no line feed

above : (mark x : ℕ) → mark < 0x21 → 0x21 ≤ x → (x == mark) ≡ false
above mark x low high = ne_eqb x mark (λ e. omega (arith, e))

digit_above : (n : ℕ) → 0x21 ≤ digit n
digit_above n =
    elim (cases_lt n 10) [
      | inl few ↦ let test = lt-ltb n 10 few in rw test (omega arith)
      | inr more ↦ let test = le-ltb n 10 more in rw test (omega arith)
    ]

digits_lack : (mark : ℕ) (bytes : List ℕ) → mark < 0x21 → lacks mark (digits bytes) ≡ true
digits_lack mark [] low = refl
digits_lack mark (b ∷ bytes) low =
    let first = above mark (digit (b / 16)) low (digit_above (b / 16)) in
    let second = above mark (digit (b % 16)) low (digit_above (b % 16)) in
    rw (first, second) (digits_lack mark bytes low)

signed_lack : (mark sign : ℕ) (bytes : List ℕ) → mark < 0x21 → 0x21 ≤ sign → lacks mark (sign ∷ digits bytes) ≡ true
signed_lack mark sign bytes low high = let first = above mark sign low high in rw first (digits_lack mark bytes low)

word_lacks : (mark : ℕ) (mode : Addressing) (bytes : List ℕ) → mark < 0x21 → lacks mark (operand_word mode bytes) ≡ true
word_lacks mark Zero bytes low = let z = above mark 0x7A low (omega arith) in rw z refl
word_lacks mark (Constant n) bytes low = signed_lack mark constant_sign bytes low (omega arith)
word_lacks mark (Memory n) bytes low = signed_lack mark memory_sign bytes low (omega arith)
word_lacks mark Top bytes low =
    let s = above mark 0x73 low (omega arith) in
    let p = above mark 0x70 low (omega arith) in
    rw (s, p) refl
word_lacks mark (Local n) bytes low = signed_lack mark local_sign bytes low (omega arith)
word_lacks mark (Ram n) bytes low = signed_lack mark ram_sign bytes low (omega arith)

words_lack : (mark : ℕ) (modes : List Addressing) (bytes : List ℕ) → mark < 0x21
    → all_lack mark (words_in modes bytes) ≡ true
words_lack mark [] bytes low = refl
words_lack mark (mode ∷ rest) bytes low =
    rw (word_lacks mark mode (take (data_len mode) bytes) low) (words_lack mark rest (drop (data_len mode) bytes) low)

behind_lacks : (parts : List (List ℕ)) → all_lack line_feed parts ≡ true → lacks line_feed (behind blank parts) ≡ true
behind_lacks [] h = refl
behind_lacks (part ∷ parts) h =
    let both = and_parts (lacks line_feed part) (all_lack line_feed parts) h in
    lacks-append line_feed part (behind blank parts) both.0 (behind_lacks parts both.1)

-- ---- a line

-- an instruction's line without its end
abbrev pub body_of : WrittenInstruction → List ℕ
body_of w = name_at w.place ++ words_of w.modes w.operand_data

pub body_lacks : (w : WrittenInstruction) → lacks line_feed (body_of w) ≡ true
body_lacks w =
    lacks-append line_feed (name_at w.place) (words_of w.modes w.operand_data) (name_lacks_line_feed w.place)
    (ap (lacks line_feed) (behind_blanks w.modes w.operand_data)
    ∙ behind_lacks (words_in w.modes w.operand_data) (words_lack line_feed w.modes w.operand_data (omega arith)))

pub line_of_body : (w : WrittenInstruction) → instruction_line w ≡ body_of w ++ line_feed ∷ []
unfolding instruction_line
line_of_body w = refl

abbrev placed : Option ℕ → (ℕ → Bool) → Result ℕ LineFault
placed place test = ok_or place BadName >>= λ p. required (test p) Count >>= λ _. Ok p

abbrev by_place : Result ℕ LineFault → (ℕ → Result (List Addressing × List ℕ) LineFault)
    → Result WrittenInstruction LineFault
by_place place operands = place >>= λ p. operands p >>= λ o. Ok (record { place = p; modes = o.0; operand_data = o.1 })

operands_by : (operands : Result (List Addressing × List ℕ) LineFault) (place : ℕ) (w : WrittenInstruction)
    → (operands >>= λ o. Ok (record { place = place; modes = o.0; operand_data = o.1 })) ≡ Ok w
    → (place ≡ w.place) × (operands ≡ Ok (w.modes, w.operand_data))
operands_by (Ok (modes, bytes)) place w is =
    let same : record { place = place; modes = modes; operand_data = bytes } ≡ w = cc in
    (ap (λ (x : WrittenInstruction). x.place) same, ap (λ (x : WrittenInstruction). Ok (x.modes, x.operand_data)) same)
operands_by (Err e) place w is = absurd cc

named_by : (place : Result ℕ LineFault) (operands : ℕ → Result (List Addressing × List ℕ) LineFault)
    (w : WrittenInstruction)
    → by_place place operands ≡ Ok w → (place ≡ Ok w.place) × (operands w.place ≡ Ok (w.modes, w.operand_data))
named_by (Ok place) operands w is =
    let h = operands_by (operands place) place w is in
    (ap (λ (x : ℕ). Ok x) h.0, ap operands (sym h.0) ∙ h.1)
named_by (Err e) operands w is = absurd cc

tested_by : (b : Bool) (test : ℕ → Bool) (p place : ℕ) → test p ≡ b → (required b Count >>= λ _. Ok p) ≡ Ok place
    → (p ≡ place) × (test place ≡ true)
tested_by true test p place t is =
    let same : p ≡ place = cc in
    (same, ap test (sym same) ∙ t)
tested_by false test p place t is = absurd cc

placed_by : (found : Option ℕ) (test : ℕ → Bool) (place : ℕ) → placed found test ≡ Ok place
    → (found ≡ Some place) × (test place ≡ true)
placed_by (Some p) test place is =
    let h = tested_by (test p) test p place refl is in
    (ap (λ (x : ℕ). Some x) h.0, h.1)
placed_by None test place is = absurd cc

pub name_counted : (name : List ℕ) (count place : ℕ) → place_in name count ≡ Ok place
    → count ≡ operand_count (row_at place)
name_counted name count place is = eqb-true _ _
    (placed_by (place_named name) (λ p. count == operand_count (row_at p)) place is).1

pub named_written : (name : List ℕ) (words : List (List ℕ)) (w : WrittenInstruction)
    → instruction_in_words (name ∷ words) ≡ Ok w
    → IsWritten w × (name ++ behind blank words ≡ body_of w)
unfolding instruction_in_words
named_written name words w is =
    let h = named_by (place_in name (length words)) (λ place. operands_in (row_at place) 0 words) w is in
    let p = placed_by (place_named name) (λ place. length words == operand_count (row_at place)) w.place h.0 in
    let there = named_there name w.place p.0 in
    let o = operands_written (row_at w.place) 0 words w.modes w.operand_data h.1 in
    let count : length words ≡ operand_count (row_at w.place) = eqb-true _ _ p.1 in
    let count_modes : length w.modes ≡ operand_count (row_at w.place) = sym (length-words_in w.modes w.operand_data)
    ∙ ap length o.1 ∙ count in (
      record { place = there.0; count = count_modes; modes = o.0.each; operand_data = o.0.len; bytes = o.0.small },
      ap (λ (x : List ℕ). x ++ behind blank words) (sym there.1)
          ∙ ap (λ (x : List ℕ). name_at w.place ++ x)
          (sym (behind_blanks w.modes w.operand_data ∙ ap (behind blank) o.1)),
    )

-- what a line says is an instruction that is there, and the line is its line
pub line_written : (line : List ℕ) (w : WrittenInstruction) → instruction_in line ≡ Ok w
    → IsWritten w × (line ≡ body_of w)
unfolding instruction_in
line_written line w is =
    let some = split_some blank line in
    let h = named_written some.0 some.1 w (sym (ap instruction_in_words some.2) ∙ is) in
    (h.0, parts_join blank line some.0 some.1 some.2 ∙ h.1)

place_made : (found : Option ℕ) (test : ℕ → Bool) (place : ℕ) → found ≡ Some place → test place ≡ true
    → placed found test ≡ Ok place
place_made found test place a b = rw (a, b) refl

name_made : (place : Result ℕ LineFault) (operands : ℕ → Result (List Addressing × List ℕ) LineFault)
    (w : WrittenInstruction)
    → place ≡ Ok w.place → operands w.place ≡ Ok (w.modes, w.operand_data) → by_place place operands ≡ Ok w
name_made place operands w a b = rw (a, b) refl

-- and the line of an instruction says it
pub line_read : (w : WrittenInstruction) → IsWritten w → instruction_in (body_of w) ≡ Ok w
unfolding instruction_in instruction_in_words
line_read w is =
    let words = words_in w.modes w.operand_data in
    let body : body_of w ≡ name_at w.place ++ behind blank words =
    ap (λ (x : List ℕ). name_at w.place ++ x) (behind_blanks w.modes w.operand_data) in
    let split : slice_split is_blank (body_of w) ≡ name_at w.place ∷ words =
    ap (slice_split is_blank) body ∙ split_parts blank (name_at w.place) words (name_lacks_blank w.place)
    (words_lack blank w.modes w.operand_data (omega arith)) in
    let count : length words ≡ operand_count (row_at w.place) = length-words_in w.modes w.operand_data ∙ is.count in
    ap instruction_in_words split
    ∙ name_made (place_in (name_at w.place) (length words)) (λ place. operands_in (row_at place) 0 words) w
    (place_made (place_named (name_at w.place)) (λ place. length words == operand_count (row_at place)) w.place
    (name_found w.place is.place) (eq-eqb _ _ count))
    (operands_read (row_at w.place) 0 w.modes w.operand_data
    (record { each = is.modes; len = is.operand_data; small = is.bytes }))
