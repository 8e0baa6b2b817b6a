-- The turns of the loops that write a line.
use Rattle.std.proofs.Common.{◌≡◌, ◌<◌, ◌≤◌, ◌+◌, ◌/◌, ◌%◌, ℕ, List, [], ◌∷◌, ◌++◌, length, get_or, take, drop}
use Rattle.std.proofs.Common.{take-suc, refl, sym, ap, ◌∙◌, append_assoc, append-nil, add-one, drop-cons, arith}
use Rattle.std.proofs.Math.ListN.{drop_of_length-le}
use Rattle.std.proofs.lemmas.List.{flat_map_more, take_all}
use Rattle.gx_rows.specs.declared.modes.Addressing.{Addressing}
use Rattle.gx_asm.specs.Instructions.{WrittenInstruction, all_data_len, blank, data_len, digit, digits}
use Rattle.gx_asm.specs.Instructions.{digits_of_byte, instruction_line, operand_word, words_of}
use Rattle.gx_words.specs.Constants.{line_feed}
use Rattle.gx_asm.specs.Names.{name_at}

-- the digits of a byte more
pub digits_grown : (start own text new : List ℕ) (i high low : ℕ) → i < length own → text ≡ start ++ digits (take i own)
    → high ≡ digit (get_or own i 0 / 16) → low ≡ digit (get_or own i 0 % 16) → new ≡ text ++ high ∷ low ∷ []
    → new ≡ start ++ digits (take (i + 1) own)
digits_grown start own text new i high low within before high_is low_is new_is =
    rw (high_is, low_is) at new_is
    ∙ ap (λ (t : List ℕ). t ++ digits_of_byte (get_or own i 0)) before
    ∙ flat_map_more digits_of_byte start (take i own) (get_or own i 0)
    ∙ ap (λ (bytes : List ℕ). start ++ digits bytes)
    (sym (take-suc own i 0 within) ∙ ap (λ (n : ℕ). take n own) (sym (add-one i)))

-- all digits
pub digits_written : (old own start text : List ℕ) (i sign : ℕ) → start ≡ old ++ blank ∷ sign ∷ [] → length own ≤ i
    → text ≡ start ++ digits (take i own) → text ≡ old ++ blank ∷ sign ∷ digits own
digits_written old own start text i sign start_is all text_is =
    rw (take_all i own all, start_is, append_assoc) at text_is

-- the words of operands with the first of them named
one_word : (modes : List Addressing) (i : ℕ) (d : Addressing) (rest : List ℕ) → i < length modes
    → (let mode = get_or modes i d in
    words_of (drop i modes) rest ≡ blank ∷ operand_word mode (take (data_len mode) rest)
    ++ words_of (drop (i + 1) modes) (drop (data_len mode) rest))
unfolding words_of
one_word modes i d rest within = rw (drop-cons modes i d within, add-one i) refl

one_len : (modes : List Addressing) (i : ℕ) (d : Addressing) → i < length modes
    → all_data_len (drop i modes) ≡ data_len (get_or modes i d) + all_data_len (drop (i + 1) modes)
unfolding all_data_len
one_len modes i d within = rw (drop-cons modes i d within, add-one i) refl

-- an operand's data is there
pub data_there : (modes : List Addressing) (i len : ℕ) (d : Addressing) (rest : List ℕ) → i < length modes
    → length rest ≡ all_data_len (drop i modes) → len ≡ data_len (get_or modes i d) → len ≤ length rest
data_there modes i len d rest within all len_is = let one = one_len modes i d within in omega (arith, one, all, len_is)

pub data_left : (modes : List Addressing) (i len : ℕ) (d : Addressing) (rest others : List ℕ) → i < length modes
    → length rest ≡ all_data_len (drop i modes) → len ≡ data_len (get_or modes i d) → length others + len ≡ length rest
    → length others ≡ all_data_len (drop (i + 1) modes)
data_left modes i len d rest others within all len_is cut = let one = one_len modes i d within in
    omega (arith, one, all, len_is, cut)

-- an operand more is written
pub word_written : (modes : List Addressing) (i len : ℕ) (d : Addressing) (text rest own others new whole : List ℕ)
    → i < length modes → text ++ words_of (drop i modes) rest ≡ whole → len ≡ data_len (get_or modes i d)
    → own ≡ take len rest → others ≡ drop len rest → new ≡ text ++ blank ∷ operand_word (get_or modes i d) own
    → new ++ words_of (drop (i + 1) modes) others ≡ whole
word_written modes i len d text rest own others new whole within before len_is own_is others_is new_is =
    let mode = get_or modes i d in
    let own_part : own ≡ take (data_len mode) rest = own_is ∙ ap (λ (n : ℕ). take n rest) len_is in
    let left : others ≡ drop (data_len mode) rest = others_is ∙ ap (λ (n : ℕ). drop n rest) len_is in
    ap (λ (b : List ℕ). b ++ words_of (drop (i + 1) modes) others)
    (new_is ∙ ap (λ (b : List ℕ). text ++ blank ∷ operand_word mode b) own_part)
    ∙ ap (λ (b : List ℕ). (text ++ blank ∷ operand_word mode (take (data_len mode) rest))
    ++ words_of (drop (i + 1) modes) b) left
    ∙ append_assoc text (blank ∷ operand_word mode (take (data_len mode) rest))
    (words_of (drop (i + 1) modes) (drop (data_len mode) rest))
    ∙ ap (λ (b : List ℕ). text ++ b) (sym (one_word modes i d rest within)) ∙ before

-- the whole line is written
pub line_written : (w : WrittenInstruction) (i : ℕ) (old named text rest new : List ℕ)
    → named ≡ old ++ name_at w.place → length w.modes ≤ i
    → text ++ words_of (drop i w.modes) rest ≡ named ++ words_of w.modes w.operand_data → new ≡ text ++ line_feed ∷ []
    → new ≡ old ++ instruction_line w
unfolding instruction_line words_of
line_written w i old named text rest new named_is all before new_is =
    let none : drop i w.modes ≡ [] = drop_of_length-le w.modes all in
    let written : text ≡ named ++ words_of w.modes w.operand_data =
    sym (append-nil text) ∙ ap (λ (modes : List Addressing). text ++ words_of modes rest) (sym none) ∙ before in
    new_is ∙ ap (λ (t : List ℕ). t ++ line_feed ∷ [])
    (written ∙ ap (λ (t : List ℕ). t ++ words_of w.modes w.operand_data) named_is
    ∙ append_assoc old (name_at w.place) (words_of w.modes w.operand_data))
    ∙ append_assoc old (name_at w.place ++ words_of w.modes w.operand_data) (line_feed ∷ [])
