-- The frame of locals of four bytes alone.
use Rattle.std.proofs.Common.{◌≡◌, ◌+◌, ◌*◌, ℕ, List, [], ◌∷◌, ◌++◌, refl, ◌∙◌, inr, arith, append_assoc, get_or, sym}
use Rattle.std.proofs.Common.{ap}
use Rattle.std.proofs.lemmas.List.{append-nil}
use Rattle.gx_words.specs.Numbers.{IsWidth, bytes_of_word}
use Rattle.gx_stack.specs.Formats.{gap, padded, pair_locals, locals, locals_len, frame_len, frame}
use Rattle.gx_stack.specs.Held.{IsOfWords}
use Rattle.gx_stack.proofs.Pieces.{length-filled}

no_gap : (n : ℕ) → gap 4 (4 * n) ≡ 0
no_gap n = omega arith

four : IsWidth 4
four = inr (inr refl)

len_of : (n x e : ℕ) → frame_len (4 ∷ n ∷ x ∷ e ∷ []) ≡ 12 + 4 * n
unfolding locals_len
len_of n x e =
    let body : 0 + 4 * n + 0 ≡ 4 * n = omega arith in
    rw (body, no_gap n) (omega arith)

padded_words : (n : ℕ) (args : List ℕ) → padded (pair_locals 4 n args ++ []) ≡ pair_locals 4 n args
padded_words n args = rw (append-nil (pair_locals 4 n args), length-filled 4 n args four, no_gap n)
    (append-nil (pair_locals 4 n args))

frame_of : (n x e : ℕ) (args : List ℕ) → frame (4 ∷ n ∷ x ∷ e ∷ []) args
    ≡ bytes_of_word (12 + 4 * n) ++ bytes_of_word 12 ++ (4 ∷ n ∷ 0 ∷ 0 ∷ []) ++ pair_locals 4 n args
unfolding frame locals
frame_of n x e args = rw (len_of n x e, padded_words n args) refl

around : (out a b c d : List ℕ) → (out ++ (a ++ (b ++ c))) ++ d ≡ out ++ (a ++ b ++ c ++ d)
around out a b c d = simp append_assoc

pub words_len : (format : List ℕ) → IsOfWords format → frame_len format ≡ 12 + 4 * get_or format 1 0
words_len [] h = absurd (let pairs = h.pairs in omega arith)
words_len (a ∷ []) h = absurd (let pairs = h.pairs in omega arith)
words_len (a ∷ b ∷ []) h = absurd (let pairs = h.pairs in omega arith)
words_len (a ∷ b ∷ c ∷ []) h = absurd (let pairs = h.pairs in omega arith)
words_len (a ∷ b ∷ c ∷ d ∷ []) h = let words : a ≡ 4 = h.words in rw words (len_of b c d)
words_len (a ∷ b ∷ c ∷ d ∷ e ∷ format) h = absurd (let pairs = h.pairs in omega arith)

words_pushed : (out format args : List ℕ) (len : ℕ) → IsOfWords format → len ≡ frame_len format
    → (out ++ (bytes_of_word len ++ (0 ∷ 0 ∷ 0 ∷ 12 ∷ 4 ∷ get_or format 1 0 ∷ 0 ∷ 0 ∷ []))) ++ pair_locals 4
    (get_or format 1 0) args ≡ out ++ frame format args
words_pushed out [] args len h whole = absurd (let pairs = h.pairs in omega arith)
words_pushed out (a ∷ []) args len h whole = absurd (let pairs = h.pairs in omega arith)
words_pushed out (a ∷ b ∷ []) args len h whole = absurd (let pairs = h.pairs in omega arith)
words_pushed out (a ∷ b ∷ c ∷ []) args len h whole = absurd (let pairs = h.pairs in omega arith)
words_pushed out (a ∷ b ∷ c ∷ d ∷ []) args len h whole =
    let words : a ≡ 4 = h.words in
    let long : len ≡ 12 + 4 * b = whole ∙ rw words (len_of b c d) in
    rw (long, words, frame_of b c d args) (around out (bytes_of_word (12 + 4 * b)) (bytes_of_word 12)
    (4 ∷ b ∷ 0 ∷ 0 ∷ []) (pair_locals 4 b args))
words_pushed out (a ∷ b ∷ c ∷ d ∷ e ∷ format) args len h whole = absurd (let pairs = h.pairs in omega arith)

pub words_called : (out called format args : List ℕ) (len : ℕ) → IsOfWords format → len ≡ frame_len format
    → (out ++ (called ++ (bytes_of_word len ++ (0 ∷ 0 ∷ 0 ∷ 12 ∷ 4 ∷ get_or format 1 0 ∷ 0 ∷ 0 ∷ []))))
    ++ pair_locals 4 (get_or format 1 0) args ≡ (out ++ called) ++ frame format args
words_called out called format args len h whole =
    let header : List ℕ = bytes_of_word len ++ (0 ∷ 0 ∷ 0 ∷ 12 ∷ 4 ∷ get_or format 1 0 ∷ 0 ∷ 0 ∷ []) in
    ap (λ (xs : List ℕ). xs ++ pair_locals 4 (get_or format 1 0) args) (sym (append_assoc out called header))
    ∙ words_pushed (out ++ called) format args len h whole

pub ruleset word_frames = (words_len, words_called)
