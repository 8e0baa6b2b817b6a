-- The next line of what is held and what comes.
use Rattle.std.proofs.Common.{◌≡◌, ℕ, suc, ◌+◌, ◌-◌, ◌<◌, ◌≤◌, ◌⊎◌, inl, inr, min, ◌==◌, not, cond, if◌then◌else◌}
use Rattle.std.proofs.Common.{nat_le, Bool, true, false, List, [], ◌∷◌, ◌++◌, length, take, drop, refl, ap, sym, ◌∙◌}
use Rattle.std.proofs.Common.{arith, append-nil, length-append}
use Rattle.std.specs.List.{position_or_len, before_first, after_first}
use Rattle.std.proofs.lemmas.Bool.{le-leb, lt-leb, ne_eqb, cases_lt}
use Rattle.std.proofs.lemmas.List.{take-append-le, drop-append-le, length-take, take_all, length-drop}
use Rattle.gx_session.specs.Constants.{longest_line}
use Rattle.gx_session.specs.Input.{too_long, none, line, is_line_feed, next_line}
use Rattle.gx_session.specs.Lines.{chars_of}

-- where the first line feed stands
abbrev pub pos : List ℕ → ℕ
pos xs = position_or_len is_line_feed xs

bound-by : (xs : List ℕ) (b : Bool) → pos xs ≤ length xs → cond (not b) (1 + pos xs) 0 ≤ suc (length xs)
bound-by xs true less = omega arith
bound-by xs false less = omega arith

pub pos-bound : (xs : List ℕ) → pos xs ≤ length xs
pos-bound [] = omega arith
pos-bound (x ∷ xs) = bound-by xs (is_line_feed x) (pos-bound xs)

front-by : (xs ys : List ℕ) (b : Bool) → (pos xs < length xs → pos (xs ++ ys) ≡ pos xs)
    → cond (not b) (1 + pos xs) 0 < suc (length xs)
    → cond (not b) (1 + pos (xs ++ ys)) 0 ≡ cond (not b) (1 + pos xs) 0
front-by xs ys true same less = refl
front-by xs ys false same less = ap (λ (n : ℕ). 1 + n) (same (omega arith))

-- one that is held stands there whatever comes
pub pos-front : (xs ys : List ℕ) → pos xs < length xs → pos (xs ++ ys) ≡ pos xs
pos-front [] ys less = absurd (omega arith)
pos-front (x ∷ xs) ys less = front-by xs ys (is_line_feed x) (pos-front xs ys) less

after-by : (xs ys : List ℕ) (b : Bool) → (pos xs ≡ length xs → pos (xs ++ ys) ≡ length xs + pos ys)
    → cond (not b) (1 + pos xs) 0 ≡ suc (length xs)
    → cond (not b) (1 + pos (xs ++ ys)) 0 ≡ suc (length xs) + pos ys
after-by xs ys true later all = absurd (omega arith)
after-by xs ys false later all =
    let now : pos (xs ++ ys) ≡ length xs + pos ys = later (omega arith) in
    omega arith

-- where none is held, the first one comes
pub pos-after : (xs ys : List ℕ) → pos xs ≡ length xs → pos (xs ++ ys) ≡ length xs + pos ys
pos-after [] ys all = let e : pos ys ≡ 0 + pos ys = omega arith in e
pos-after (x ∷ xs) ys all = after-by xs ys (is_line_feed x) (pos-after xs ys) all

later-by : (held coming : List ℕ) → (pos held < length held) ⊎ (length held ≤ pos held)
    → pos held ≤ pos (held ++ coming)
later-by held coming (inl here) = let same : pos (held ++ coming) ≡ pos held = pos-front held coming here in omega arith
later-by held coming (inr past) =
    let few : pos held ≤ length held = pos-bound held in
    let same : pos (held ++ coming) ≡ length held + pos coming = pos-after held coming (omega arith) in
    omega arith

-- it doesn't come nearer
pub pos-later : (held coming : List ℕ) → pos held ≤ pos (held ++ coming)
pos-later held coming = later-by held coming (cases_lt (pos held) (length held))

before-size : (bytes : List ℕ) → length (before_first is_line_feed bytes) ≡ pos bytes
before-size bytes =
    let few : pos bytes ≤ length bytes = pos-bound bytes in
    let size : length (take (pos bytes) bytes) ≡ min (pos bytes) (length bytes) = length-take (pos bytes) bytes in
    omega arith

next-by : (bytes : List ℕ) (long empty : Bool) → nat_le longest_line (length (before_first is_line_feed bytes)) ≡ long
    → (length bytes == 0) ≡ empty
    → next_line bytes ≡ (if long then too_long else if empty then none
    else line (chars_of (before_first is_line_feed bytes)) (after_first is_line_feed bytes))
unfolding next_line
next-by bytes long empty is is' =
    ap (λ (b : Bool). if b then too_long else if length bytes == 0 then none
    else line (chars_of (before_first is_line_feed bytes)) (after_first is_line_feed bytes)) is
    ∙ ap (λ (b : Bool). if long then too_long else if b then none
    else line (chars_of (before_first is_line_feed bytes)) (after_first is_line_feed bytes)) is'

not-empty : (bytes : List ℕ) → 0 < length bytes → (length bytes == 0) ≡ false
not-empty [] some = absurd (omega arith)
not-empty (b ∷ bytes) some = ne_eqb (length (b ∷ bytes)) 0 (λ e. omega arith)

fits : (bytes : List ℕ) → pos bytes < longest_line → nat_le longest_line (length (before_first is_line_feed bytes))
    ≡ false
fits bytes less = lt-leb longest_line (length (before_first is_line_feed bytes))
    (let size : length (before_first is_line_feed bytes) ≡ pos bytes = before-size bytes in omega arith)

-- too many bytes with no line feed
pub next-long : (held coming : List ℕ) → longest_line ≤ pos held → next_line (held ++ coming) ≡ too_long
next-long held coming long =
    let later : pos held ≤ pos (held ++ coming) = pos-later held coming in
    let size : length (before_first is_line_feed (held ++ coming)) ≡ pos (held ++ coming) =
    before-size (held ++ coming) in
    next-by (held ++ coming) true (length (held ++ coming) == 0)
    (le-leb longest_line (length (before_first is_line_feed (held ++ coming))) (omega arith)) refl

-- a line that is held
pub next-held : (held coming : List ℕ) → pos held < length held → pos held < longest_line
    → next_line (held ++ coming) ≡ line (chars_of (take (pos held) held)) (drop (pos held + 1) held ++ coming)
next-held held coming here short =
    let same : pos (held ++ coming) ≡ pos held = pos-front held coming here in
    let size : length (held ++ coming) ≡ length held + length coming = length-append held coming in
    let front : take (pos (held ++ coming)) (held ++ coming) ≡ take (pos held) held =
    ap (λ (n : ℕ). take n (held ++ coming)) same ∙ take-append-le (pos held) held coming (omega arith) in
    let back : drop (pos (held ++ coming) + 1) (held ++ coming) ≡ drop (pos held + 1) held ++ coming =
    ap (λ (n : ℕ). drop (n + 1) (held ++ coming)) same ∙ drop-append-le (pos held + 1) held coming (omega arith) in
    next-by (held ++ coming) false false (fits (held ++ coming) (omega arith))
    (not-empty (held ++ coming) (omega arith))
    ∙ ap (λ (xs : List ℕ). line (chars_of xs) (drop (pos (held ++ coming) + 1) (held ++ coming))) front
    ∙ ap (line (chars_of (take (pos held) held))) back

drop-past : (n : ℕ) (xs : List ℕ) → length xs ≤ n → drop n xs ≡ []
drop-past n xs past = none-left (drop n xs)
    (let size : length (drop n xs) ≡ length xs - n = length-drop n xs in omega arith)
  where
    none-left : (ys : List ℕ) → length ys ≡ 0 → ys ≡ []
    none-left [] e = refl
    none-left (y ∷ ys) e = cc

-- the last line
pub next-last : (held : List ℕ) → pos held ≡ length held → 0 < length held → length held < longest_line
    → next_line (held ++ []) ≡ line (chars_of held) []
next-last held all some short =
    let front : take (pos held) held ≡ held = take_all (pos held) held (omega arith) in
    let back : drop (pos held + 1) held ≡ [] = drop-past (pos held + 1) held (omega arith) in
    ap next_line (append-nil held) ∙ next-by held false false (fits held (omega arith)) (not-empty held some)
    ∙ ap (λ (xs : List ℕ). line (chars_of xs) (drop (pos held + 1) held)) front ∙ ap (line (chars_of held)) back

-- nothing is left
pub next-none : next_line [] ≡ none
next-none = next-by [] false true (fits [] (omega arith)) refl

-- A line that is taken makes the input shorter.
taken-by : (bytes chars rest : List ℕ) (long empty : Bool) → (length bytes == 0) ≡ empty
    → (if long then too_long else if empty then none else line (chars_of (before_first is_line_feed bytes))
    (after_first is_line_feed bytes)) ≡ line chars rest → length rest < length bytes
taken-by bytes chars rest true empty is e = cc
taken-by bytes chars rest false true is e = cc
taken-by [] chars rest false false is e = cc
taken-by (b ∷ bytes) chars rest false false is e =
    let same : after_first is_line_feed (b ∷ bytes) ≡ rest = cc in
    let size : length (drop (pos (b ∷ bytes) + 1) (b ∷ bytes)) ≡ length (b ∷ bytes) - (pos (b ∷ bytes) + 1) =
    length-drop (pos (b ∷ bytes) + 1) (b ∷ bytes) in
    let rest-size : length (after_first is_line_feed (b ∷ bytes)) ≡ length rest = ap length same in
    omega arith

pub shorter-input : (bytes chars rest : List ℕ) → next_line bytes ≡ line chars rest → length rest < length bytes
shorter-input bytes chars rest e =
    taken-by bytes chars rest (nat_le longest_line (length (before_first is_line_feed bytes))) (length bytes == 0) refl
    (sym (next-by bytes (nat_le longest_line (length (before_first is_line_feed bytes)))
    (length bytes == 0) refl refl) ∙ e)
