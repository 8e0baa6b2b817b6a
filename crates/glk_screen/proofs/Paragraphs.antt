-- Paragraphs of a text: one turn of the loop over it, and what a character at the end makes of them.
use Rattle.std.proofs.Common.{zero, suc, ◌∙◌, ◌≡◌, ◌≢◌, ◌<◌, ◌≤◌, ◌+◌, ◌-◌, ◌==◌, ℕ, List, [], ◌∷◌, ◌++◌, length}
use Rattle.std.proofs.Common.{get_or, set, take, drop, drop-cons, refl, sym, ap, true, arith, if◌then◌else◌}
use Rattle.std.proofs.Common.{Result, Ok, Err, OnErr}
use Rattle.std.specs.List.{copy_within}
use Rattle.std.proofs.lemmas.Grind.{common_steps}
use Rattle.std.proofs.lemmas.Bool.Decides.{nat_tests}
use Rattle.std.proofs.lemmas.List.{take_at, take_rest, drop-drop, drop-append-le, length-drop, length-append}
use Rattle.std.proofs.lemmas.List.{length-take}
use Rattle.std.proofs.lemmas.List.Sums.{sum_by_push, sum_by-cons}
use Rattle.glk_screen.specs.Texts.{line_feeds, behind_paragraph, with_char, lengthens}

pub behind_none : (text : List ℕ) (n : ℕ) → length text ≤ n → behind_paragraph (drop n text) ≡ drop n text
behind_none text n past = let none : drop n text ≡ [] = grind (arith, common_steps) in rw none refl

pub behind_more : (text : List ℕ) (i d : ℕ) → i < length text → get_or text i d ≢ 0x0A
    → behind_paragraph (drop (i + 1) text) ≡ behind_paragraph (drop i text)
behind_more text i d within other = let e : i + 1 ≡ suc i = omega arith in
    rw (e, drop-cons text i d) (grind (arith, nat_tests, other))

pub behind_here : (text : List ℕ) (i d : ℕ) → i < length text → get_or text i d ≡ 0x0A
    → behind_paragraph (drop i text) ≡ drop (i + 1) text
behind_here text i d within here = let e : i + 1 ≡ suc i = omega arith in rw (e, drop-cons text i d, here) refl

pub ruleset behind_turns = (behind_none, behind_more, behind_here)

-- ---- how many paragraphs there are

pub count_push : (text : List ℕ) (c : ℕ) → line_feeds (text ++ c ∷ []) ≡ line_feeds text + (if c == 0x0A then 1 else 0)
count_push text c = sum_by_push _ text c

pub count_cons : (text : List ℕ) (c : ℕ) → line_feeds (c ∷ text) ≡ (if c == 0x0A then 1 else 0) + line_feeds text
count_cons text c = sum_by-cons _ c text

pub count_behind : (text : List ℕ) → 0 < line_feeds text → line_feeds (behind_paragraph text) + 1 ≡ line_feeds text
count_behind [] some = absurd (omega arith)
count_behind (c ∷ cs) some = grind (arith, nat_tests, count_cons cs c, count_behind cs)

-- something goes then
pub behind_some : (text : List ℕ) (n : ℕ) → drop n text ≡ behind_paragraph text → 0 < line_feeds text → 0 < n
behind_some text zero is some = let one = count_behind text some in
    let same : line_feeds text ≡ line_feeds (behind_paragraph text) = ap line_feeds is in
    absurd (omega (arith, one, same))
behind_some text (suc n) is some = omega arith

-- ---- the front is dropped

pub start_past : (xs : List ℕ) (start more : ℕ)
    → drop more (take (length xs - start) (drop start xs)) ≡ behind_paragraph (take (length xs - start) (drop start xs))
    → drop (start + more) xs ≡ behind_paragraph (drop start xs)
start_past xs start more is = sym (drop-drop more start xs) ∙ rw take_rest at is

pub start_more : (xs : List ℕ) (start more : ℕ)
    → drop more (take (length xs - start) (drop start xs)) ≡ behind_paragraph (take (length xs - start) (drop start xs))
    → 0 < line_feeds (drop start xs) → 0 < more
start_more xs start more is some = behind_some (drop start xs) more (rw take_rest at is) some

pub start_within : (xs : List ℕ) (start more : ℕ) → start ≤ length xs
    → more ≤ length (take (length xs - start) (drop start xs)) → start + more ≤ length xs
start_within xs start more within less = let rest = rw (take_rest xs start) at less in
    omega (arith, rest, length-drop start xs)

pub moved_out : (xs ys zs : List ℕ) (n old new : ℕ) → n ≤ length xs → old ≡ length xs → new ≡ old
    → ys ≡ copy_within xs n old 0 → zs ≡ take (new - n) ys → zs ≡ drop n xs
moved_out xs ys zs n old new within length_is same copied cut =
    let long : length (drop n xs) ≡ new - n = rw (same, length_is) (length-drop n xs) in
    let whole : take (new - n) (drop n xs) ≡ drop n xs = rw (same, length_is) (take_rest xs n) in
    rw (cut, copied) (rw (← same, whole) (take_at (drop n xs) _ (new - n) long))

set_last : (zs : List ℕ) (n c : ℕ) → length zs ≡ n + 1 → set zs n c ≡ take n zs ++ c ∷ []
set_last [] n c long = absurd (omega (arith, long))
set_last (z ∷ []) zero c long = refl
set_last (z ∷ y ∷ zs) zero c long = absurd (omega (arith, long))
set_last (z ∷ zs) (suc n) c long = ap (λ (r : List ℕ). z ∷ r) (set_last zs n c (omega (arith, long)))

before : (n : ℕ) (ys : List ℕ) → take n (take (suc n) ys) ≡ take n ys
before zero ys = refl
before (suc n) [] = refl
before (suc n) (y ∷ ys) = ap (λ (r : List ℕ). y ∷ r) (before n ys)

take_before : (n m : ℕ) (ys : List ℕ) → m ≡ suc n → take n (take m ys) ≡ take n ys
take_before n m ys is = rw is (before n ys)

copied_length : (xs ys : List ℕ) (n old : ℕ) → n ≤ length xs → old ≡ length xs → ys ≡ copy_within xs n old 0
    → length ys ≡ old
copied_length xs ys n old within length_is copied =
    rw copied (simp (length-append, length-take, length-drop) (omega (arith, within, length_is)))

-- what stands behind the front moves to the start, and a character takes the place behind it
pub moved_and_set : (xs ys zs : List ℕ) (n old end c : ℕ) → 0 < n → n ≤ length xs → old ≡ length xs
    → end ≡ old - n → ys ≡ copy_within xs n old 0 → zs ≡ take (end + 1) ys
    → set zs end c ≡ drop n xs ++ c ∷ []
moved_and_set xs ys zs n old end c some within length_is end_is copied cut =
    let same = copied_length xs ys n old within length_is copied in
    let long : length zs ≡ end + 1 =
    rw cut (omega (arith, length-take (end + 1) ys, same, end_is, some, within, length_is)) in
    let front : take end zs ≡ take (old - n) ys = rw (cut, ← end_is) (take_before end (end + 1) ys (omega arith)) in
    set_last zs end c long
    ∙ ap (λ (r : List ℕ). r ++ c ∷ []) (moved_out xs ys (take end zs) n old old within length_is refl copied front)

-- ---- a character more

pub behind_shorter : (text : List ℕ) → 0 < line_feeds text → length (behind_paragraph text) < length text
behind_shorter [] some = absurd (omega arith)
behind_shorter (c ∷ cs) some = grind (arith, nat_tests, count_cons cs c, behind_shorter cs)

-- ---- a character at the end of a text that starts somewhere

module _ (xs ys : List ℕ) (start c : ℕ) (is : ys ≡ xs ++ c ∷ []) (within : start ≤ length xs) where
  more : drop start ys ≡ drop start xs ++ c ∷ []
  more = rw is (drop-append-le start xs (c ∷ []) within)

  more_count : line_feeds (drop start ys) ≡ line_feeds (drop start xs) + (if c == 0x0A then 1 else 0)
  more_count = rw more (count_push (drop start xs) c)

  -- a character that ends no paragraph
  pub count_plain : c ≢ 0x0A → line_feeds (drop start ys) ≡ line_feeds (drop start xs)
  count_plain other = grind (arith, nat_tests, more_count, other)

  pub put_plain : c ≢ 0x0A → line_feeds (drop start xs) < 255 → drop start ys ≡ with_char (drop start xs) c
  unfolding with_char
  put_plain other few = grind (arith, nat_tests, more, more_count, other)

  -- a line feed
  pub count_feed : c ≡ 0x0A → line_feeds (drop start ys) ≡ line_feeds (drop start xs) + 1
  count_feed same = grind (arith, nat_tests, more_count, same)

  pub put_feed : c ≡ 0x0A → line_feeds (drop start xs) + 1 < 255 → drop start ys ≡ with_char (drop start xs) c
  unfolding with_char
  put_feed same few = grind (arith, nat_tests, more, more_count, same)

-- a line feed that makes one paragraph too many: the first one goes

pub behind_push : (text : List ℕ) (c : ℕ) → 0 < line_feeds text
    → behind_paragraph (text ++ c ∷ []) ≡ behind_paragraph text ++ c ∷ []
behind_push [] c some = absurd (omega arith)
behind_push (d ∷ ds) c some = grind (arith, nat_tests, count_cons ds d, behind_push ds c)

module _ (text zs : List ℕ) (made : zs ≡ behind_paragraph text ++ 0x0A ∷ []) (full : line_feeds text + 1 ≡ 255) where
  some : 0 < line_feeds text
  some = omega (arith, full)

  pub count_full : line_feeds zs ≡ line_feeds text
  count_full = let push = count_push (behind_paragraph text) 0x0A in
      rw made (omega (arith, push, count_behind text some))

  pub put_full : zs ≡ with_char text 0x0A
  unfolding with_char
  put_full = let push = count_push text 0x0A in
      rw (made, ← behind_push text 0x0A some) (grind (arith, nat_tests, push, full))

  pub short_full : length zs ≤ length text
  short_full = let shorter = behind_shorter text some in
      rw made (omega (arith, length-append (behind_paragraph text) (0x0A ∷ []), shorter))

-- ---- whether the text grows

pub longer : (text : List ℕ) (c : ℕ) → line_feeds (text ++ c ∷ []) < 255 → lengthens text c ≡ true
unfolding with_char
longer text c few = let long = length-append text (c ∷ []) in grind (arith, nat_tests, few, long)

pub starts : (c : ℕ) → lengthens [] c ≡ true
starts c = let push = count_push [] c in longer [] c (grind (arith, nat_tests, push))

-- a character that doesn't make one paragraph too many
pub few_with : (text : List ℕ) (n c : ℕ) → n ≡ line_feeds text → n < 255 → (c ≡ 0x0A → n + 1 ≢ 255)
    → line_feeds (text ++ c ∷ []) < 255
few_with text n c counted few other =
    let push = count_push text c in grind (arith, nat_tests, push, counted, few, other)

pub on_err : {A E P : Type 0} (r : Result A E) → P → OnErr r P
on_err (Ok x) p = tt
on_err (Err e) p = p

pub on_err_by : {A E P Q : Type 0} (r : Result A E) → OnErr r P → (P → Q) → OnErr r Q
on_err_by (Ok x) holds so = tt
on_err_by (Err e) holds so = so holds
