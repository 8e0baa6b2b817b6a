-- A text that is wrapped as it comes loses nothing, and has no row that is too wide.
use Rattle.std.proofs.Common.{zero, suc, ◌≡◌, ◌≢◌, ◌≤◌, ◌+◌, ◌==◌, ◌&&◌, ◌||◌, not, ℕ, Bool, true, false, List, [], ◌∷◌}
use Rattle.std.proofs.Common.{if◌then◌else◌, nat_le, ◌++◌, append_assoc, map, take, drop, refl, sym, ◌∙◌, ap, subst}
use Rattle.std.proofs.Common.{arith}
use Rattle.std.proofs.Common.{Option, Some, None, unwrap_or, length}
use Rattle.std.specs.Str.{encode_utf8_all}
use Rattle.std.proofs.lemmas.Str.{length-le-encodes}
use Rattle.std.specs.List.{concat}
use Rattle.std.specs.Option.{option_map}
use Rattle.std.proofs.lemmas.Bool.Decides.{nat_tests}
use Rattle.std.proofs.lemmas.List.{append-nil}
use Rattle.glk_screen.specs.Wrapping.{width_of, drawn_columns, last_blank}
use Rattle.glk_screen.specs.Wrapper.{FlatWrapper, LetGo, no_row, has_room, fits, row_ended, placed, cut_at, cut}
use Rattle.glk_screen.specs.Wrapper.{wrapped_char, wrapped_chars, Piece, characters, for_blank, between, as_put}
use Rattle.glk_screen.specs.Wrapper.{as_text}
use Rattle.glk_screen.specs.Wrapper.{stays_within}
use Rattle.glk_screen.specs.Laws.{IsWrapped, WrapsRight, WrappingKeeps}
use Rattle.glk_screen.proofs.Flowing.{enc_append}

-- ---- nothing is lost

pieces_append : (f : Piece → List ℕ) (ps qs : List Piece)
    → concat (map f (ps ++ qs)) ≡ concat (map f ps) ++ concat (map f qs)
pieces_append f [] qs = refl
pieces_append f (p ∷ ps) qs =
    ap (λ (xs : List ℕ). f p ++ xs) (pieces_append f ps qs)
    ∙ sym (append_assoc (f p) (concat (map f ps)) (concat (map f qs)))

pub same_text : (xs : List ℕ) → IsWrapped xs xs
same_text xs = record { pieces = characters xs ∷ []; put_is = append-nil xs; text_is = append-nil xs }

pub both_texts : (a b c d : List ℕ) → IsWrapped a b → IsWrapped c d → IsWrapped (a ++ c) (b ++ d)
both_texts a b c d p q = record {
  pieces = p.pieces ++ q.pieces;
  put_is = pieces_append as_put p.pieces q.pieces ∙ rw (p.put_is, q.put_is) refl;
  text_is = pieces_append as_text p.pieces q.pieces ∙ rw (p.text_is, q.text_is) refl;
}

-- a line feed behind a text: in the place of a blank, and between two characters
blank_broken : (xs : List ℕ) → IsWrapped (xs ++ 0x20 ∷ []) (xs ++ 0x0A ∷ [])
blank_broken xs =
    both_texts xs xs (0x20 ∷ []) (0x0A ∷ []) (same_text xs)
    (record { pieces = for_blank ∷ []; put_is = refl; text_is = refl })

text_broken : (xs : List ℕ) → IsWrapped xs (xs ++ 0x0A ∷ [])
text_broken xs =
    subst (λ (put : List ℕ). IsWrapped put (xs ++ 0x0A ∷ [])) (append-nil xs)
    (both_texts xs xs [] (0x0A ∷ []) (same_text xs) (record { pieces = between ∷ []; put_is = refl; text_is = refl }))

-- of what was put a front is let go, and the rest is held
pub record Lets (put : List ℕ) (out : LetGo) : Type 0 where
  pub front : List ℕ
  pub split : put ≡ front ++ out.1.row
  pub is : IsWrapped front out.0

ended_line : (w : FlatWrapper) → Lets (w.row ++ 0x0A ∷ []) (row_ended w)
ended_line w =
    record {
      front = w.row ++ 0x0A ∷ [];
      split = sym (append-nil (w.row ++ 0x0A ∷ []));
      is = same_text (w.row ++ 0x0A ∷ []);
    }

ended_blank : (w : FlatWrapper) → Lets (w.row ++ 0x20 ∷ []) (row_ended w)
ended_blank w =
    record { front = w.row ++ 0x20 ∷ []; split = sym (append-nil (w.row ++ 0x20 ∷ [])); is = blank_broken w.row }

placed_lets : (w : FlatWrapper) (c : ℕ) → Lets (w.row ++ c ∷ []) (placed w c)
unfolding placed
placed_lets w c =
    elim (fits w c) as
    (λ b. let out : LetGo = if b then ([], record w { row = w.row ++ c ∷ [] }) else
    (w.row ++ 0x0A ∷ [], record (no_row w.limit) { row = c ∷ [] }) in Lets (w.row ++ c ∷ []) out) [
      | true ↦ record { front = []; split = refl; is = same_text [] }
      | false ↦ record { front = w.row; split = refl; is = text_broken w.row }
    ]

blank_found : (c : ℕ) (cs : List ℕ) (found : Option ℕ) (b : Bool) (at : ℕ) → (c == 0x20) ≡ b
    → ((k : ℕ) → found ≡ Some k → cs ≡ take k cs ++ 0x20 ∷ drop (k + 1) cs)
    → unwrap_or (option_map (λ k. Some (suc k)) found) (if b then Some 0 else None) ≡ Some at
    → c ∷ cs ≡ take at (c ∷ cs) ++ 0x20 ∷ drop (at + 1) (c ∷ cs)
blank_found c cs None true at here rest is =
    let e : 0 ≡ at = cc in let blank : c ≡ 0x20 = grind (arith, nat_tests, here) in rw (← e, blank) refl
blank_found c cs None false at here rest is = absurd cc
blank_found c cs (Some k) b at here rest is =
    let e : suc k ≡ at = cc in
    let next : suc k + 1 ≡ suc (k + 1) = omega arith in
    rw (← e, next) (ap (λ (xs : List ℕ). c ∷ xs) (rest k refl))

blank_splits : (xs : List ℕ) (at : ℕ) → last_blank xs ≡ Some at → xs ≡ take at xs ++ 0x20 ∷ drop (at + 1) xs
blank_splits [] at is = absurd cc
blank_splits (c ∷ cs) at is = blank_found c cs (last_blank cs) (c == 0x20) at refl (blank_splits cs) is

cut_lets_at : (w : FlatWrapper) (found : Option ℕ) → last_blank w.row ≡ found → Lets w.row (cut_at found w)
cut_lets_at w None is = record { front = []; split = refl; is = same_text [] }
cut_lets_at w (Some at) is = record {
  front = take at w.row ++ 0x20 ∷ [];
  split = blank_splits w.row at is ∙ sym (append_assoc (take at w.row) (0x20 ∷ []) (drop (at + 1) w.row));
  is = blank_broken (take at w.row);
}

cut_lets : (w : FlatWrapper) → Lets w.row (cut w)
unfolding cut
cut_lets w = cut_lets_at w (last_blank w.row) refl

-- one let go after another
pub lets_both : (put more : List ℕ) (first second : LetGo) → Lets put first → Lets (first.1.row ++ more) second
    → Lets (put ++ more) (first.0 ++ second.0, second.1)
lets_both put more first second a b = record {
  front = a.front ++ b.front;
  split = ap (λ (xs : List ℕ). xs ++ more) a.split ∙ append_assoc a.front first.1.row more
      ∙ ap (λ (xs : List ℕ). a.front ++ xs) b.split ∙ sym (append_assoc a.front b.front second.1.row);
  is = both_texts a.front first.0 b.front second.0 a.is b.is;
}

abbrev char_by : Bool → Bool → Bool → FlatWrapper → ℕ → LetGo
char_by line blank fit w c = if line || (blank && not fit) then row_ended w else
    if fit then placed w c else ((cut w).0 ++ (placed (cut w).1 c).0, (placed (cut w).1 c).1)

char_lets_by : (w : FlatWrapper) (c : ℕ) (line blank fit : Bool) → (c == 0x0A) ≡ line → (c == 0x20) ≡ blank
    → Lets (w.row ++ c ∷ []) (char_by line blank fit w c)
char_lets_by w c true blank fit line_is blank_is =
    let e : c ≡ 0x0A = grind (arith, nat_tests, line_is) in rw e (ended_line w)
char_lets_by w c false true false line_is blank_is =
    let e : c ≡ 0x20 = grind (arith, nat_tests, blank_is) in rw e (ended_blank w)
char_lets_by w c false true true line_is blank_is = placed_lets w c
char_lets_by w c false false true line_is blank_is = placed_lets w c
char_lets_by w c false false false line_is blank_is =
    lets_both w.row (c ∷ []) (cut w) (placed (cut w).1 c) (cut_lets w) (placed_lets (cut w).1 c)

pub char_lets : (w : FlatWrapper) (c : ℕ) → Lets (w.row ++ c ∷ []) (wrapped_char w c)
unfolding wrapped_char
char_lets w c = char_lets_by w c (c == 0x0A) (c == 0x20) (fits w c) refl refl

chars_lets : (w : FlatWrapper) (cs : List ℕ) → Lets (w.row ++ cs) (wrapped_chars w cs)
unfolding wrapped_chars
chars_lets w [] = record { front = []; split = append-nil w.row; is = same_text [] }
chars_lets w (c ∷ cs) =
    let first = wrapped_char w c in
    subst (λ (put : List ℕ). Lets put (first.0 ++ (wrapped_chars first.1 cs).0, (wrapped_chars first.1 cs).1))
    (append_assoc w.row (c ∷ []) cs)
    (lets_both (w.row ++ c ∷ []) cs first (wrapped_chars first.1 cs) (char_lets w c) (chars_lets first.1 cs))

chars_kept : (w : FlatWrapper) (cs : List ℕ) → w.row ≡ []
    → IsWrapped cs ((wrapped_chars w cs).0 ++ (wrapped_chars w cs).1.row)
chars_kept w cs none =
    let lets = chars_lets w cs in
    let out = wrapped_chars w cs in
    let split : cs ≡ lets.front ++ out.1.row = sym (ap (λ (xs : List ℕ). xs ++ cs) none) ∙ lets.split in
    subst (λ (put : List ℕ). IsWrapped put (out.0 ++ out.1.row)) (sym split)
    (both_texts lets.front out.0 out.1.row out.1.row lets.is (same_text out.1.row))

-- ---- something is let go or held of what was put

behind_some : (xs : List ℕ) (y : ℕ) (ys zs : List ℕ) → (xs ++ y ∷ ys) ++ zs ≢ []
behind_some [] y ys zs same = cc
behind_some (x ∷ xs) y ys zs same = cc

some_behind : (xs : List ℕ) (y : ℕ) (ys : List ℕ) → xs ++ y ∷ ys ≢ []
some_behind [] y ys same = cc
some_behind (x ∷ xs) y ys same = cc

more_some : (a b c : List ℕ) → b ++ c ≢ [] → (a ++ b) ++ c ≢ []
more_some [] b c some same = some same
more_some (x ∷ a) b c some same = cc

placed_some : (w : FlatWrapper) (c : ℕ) → (placed w c).0 ++ (placed w c).1.row ≢ []
unfolding placed
placed_some w c =
    elim (fits w c) as
    (λ b. (let out : LetGo = if b then ([], record w { row = w.row ++ c ∷ [] }) else
    (w.row ++ 0x0A ∷ [], record (no_row w.limit) { row = c ∷ [] }) in out.0 ++ out.1.row ≢ [])) [
      | true ↦ some_behind w.row c []
      | false ↦ behind_some w.row 0x0A [] (c ∷ [])
    ]

char_some_by : (w : FlatWrapper) (c : ℕ) (line blank fit : Bool)
    → (char_by line blank fit w c).0 ++ (char_by line blank fit w c).1.row ≢ []
char_some_by w c true blank fit = behind_some w.row 0x0A [] []
char_some_by w c false true false = behind_some w.row 0x0A [] []
char_some_by w c false true true = placed_some w c
char_some_by w c false false true = placed_some w c
char_some_by w c false false false =
    more_some (cut w).0 (placed (cut w).1 c).0 (placed (cut w).1 c).1.row (placed_some (cut w).1 c)

char_some : (w : FlatWrapper) (c : ℕ) → (wrapped_char w c).0 ++ (wrapped_char w c).1.row ≢ []
unfolding wrapped_char
char_some w c = char_some_by w c (c == 0x0A) (c == 0x20) (fits w c)

chars_some : (w : FlatWrapper) (c : ℕ) (cs : List ℕ)
    → (wrapped_chars w (c ∷ cs)).0 ++ (wrapped_chars w (c ∷ cs)).1.row ≢ []
unfolding wrapped_chars
chars_some w c [] =
    subst (λ (xs : List ℕ). xs ++ (wrapped_char w c).1.row ≢ []) (sym (append-nil (wrapped_char w c).0)) (char_some w c)
chars_some w c (d ∷ ds) =
    let first = wrapped_char w c in
    let rest = wrapped_chars first.1 (d ∷ ds) in
    more_some first.0 rest.0 rest.1.row (chars_some first.1 d ds)

all_some : (cs : List ℕ) → cs ≢ [] → encode_utf8_all cs ≢ []
all_some [] some same = some refl
all_some (c ∷ cs) some same =
    let most = length-le-encodes (c ∷ cs) in
    let none : length (encode_utf8_all (c ∷ cs)) ≡ 0 = ap length same in
    absurd (omega (arith, most, none))

-- in UTF-8
pub let_go_some : (w : FlatWrapper) (c : ℕ) (cs : List ℕ)
    → encode_utf8_all (wrapped_chars w (c ∷ cs)).0 ++ encode_utf8_all (wrapped_chars w (c ∷ cs)).1.row ≢ []
let_go_some w c cs =
    let out = wrapped_chars w (c ∷ cs) in
    subst (λ (xs : List ℕ). xs ≢ []) (enc_append out.0 out.1.row) (all_some (out.0 ++ out.1.row) (chars_some w c cs))

-- ---- no row is too wide

-- the columns of the last row that are taken after a text
abbrev pub taken_after : ℕ → List ℕ → ℕ
taken_after taken [] = taken
taken_after taken (c ∷ cs) = if c == 0x0A then taken_after 0 cs else taken_after (taken + width_of c) cs

taken_append : (taken : ℕ) (xs ys : List ℕ) → taken_after taken (xs ++ ys) ≡ taken_after (taken_after taken xs) ys
taken_append taken [] ys = refl
taken_append taken (c ∷ cs) ys =
    elim (c == 0x0A) as
    (λ b. (if b then taken_after 0 (cs ++ ys) else taken_after (taken + width_of c) (cs ++ ys))
    ≡ taken_after (if b then taken_after 0 cs else taken_after (taken + width_of c) cs) ys) [
      | true ↦ taken_append 0 cs ys
      | false ↦ taken_append (taken + width_of c) cs ys
    ]

and_assoc : (a b c : Bool) → (a && (b && c)) ≡ ((a && b) && c)
and_assoc true b c = refl
and_assoc false b c = refl

stays_append : (limit taken : ℕ) (xs ys : List ℕ)
    → stays_within limit taken (xs ++ ys) ≡ (stays_within limit taken xs && stays_within limit
    (taken_after taken xs) ys)
unfolding stays_within
stays_append limit taken [] ys = refl
stays_append limit taken (c ∷ cs) ys =
    elim (c == 0x0A) as
    (λ b. (if b then stays_within limit 0 (cs ++ ys) else has_room limit taken (width_of c) && stays_within limit
    (taken + width_of c) (cs ++ ys))
    ≡ ((if b then stays_within limit 0 cs else has_room limit taken (width_of c) && stays_within limit
    (taken + width_of c) cs)
    && stays_within limit (if b then taken_after 0 cs else taken_after (taken + width_of c) cs) ys)) [
      | true ↦ stays_append limit 0 cs ys
      | false ↦ ap (λ (b : Bool). has_room limit taken (width_of c) && b)
          (stays_append limit (taken + width_of c) cs ys)
          ∙ and_assoc (has_room limit taken (width_of c)) (stays_within limit (taken + width_of c) cs)
          (stays_within limit (taken_after (taken + width_of c) cs) ys)
    ]

and_first : (a b : Bool) → (a && b) ≡ true → a ≡ true
and_first true b is = refl
and_first false b is = absurd cc

and_second : (a b : Bool) → (a && b) ≡ true → b ≡ true
and_second true b is = is
and_second false b is = absurd cc

room_less : (limit s t c : ℕ) → s ≤ t → has_room limit t c ≡ true → has_room limit s c ≡ true
unfolding has_room
room_less limit s t c less room = grind (arith, nat_tests, less, room)

first_room : (limit c : ℕ) → has_room limit 0 c ≡ true
unfolding has_room
first_room limit c = grind (arith, nat_tests)

pub stays_less : (limit s t : ℕ) (xs : List ℕ) → s ≤ t → stays_within limit t xs ≡ true → stays_within limit s xs ≡ true
unfolding stays_within
stays_less limit s t [] less is = refl
stays_less limit s t (c ∷ cs) less is =
    elim (c == 0x0A) as
    (λ b. (if b then stays_within limit 0 cs else has_room limit t (width_of c) && stays_within limit
    (t + width_of c) cs) ≡ true
    → (if b then stays_within limit 0 cs else has_room limit s (width_of c) && stays_within limit (s + width_of c) cs)
    ≡ true) [
      | true ↦ λ e. e
      | false ↦ λ e.
          let here = room_less limit s t (width_of c) less (and_first _ _ e) in
          let rest = stays_less limit (s + width_of c) (t + width_of c) cs (omega (arith, less)) (and_second _ _ e) in
          rw (here, rest) refl
    ] is

-- no line feed
abbrev pub IsFree : List ℕ → Type 0
IsFree [] = Unit {0}
IsFree (c ∷ cs) = ((c == 0x0A) ≡ false) × IsFree cs

free_append : (xs ys : List ℕ) → IsFree xs → IsFree ys → IsFree (xs ++ ys)
free_append [] ys a b = b
free_append (x ∷ xs) ys a b = (a.0, free_append xs ys a.1 b)

free_drop : (n : ℕ) (xs : List ℕ) → IsFree xs → IsFree (drop n xs)
free_drop zero xs free = free
free_drop (suc n) [] free = free
free_drop (suc n) (x ∷ xs) free = free_drop n xs free.1

taken_free : (taken : ℕ) (xs : List ℕ) → IsFree xs → taken_after taken xs ≡ taken + drawn_columns xs
taken_free taken [] free = omega arith
taken_free taken (c ∷ cs) free = rw free.0 (taken_free (taken + width_of c) cs free.1 ∙ omega arith)

-- the row of a wrapper: no line feed, and not too wide
pub record IsRow (w : FlatWrapper) : Type 0 where
  pub free : IsFree w.row
  pub stays : stays_within w.limit w.gone w.row ≡ true

pub record IsWithin (limit taken : ℕ) (out : LetGo) : Type 0 where
  pub stays : stays_within limit taken out.0 ≡ true
  pub next : taken_after taken out.0 ≡ out.1.gone
  pub row : IsRow out.1
  pub limit_is : out.1.limit ≡ limit

pub none_row : (limit : ℕ) → IsRow (no_row limit)
unfolding stays_within
none_row limit = record { free = tt; stays = refl }

line_stays : (limit taken : ℕ) → stays_within limit taken (0x0A ∷ []) ≡ true
unfolding stays_within
line_stays limit taken = refl

pub none_stays : (limit taken : ℕ) → stays_within limit taken [] ≡ true
unfolding stays_within
none_stays limit taken = refl

-- a text and a line feed
line_within : (limit taken : ℕ) (xs : List ℕ) → stays_within limit taken xs ≡ true
    → stays_within limit taken (xs ++ 0x0A ∷ []) ≡ true
line_within limit taken xs is =
    stays_append limit taken xs (0x0A ∷ []) ∙ rw (is, line_stays limit (taken_after taken xs)) refl

ended_within : (w : FlatWrapper) → IsRow w → IsWithin w.limit w.gone (row_ended w)
ended_within w r = record {
  stays = line_within w.limit w.gone w.row r.stays;
  next = taken_append w.gone w.row (0x0A ∷ []);
  row = none_row w.limit;
  limit_is = refl;
}

one_stays : (limit taken c : ℕ) → (c == 0x0A) ≡ false → has_room limit taken (width_of c) ≡ true
    → stays_within limit taken (c ∷ []) ≡ true
unfolding stays_within
one_stays limit taken c other room = rw (other, room) refl

placed_within : (w : FlatWrapper) (c : ℕ) → (c == 0x0A) ≡ false → IsRow w → IsWithin w.limit w.gone (placed w c)
unfolding placed
placed_within w c other r =
    elim (fits w c) as
    (λ b. let out : LetGo = if b then ([], record w { row = w.row ++ c ∷ [] }) else
    (w.row ++ 0x0A ∷ [], record (no_row w.limit) { row = c ∷ [] }) in fits w c ≡ b → IsWithin w.limit w.gone out) [
      | true ↦ λ fit.
          let taken : taken_after w.gone w.row ≡ w.gone + drawn_columns w.row = taken_free w.gone w.row r.free in
          record {
            stays = none_stays w.limit w.gone;
            next = refl;
            row = record {
              free = free_append w.row (c ∷ []) r.free (other, tt);
              stays = stays_append w.limit w.gone w.row (c ∷ [])
                  ∙ rw (r.stays, taken, one_stays w.limit (w.gone + drawn_columns w.row) c other fit) refl;
            };
            limit_is = refl;
          }
      | false ↦ λ fit. record {
        stays = line_within w.limit w.gone w.row r.stays;
        next = taken_append w.gone w.row (0x0A ∷ []);
        row = record { free = (other, tt); stays = one_stays w.limit 0 c other (first_room w.limit (width_of c)) };
        limit_is = refl;
      }
    ] refl

behind_blank : (limit taken : ℕ) (rest : List ℕ) → stays_within limit taken (0x20 ∷ rest) ≡ true
    → stays_within limit (taken + width_of 0x20) rest ≡ true
unfolding stays_within
behind_blank limit taken rest is = and_second (has_room limit taken (width_of 0x20)) _ is

blank_rest : (limit taken : ℕ) (rest : List ℕ) → stays_within limit taken (0x20 ∷ rest) ≡ true
    → stays_within limit 0 rest ≡ true
blank_rest limit taken rest is =
    stays_less limit 0 (taken + width_of 0x20) rest (omega arith) (behind_blank limit taken rest is)

cut_within_at : (w : FlatWrapper) (found : Option ℕ) → last_blank w.row ≡ found → IsRow w
    → IsWithin w.limit w.gone (cut_at found w)
cut_within_at w None is r =
    record { stays = none_stays w.limit w.gone; next = refl; row = r; limit_is = refl }
cut_within_at w (Some at) is r =
    let rest : List ℕ = drop (at + 1) w.row in
    let parts = stays_append w.limit w.gone (take at w.row) (0x20 ∷ rest) in
    let whole : stays_within w.limit w.gone (take at w.row ++ 0x20 ∷ rest) ≡ true =
    subst (λ (xs : List ℕ). stays_within w.limit w.gone xs ≡ true) (blank_splits w.row at is) r.stays in
    let split = sym parts ∙ whole in
    record {
      stays = line_within w.limit w.gone (take at w.row) (and_first _ _ split);
      next = taken_append w.gone (take at w.row) (0x0A ∷ []);
      row = record {
        free = free_drop (at + 1) w.row r.free;
        stays = blank_rest w.limit (taken_after w.gone (take at w.row)) rest (and_second _ _ split);
      };
      limit_is = refl;
    }

cut_within : (w : FlatWrapper) → IsRow w → IsWithin w.limit w.gone (cut w)
unfolding cut
cut_within w r = cut_within_at w (last_blank w.row) refl r

within_both : (limit taken : ℕ) (first second : LetGo) → IsWithin limit taken first
    → IsWithin limit first.1.gone second → IsWithin limit taken (first.0 ++ second.0, second.1)
within_both limit taken first second a b = record {
  stays = stays_append limit taken first.0 second.0 ∙ rw (a.stays, a.next, b.stays) refl;
  next = taken_append taken first.0 second.0 ∙ ap (λ (t : ℕ). taken_after t second.0) a.next ∙ b.next;
  row = b.row;
  limit_is = b.limit_is;
}

char_within_by : (w : FlatWrapper) (c : ℕ) (line blank fit : Bool) → (c == 0x0A) ≡ line → IsRow w
    → IsWithin w.limit w.gone (char_by line blank fit w c)
char_within_by w c true blank fit line_is r = ended_within w r
char_within_by w c false true false line_is r = ended_within w r
char_within_by w c false true true line_is r = placed_within w c line_is r
char_within_by w c false false true line_is r = placed_within w c line_is r
char_within_by w c false false false line_is r =
    let first = cut_within w r in
    within_both w.limit w.gone (cut w) (placed (cut w).1 c) first
    (subst (λ (n : ℕ). IsWithin n (cut w).1.gone (placed (cut w).1 c)) first.limit_is
    (placed_within (cut w).1 c line_is first.row))

pub char_within : (w : FlatWrapper) (c : ℕ) → IsRow w → IsWithin w.limit w.gone (wrapped_char w c)
unfolding wrapped_char
char_within w c r = char_within_by w c (c == 0x0A) (c == 0x20) (fits w c) refl r

chars_within : (w : FlatWrapper) (cs : List ℕ) → IsRow w → IsWithin w.limit w.gone (wrapped_chars w cs)
unfolding wrapped_chars
chars_within w [] r =
    record { stays = none_stays w.limit w.gone; next = refl; row = r; limit_is = refl }
chars_within w (c ∷ cs) r =
    let first = char_within w c r in
    let out = wrapped_char w c in
    within_both w.limit w.gone out (wrapped_chars out.1 cs) first
    (subst (λ (n : ℕ). IsWithin n out.1.gone (wrapped_chars out.1 cs)) first.limit_is (chars_within out.1 cs first.row))

pub wrapping_keeps : WrappingKeeps
wrapping_keeps w cs none =
    let out = wrapped_chars w cs in
    let empty : IsRow w = record {
      free = subst IsFree (sym none) tt;
      stays = subst (λ (xs : List ℕ). stays_within w.limit w.gone xs ≡ true) (sym none) (none_stays w.limit w.gone);
    } in
    let within = chars_within w cs empty in
    record {
      kept = chars_kept w cs none;
      within = stays_append w.limit w.gone out.0 out.1.row
          ∙ rw (within.stays, within.next) (ap (λ (n : ℕ). stays_within n out.1.gone out.1.row) (sym within.limit_is)
          ∙ within.row.stays);
    }
