-- One turn of the showing of rows, grids and characters.
use Rattle.std.proofs.Common.{suc, ◌≡◌, ◌≢◌, ◌<◌, ◌≤◌, ◌+◌, ℕ, List, [], ◌∷◌, ◌++◌, append_assoc, length, get_or, map}
use Rattle.std.proofs.Common.{drop, drop-cons, refl, arith, Bool, ◌==◌}
use Rattle.std.proofs.lemmas.Grind.{common_steps}
use Rattle.std.proofs.lemmas.List.{append-nil}
use Rattle.std.specs.Char.{encode_utf8}
use Rattle.std.specs.Str.{encode_utf8_all}
use Rattle.gx_words.specs.Constants.{line_feed}
use Rattle.glk_text.specs.Characters.{shown}
use Rattle.glk_screen.specs.Wrapper.{FlatWrapper, wrapped_char, wrapped_chars}
use Rattle.glk_screen.proofs.Flowing.{grown}
use Rattle.glk_world.specs.declared.grids.ShownGrid.{ShownGrid}
use Rattle.glk_world.specs.World.{FlatWorld, after, silent, said_each}
use Rattle.glk_world.specs.Putting.{put_of, put_chars, fresh_after}
use Rattle.glk_world.specs.Shown.{said_row, said_grid}

-- what says nothing changes nothing
pub nothing_said : (w : FlatWorld) → after w (silent w.scene) ≡ w
nothing_said w = grind (arith, common_steps, append-nil)

pub ruleset silences = (nothing_said)

pub rows_none : (w : FlatWorld) (rows : List (List ℕ)) (n : ℕ) → length rows ≤ n
    → after w (said_each said_row w.scene (drop n rows)) ≡ w
unfolding said_each
rows_none w rows n past = let none : drop n rows ≡ [] = grind (arith, common_steps) in rw none (nothing_said w)

pub rows_more : (w : FlatWorld) (rows : List (List ℕ)) (i : ℕ) (d : List ℕ) → i < length rows
    → after (after w (said_row w.scene (get_or rows i d)))
    (said_each said_row (said_row w.scene (get_or rows i d)).0 (drop (i + 1) rows))
    ≡ after w (said_each said_row w.scene (drop i rows))
unfolding said_each
rows_more w rows i d within = let e : i + 1 ≡ suc i = omega arith in rw (e, drop-cons rows i d, append_assoc) refl

pub ruleset row_turns = (rows_none, rows_more)

pub grids_none : (w : FlatWorld) (grids : List ShownGrid) (n : ℕ) → length grids ≤ n
    → after w (said_each said_grid w.scene (drop n grids)) ≡ w
unfolding said_each
grids_none w grids n past = let none : drop n grids ≡ [] = grind (arith, common_steps) in rw none (nothing_said w)

pub grids_more : (w : FlatWorld) (grids : List ShownGrid) (i : ℕ) (d : ShownGrid) → i < length grids
    → after (after w (said_grid w.scene (get_or grids i d)))
    (said_each said_grid (said_grid w.scene (get_or grids i d)).0 (drop (i + 1) grids))
    ≡ after w (said_each said_grid w.scene (drop i grids))
unfolding said_each
grids_more w grids i d within = let e : i + 1 ≡ suc i = omega arith in rw (e, drop-cons grids i d, append_assoc) refl

pub some_within : {A : Type 0} (xs : List A) (i : ℕ) → i < length xs → xs ≢ []
some_within [] i within same = absurd (omega arith)
some_within (x ∷ xs) i within same = cc

pub ruleset grid_turns = (grids_none, grids_more, some_within)

pub shown_none : (chars : List ℕ) (n : ℕ) (out : List ℕ) → length chars ≤ n
    → out ++ encode_utf8_all (map shown (drop n chars)) ≡ out
shown_none chars n out past = let none : drop n chars ≡ [] = grind (arith, common_steps) in rw none (append-nil out)

pub shown_more : (chars : List ℕ) (i d : ℕ) (out : List ℕ) → i < length chars
    → (out ++ encode_utf8 (shown (get_or chars i d))) ++ encode_utf8_all (map shown (drop (i + 1) chars)) ≡ out
    ++ encode_utf8_all (map shown (drop i chars))
shown_more chars i d out within = let e : i + 1 ≡ suc i = omega arith in
    rw (e, drop-cons chars i d)
    (append_assoc out (encode_utf8 (shown (get_or chars i d))) (encode_utf8_all (map shown (drop (suc i) chars))))

pub ruleset shown_turns = (shown_none, shown_more)

pub fresh_none : (chars : List ℕ) (n : ℕ) (fresh : Bool) → length chars ≤ n → fresh_after fresh (drop n chars) ≡ fresh
unfolding fresh_after
fresh_none chars n fresh past = let none : drop n chars ≡ [] = grind (arith, common_steps) in rw none refl

pub fresh_more : (chars : List ℕ) (i d : ℕ) (fresh : Bool) → i < length chars
    → fresh_after (shown (get_or chars i d) == line_feed) (drop (i + 1) chars) ≡ fresh_after fresh (drop i chars)
unfolding fresh_after
fresh_more chars i d fresh within = let e : i + 1 ≡ suc i = omega arith in rw (e, drop-cons chars i d) refl

-- characters that are put one after another
pub puts_none : (w : FlatWorld) (stream : ℕ) (cs : List ℕ) (n : ℕ) → length cs ≤ n
    → after w (put_chars w.scene stream (drop n cs)) ≡ w
unfolding put_chars
puts_none w stream cs n past = let none : drop n cs ≡ [] = grind (arith, common_steps) in rw none (nothing_said w)

pub puts_more : (w : FlatWorld) (stream : ℕ) (cs : List ℕ) (i d : ℕ) → i < length cs
    → after (after w (put_of w.scene stream (get_or cs i d)))
    (put_chars (put_of w.scene stream (get_or cs i d)).0 stream (drop (i + 1) cs))
    ≡ after w (put_chars w.scene stream (drop i cs))
unfolding put_chars
puts_more w stream cs i d within = let e : i + 1 ≡ suc i = omega arith in rw (e, drop-cons cs i d, append_assoc) refl

pub ruleset puts_turns = (puts_none, puts_more, some_within)

pub ruleset text_turns = (shown_turns, fresh_none, fresh_more, some_within)

-- characters that are wrapped one after another
pub wrap_none : (row : FlatWrapper) (cs : List ℕ) (n : ℕ) → length cs ≤ n → (wrapped_chars row (drop n cs)).1 ≡ row
unfolding wrapped_chars
wrap_none row cs n past = let none : drop n cs ≡ [] = grind (arith, common_steps) in rw none refl

pub wrap_said : (row : FlatWrapper) (cs : List ℕ) (n : ℕ) (out : List ℕ) → length cs ≤ n
    → out ++ encode_utf8_all (wrapped_chars row (drop n cs)).0 ≡ out
unfolding wrapped_chars
wrap_said row cs n out past = let none : drop n cs ≡ [] = grind (arith, common_steps) in rw none (append-nil out)

pub wrap_more : (row : FlatWrapper) (cs : List ℕ) (i d : ℕ) → i < length cs
    → (wrapped_chars (wrapped_char row (get_or cs i d)).1 (drop (i + 1) cs)).1 ≡ (wrapped_chars row (drop i cs)).1
unfolding wrapped_chars
wrap_more row cs i d within = let e : i + 1 ≡ suc i = omega arith in rw (e, drop-cons cs i d) refl

pub wrap_grown : (row : FlatWrapper) (cs : List ℕ) (i d : ℕ) (out : List ℕ) → i < length cs
    → (out ++ encode_utf8_all (wrapped_char row (get_or cs i d)).0)
    ++ encode_utf8_all (wrapped_chars (wrapped_char row (get_or cs i d)).1 (drop (i + 1) cs)).0
    ≡ out ++ encode_utf8_all (wrapped_chars row (drop i cs)).0
unfolding wrapped_chars
wrap_grown row cs i d out within = let e : i + 1 ≡ suc i = omega arith in
    rw (e, drop-cons cs i d) (grown out (wrapped_char row (get_or cs i d)).0
    (wrapped_chars (wrapped_char row (get_or cs i d)).1 (drop (suc i) cs)).0)

pub ruleset wrap_turns = (wrap_none, wrap_said, wrap_more, wrap_grown)

-- the same as they are shown, and a line feed
abbrev pub with_line : List ℕ → List ℕ
with_line cs = map shown cs ++ 0x0A ∷ []

line_end : (row : FlatWrapper) (cs : List ℕ) (n : ℕ) → length cs ≤ n → with_line (drop n cs) ≡ 0x0A ∷ []
line_end row cs n past = let none : drop n cs ≡ [] = grind (arith, common_steps) in rw none refl

pub line_none : (row : FlatWrapper) (cs : List ℕ) (n : ℕ) → length cs ≤ n
    → (wrapped_chars row (with_line (drop n cs))).1 ≡ (wrapped_char row 0x0A).1
unfolding wrapped_chars
line_none row cs n past = rw (line_end row cs n past) refl

pub line_said : (row : FlatWrapper) (cs : List ℕ) (n : ℕ) (out : List ℕ) → length cs ≤ n
    → out ++ encode_utf8_all (wrapped_chars row (with_line (drop n cs))).0
    ≡ out ++ encode_utf8_all (wrapped_char row 0x0A).0
unfolding wrapped_chars
line_said row cs n out past = rw (line_end row cs n past, append-nil) refl

pub line_more : (row : FlatWrapper) (cs : List ℕ) (i d : ℕ) → i < length cs
    → (wrapped_chars (wrapped_char row (shown (get_or cs i d))).1 (with_line (drop (i + 1) cs))).1
    ≡ (wrapped_chars row (with_line (drop i cs))).1
unfolding wrapped_chars
line_more row cs i d within = let e : i + 1 ≡ suc i = omega arith in rw (e, drop-cons cs i d) refl

pub line_grown : (row : FlatWrapper) (cs : List ℕ) (i d : ℕ) (out : List ℕ) → i < length cs
    → (out ++ encode_utf8_all (wrapped_char row (shown (get_or cs i d))).0)
    ++ encode_utf8_all (wrapped_chars (wrapped_char row (shown (get_or cs i d))).1 (with_line (drop (i + 1) cs))).0
    ≡ out ++ encode_utf8_all (wrapped_chars row (with_line (drop i cs))).0
unfolding wrapped_chars
line_grown row cs i d out within = let e : i + 1 ≡ suc i = omega arith in
    rw (e, drop-cons cs i d) (grown out (wrapped_char row (shown (get_or cs i d))).0
    (wrapped_chars (wrapped_char row (shown (get_or cs i d))).1 (with_line (drop (suc i) cs))).0)

pub ruleset line_turns = (line_none, line_said, line_more, line_grown)
