-- What is said in a view that wraps, beside what is said in the other: one thing after another, and what is shown.
use Rattle.std.proofs.Common.{◌≡◌, ℕ, ◌+◌, ◌==◌, Bool, true, false, if◌then◌else◌, List, [], ◌∷◌, ◌++◌}
use Rattle.std.proofs.Common.{append_assoc, map, refl, sym, ◌∙◌, ap, arith}
use Rattle.std.proofs.lemmas.List.{append-nil}
use Rattle.std.specs.Char.{encode_utf8}
use Rattle.std.specs.Str.{encode_utf8_all}
use Rattle.gx_words.specs.Constants.{line_feed}
use Rattle.glk_text.specs.Characters.{shown}
use Rattle.glk_screen.specs.Wrapper.{FlatWrapper, LetGo, wrapped_char, wrapped_chars, restarted}
use Rattle.glk_screen.proofs.Flowing.{enc_append}
use Rattle.glk_world.specs.World.{Scene, Said, silent, then_said}
use Rattle.glk_world.specs.Putting.{flowed, said_char}
use Rattle.glk_world.specs.Shown.{prompt_words}
use Rattle.glk_world.specs.Shown.{wrapped_text, row_let_go, end_text, show_prompt, show_line}
use Rattle.glk_views.specs.Parts.{Part, comes, grid_row, goes, taken, barred, as_it_comes, lines_taken, part_wrapped, wrapped}
use Rattle.glk_views.specs.Beside.{in_wrapping, in_plain, SaysBeside}

-- ---- parts, one behind the other

pub both_come : (ps qs : List Part) → as_it_comes (ps ++ qs) ≡ as_it_comes ps ++ as_it_comes qs
both_come [] qs = refl
both_come (comes c ∷ ps) qs = ap (λ (xs : List ℕ). c ∷ xs) (both_come ps qs)
both_come (grid_row fresh cs ∷ ps) qs =
    ap (λ (xs : List ℕ). barred fresh cs ++ xs) (both_come ps qs)
    ∙ sym (append_assoc (barred fresh cs) (as_it_comes ps) (as_it_comes qs))
both_come (goes ∷ ps) qs = both_come ps qs
both_come (taken ∷ ps) qs = both_come ps qs

-- the lines that are taken in both
pub both_taken : (ps qs : List Part) → lines_taken (ps ++ qs) ≡ lines_taken ps + lines_taken qs
both_taken [] qs = omega arith
both_taken (comes c ∷ ps) qs = both_taken ps qs
both_taken (grid_row fresh cs ∷ ps) qs = both_taken ps qs
both_taken (goes ∷ ps) qs = both_taken ps qs
both_taken (taken ∷ ps) qs = let rest = both_taken ps qs in omega (arith, rest)

chars_untaken : (cs : List ℕ) → lines_taken (map comes cs) ≡ 0
chars_untaken [] = refl
chars_untaken (c ∷ cs) = chars_untaken cs

abbrev pub joined_text : List ℕ → LetGo → LetGo
joined_text text next = (text ++ next.0, next.1)

pub both_wrapped : (r : FlatWrapper) (ps qs : List Part)
    → wrapped r (ps ++ qs) ≡ joined_text (wrapped r ps).0 (wrapped (wrapped r ps).1 qs)
both_wrapped r [] qs = refl
both_wrapped r (p ∷ ps) qs =
    let first = part_wrapped r p in
    let next = wrapped (wrapped first.1 ps).1 qs in
    ap (joined_text first.0) (both_wrapped first.1 ps qs)
    ∙ ap {B = LetGo} (λ (text : List ℕ). (text, next.1)) (sym (append_assoc first.0 (wrapped first.1 ps).0 next.0))

chars_come : (cs : List ℕ) → as_it_comes (map comes cs) ≡ cs
chars_come [] = refl
chars_come (c ∷ cs) = ap (λ (xs : List ℕ). c ∷ xs) (chars_come cs)

chars_wrapped : (r : FlatWrapper) (cs : List ℕ) → wrapped r (map comes cs) ≡ wrapped_chars r cs
unfolding wrapped_chars
chars_wrapped r [] = refl
chars_wrapped r (c ∷ cs) =
    let first = wrapped_char r c in
    ap (joined_text first.0) (chars_wrapped first.1 cs)

-- ---- what is said

module _ (rows : Bool) (limit : ℕ) where
  -- nothing
  pub quiet : (r : FlatWrapper) (w : Scene) → SaysBeside 0 rows limit r (silent (in_wrapping rows r w)) (silent (in_plain rows limit w))
  quiet r w = record { scene = w; parts = []; wraps = refl; comes = refl; lines = omega arith }

  -- a part that lets go of this text, and is that text as it comes
  pub one_part : (r : FlatWrapper) (w : Scene) (p : Part) (a b : List ℕ)
      → encode_utf8_all (part_wrapped r p).0 ≡ a → encode_utf8_all (as_it_comes (p ∷ [])) ≡ b → lines_taken (p ∷ []) ≡ 0
      → SaysBeside 0 rows limit r (in_wrapping rows (part_wrapped r p).1 w, a) (in_plain rows limit w, b)
  one_part r w p a b text plain untaken =
      let shape : List ℕ → Said = λ t. (in_wrapping rows (part_wrapped r p).1 w, t) in
      record {
        scene = w;
        parts = p ∷ [];
        wraps = ap shape (sym text ∙ ap encode_utf8_all (sym (append-nil (part_wrapped r p).0)));
        comes = ap {B = Said} (λ t. (in_plain rows limit w, t)) (sym plain);
        lines = omega (arith, untaken);
      }

  -- one thing after another
  joined_by : (n k : ℕ) (r : FlatWrapper) (a b : Said) (more1 more2 : Scene → Said) (h : SaysBeside n rows limit r a b)
      → SaysBeside k rows limit (wrapped r h.parts).1 (more1 (in_wrapping rows (wrapped r h.parts).1 h.scene))
      (more2 (in_plain rows limit h.scene))
      → SaysBeside (n + k) rows limit r (then_said a more1) (then_said b more2)
  joined_by n k r a b more1 more2 h next =
      let first = wrapped r h.parts in
      let second = wrapped first.1 next.parts in
      let behind1 : Said → Said = λ x. (x.0, encode_utf8_all first.0 ++ x.1) in
      let behind2 : Said → Said = λ x. (x.0, encode_utf8_all (as_it_comes h.parts) ++ x.1) in
      let shape1 : LetGo → Said = λ x. (in_wrapping rows x.1 next.scene, encode_utf8_all x.0) in
      let shape2 : List ℕ → Said = λ t. (in_plain rows limit next.scene, t) in
      record {
        scene = next.scene;
        parts = h.parts ++ next.parts;
        wraps = ap (λ (x : Said). then_said x more1) h.wraps ∙ ap behind1 next.wraps
            ∙ ap {B = Said} (λ (t : List ℕ). (in_wrapping rows second.1 next.scene, t)) (sym (enc_append first.0 second.0))
            ∙ sym (ap shape1 (both_wrapped r h.parts next.parts));
        comes = ap (λ (x : Said). then_said x more2) h.comes ∙ ap behind2 next.comes
            ∙ ap shape2 (sym (enc_append (as_it_comes h.parts) (as_it_comes next.parts))
            ∙ ap encode_utf8_all (sym (both_come h.parts next.parts)));
        lines = let few = h.lines in let more = next.lines in omega (arith, few, more, both_taken h.parts next.parts);
      }

  pub joined_at : (r : FlatWrapper) (a b : Said) (more1 more2 : Scene → Said) (h : SaysBeside 0 rows limit r a b)
      → SaysBeside 0 rows limit (wrapped r h.parts).1 (more1 (in_wrapping rows (wrapped r h.parts).1 h.scene))
      (more2 (in_plain rows limit h.scene))
      → SaysBeside 0 rows limit r (then_said a more1) (then_said b more2)
  joined_at r a b more1 more2 h next = joined_by 0 0 r a b more1 more2 h next

  pub joined : {r : FlatWrapper} {a b : Said} (more1 more2 : Scene → Said) → SaysBeside 0 rows limit r a b
      → ((r' : FlatWrapper) (w : Scene) → SaysBeside 0 rows limit r' (more1 (in_wrapping rows r' w)) (more2 (in_plain rows limit w)))
      → SaysBeside 0 rows limit r (then_said a more1) (then_said b more2)
  joined {r} {a} {b} more1 more2 h on = joined_at r a b more1 more2 h (on (wrapped r h.parts).1 h.scene)

  -- the same scene in both
  then_by : (k : ℕ) (r : FlatWrapper) (a b : Said) (on : Scene → Scene) → SaysBeside 0 rows limit r a b
      → ((r' : FlatWrapper) (w : Scene)
      → SaysBeside k rows limit r' (silent (on (in_wrapping rows r' w))) (silent (on (in_plain rows limit w))))
      → SaysBeside (0 + k) rows limit r (on a.0, a.1) (on b.0, b.1)
  then_by k r a b on h next =
      let both : SaysBeside (0 + k) rows limit r (on a.0, a.1 ++ []) (on b.0, b.1 ++ []) =
      joined_by 0 k r a b (λ v. silent (on v)) (λ v. silent (on v)) h (next (wrapped r h.parts).1 h.scene) in
      rw (append-nil a.1, append-nil b.1) at both

  pub then_scene : {r : FlatWrapper} {a b : Said} (on : Scene → Scene) → SaysBeside 0 rows limit r a b
      → ((r' : FlatWrapper) (w : Scene)
      → SaysBeside 0 rows limit r' (silent (on (in_wrapping rows r' w))) (silent (on (in_plain rows limit w))))
      → SaysBeside 0 rows limit r (on a.0, a.1) (on b.0, b.1)
  then_scene {r} {a} {b} on h next = then_by 0 r a b on h next

  -- and a line was taken
  pub then_taken : {r : FlatWrapper} {a b : Said} (on : Scene → Scene) → SaysBeside 0 rows limit r a b
      → ((r' : FlatWrapper) (w : Scene)
      → SaysBeside 1 rows limit r' (silent (on (in_wrapping rows r' w))) (silent (on (in_plain rows limit w))))
      → SaysBeside 1 rows limit r (on a.0, a.1) (on b.0, b.1)
  then_taken {r} {a} {b} on h next = then_by 1 r a b on h next

  pub if_says : (c : Bool) {r : FlatWrapper} {a1 b1 a2 b2 : Said} → SaysBeside 0 rows limit r a1 b1 → SaysBeside 0 rows limit r a2 b2
      → SaysBeside 0 rows limit r (if c then a1 else a2) (if c then b1 else b2)
  if_says true h k = h
  if_says false h k = k

  -- a line was taken
  pub after_taken : {r : FlatWrapper} {a b : Said} → SaysBeside 0 rows limit (restarted r) a b → SaysBeside 1 rows limit r a b
  after_taken h = record {
    scene = h.scene;
    parts = taken ∷ h.parts;
    wraps = h.wraps;
    comes = h.comes;
    lines = let few = h.lines in omega (arith, few);
  }

  -- all that is held is let go
  pub go_says : (r : FlatWrapper) (w : Scene) → SaysBeside 0 rows limit r (row_let_go (in_wrapping rows r w)) (silent (in_plain rows limit w))
  go_says r w = one_part r w goes (encode_utf8_all r.row) [] refl refl refl

  -- characters
  pub text_says : (r : FlatWrapper) (w : Scene) (cs b : List ℕ) → encode_utf8_all cs ≡ b
      → SaysBeside 0 rows limit r (wrapped_text (in_wrapping rows r w) cs) (in_plain rows limit w, b)
  text_says r w cs b plain =
      let shape : LetGo → Said = λ x. (in_wrapping rows x.1 w, encode_utf8_all x.0) in
      record {
        scene = w;
        parts = map comes cs;
        wraps = sym (ap shape (chars_wrapped r cs));
        comes = ap {B = Said} (λ t. (in_plain rows limit w, t)) (sym plain ∙ ap encode_utf8_all (sym (chars_come cs)));
        lines = omega (arith, chars_untaken cs);
      }

-- ---- a character, a line, a prompt

pub char_says : (rows : Bool) (limit : ℕ) (r : FlatWrapper) (w : Scene) (c : ℕ)
    → SaysBeside 0 rows limit r (said_char (in_wrapping rows r w) c) (said_char (in_plain rows limit w) c)
unfolding flowed
char_says true limit r w c =
    one_part true limit r (record w { fresh = c == line_feed }) (comes c) (encode_utf8_all (wrapped_char r c).0)
    (encode_utf8 c) refl (append-nil (encode_utf8 c)) refl
char_says false limit r w c =
    one_part false limit r (record w { fresh = c == line_feed }) (comes c) (encode_utf8_all (wrapped_char r c).0)
    (encode_utf8 c) refl (append-nil (encode_utf8 c)) refl

pub line_bytes : (cs : List ℕ) → encode_utf8_all (cs ++ line_feed ∷ []) ≡ encode_utf8_all cs ++ line_feed ∷ []
unfolding encode_utf8
line_bytes cs = enc_append cs (line_feed ∷ [])

pub line_says : (rows : Bool) (limit : ℕ) (r : FlatWrapper) (w : Scene) (line : List ℕ)
    → SaysBeside 0 rows limit r (show_line (in_wrapping rows r w) line) (show_line (in_plain rows limit w) line)
unfolding show_line
line_says true limit r w line =
    text_says true limit r (record w { fresh = true }) (map shown line ++ line_feed ∷ []) _ (line_bytes (map shown line))
line_says false limit r w line =
    text_says false limit r (record w { fresh = true }) (map shown line ++ line_feed ∷ []) _ (line_bytes (map shown line))

prompt_bytes : encode_utf8_all prompt_words ≡ prompt_words
unfolding encode_utf8
prompt_bytes = refl

prompted : (rows : Bool) (limit : ℕ) (r : FlatWrapper) (w : Scene)
    → SaysBeside 0 rows limit r (then_said (wrapped_text (in_wrapping rows r w) prompt_words) row_let_go) (in_plain rows limit w, prompt_words ++ [])
prompted rows limit r w =
    joined rows limit row_let_go silent (text_says rows limit r w prompt_words prompt_words prompt_bytes)
    (λ r' v. go_says rows limit r' v)

pub prompt_says : (rows : Bool) (limit : ℕ) (r : FlatWrapper) (w : Scene)
    → SaysBeside 0 rows limit r (show_prompt (in_wrapping rows r w)) (show_prompt (in_plain rows limit w))
unfolding show_prompt
prompt_says true limit r w = prompted true limit r (record w { fresh = false })
prompt_says false limit r w = prompted false limit r (record w { fresh = false })

-- ---- the end

pub end_says : (rows : Bool) (limit : ℕ) (r : FlatWrapper) (w : Scene)
    → SaysBeside 0 rows limit r (end_text (in_wrapping rows r w)) (end_text (in_plain rows limit w))
unfolding end_text
end_says true limit r w = go_says true limit r w
end_says false limit r w = go_says false limit r w
