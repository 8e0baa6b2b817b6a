-- Bytes that are put one after another and at once: to a file in Latin-1, and to memory.
use Rattle.std.proofs.Common.{suc, ◌≡◌, ◌<◌, ◌≤◌, ◌+◌, ◌-◌, ◌^◌, ◌%◌, ◌==◌, min, max, nat_lt, nat_le, ℕ, Bool, true}
use Rattle.std.proofs.Common.{false, if◌then◌else◌, List, [], ◌∷◌, ◌++◌, length, get_or, take, drop, refl, sym, ap, ◌∙◌}
use Rattle.std.proofs.Common.{arith, append_assoc}
use Rattle.std.proofs.lemmas.Bool.Decides.{nat_tests}
use Rattle.std.proofs.lemmas.Grind.{common_steps}
use Rattle.std.proofs.lemmas.Slice.{drop-append-drop}
use Rattle.std.proofs.Math.Seq.{take-append_seam}
use Rattle.gx_words.specs.Numbers.{spliced}
use Rattle.glk_streams.specs.declared.kinds.FileForm.TheVariants as forms
use Rattle.glk_streams.specs.declared.kinds.StreamKind.{StreamKind}
use Rattle.glk_streams.specs.declared.kinds.StreamKind.TheVariants as kinds
use Rattle.glk_streams.specs.declared.kinds.Stream.{Stream}
use Rattle.glk_streams.specs.Constants.{largest}
use Rattle.glk_streams.specs.Stream.{writable, place_count, after_put, after_puts}
use Rattle.glk_streams.proofs.Contents.{length_spliced}

-- one byte over another, and those after it over those behind it
spliced_more : (m bs : List ℕ) (p b : ℕ) → p ≤ length m
    → spliced (spliced m p (b ∷ [])) (p + 1) bs ≡ spliced m p (b ∷ bs)
spliced_more m bs p b there =
    let front : List ℕ = take p m ++ b ∷ [] in
    let all : List ℕ = front ++ drop (p + 1) m in
    let size : length front ≡ p + 1 = grind (arith, common_steps) in
    let whole : spliced m p (b ∷ []) ≡ all = sym (append_assoc (take p m) (b ∷ []) (drop (p + 1) m)) in
    let kept : take (p + 1) all ≡ front =
    ap (λ (n : ℕ). take n all) (sym size) ∙ take-append_seam front (drop (p + 1) m) in
    let left : drop (p + 1 + length bs) all ≡ drop (p + 1 + length bs) m =
    drop-append-drop (p + 1) m front (p + 1 + length bs) (omega arith) size in
    let e : p + 1 + length bs ≡ p + suc (length bs) = omega arith in
    ap (λ (x : List ℕ). spliced x (p + 1) bs) whole
    ∙ ap (λ (x : List ℕ). x ++ (bs ++ drop (p + 1 + length bs) all)) kept
    ∙ ap (λ (x : List ℕ). front ++ (bs ++ x)) left
    ∙ append_assoc (take p m) (b ∷ []) (bs ++ drop (p + 1 + length bs) m)
    ∙ ap (λ (n : ℕ). take p m ++ (b ∷ (bs ++ drop n m))) e

abbrev pub file_at : Stream → List ℕ → List ℕ → ℕ → ℕ → Stream
file_at s name content position written =
    record s { kind = kinds.File name content forms.Latin; position = position; written = written }

-- each is a byte
abbrev pub AreBytes : List ℕ → Type 0
AreBytes bs = (k : ℕ) → k < length bs → get_or bs k 0 < 256

put_by : (s : Stream) (name content : List ℕ) (position written b : ℕ) → writable s ≡ true → b < 256
    → position + 1 ≤ largest
    → after_put (file_at s name content position written) b
    ≡ file_at s name (spliced content position (b ∷ [])) (position + 1) ((written + 1) % 2 ^ 32)
unfolding after_put
put_by s name content position written b on small room =
    let is : nat_lt b 256 ≡ true = grind (arith, nat_tests) in
    let there : nat_le (position + 1) largest ≡ true = grind (arith, nat_tests) in
    rw (on, is, there) refl

puts_by : (s : Stream) (name content bs : List ℕ) (position written : ℕ) → writable s ≡ true → AreBytes bs
    → position + length bs ≤ largest → position ≤ length content → written < 2 ^ 32
    → after_puts (file_at s name content position written) bs
    ≡ file_at s name (spliced content position bs) (position + length bs) ((written + length bs) % 2 ^ 32)
unfolding after_puts
puts_by s name content [] position written on small room there fits =
    let p : position + 0 ≡ position = omega arith in
    let w : (written + 0) % 2 ^ 32 ≡ written = omega arith in
    let c : spliced content position [] ≡ content = grind (arith, common_steps) in
    rw (c, p, w) refl
puts_by s name content (b ∷ bs) position written on small room there fits =
    let first : b < 256 = small 0 (omega arith) in
    let rest =
    puts_by s name (spliced content position (b ∷ [])) bs (position + 1) ((written + 1) % 2 ^ 32) on
    (λ k less. small (suc k) (omega arith)) (omega arith) (grind (arith, common_steps)) (omega arith) in
    let p : position + 1 + length bs ≡ position + suc (length bs) = omega arith in
    let w : ((written + 1) % 2 ^ 32 + length bs) % 2 ^ 32 ≡ (written + suc (length bs)) % 2 ^ 32 = omega arith in
    rw (put_by s name content position written b on first (omega arith))
    (rest ∙ rw (spliced_more content bs position b there, p, w) refl)

pub latin_puts : (s : Stream) (name content bs : List ℕ) → s.kind ≡ kinds.File name content forms.Latin
    → writable s ≡ true → AreBytes bs → s.position + length bs ≤ largest → s.position ≤ length content
    → s.written < 2 ^ 32
    → after_puts s bs ≡ file_at s name (spliced content s.position bs) (s.position + length bs)
    ((s.written + length bs) % 2 ^ 32)
latin_puts s name content bs is on small room there fits =
    ap (λ (k : StreamKind). after_puts (record s { kind = k }) bs) is
    ∙ puts_by s name content bs s.position s.written on small room there fits

-- ---- memory, of which the places alone move on

abbrev pub memory_at : Stream → ℕ → ℕ → ℕ → Stream
memory_at s position highest written = record s { position = position; highest = highest; written = written }

memory_same : (s : Stream) (p p' h h' w w' : ℕ) → p ≡ p' → h ≡ h' → w ≡ w' → memory_at s p h w ≡ memory_at s p' h' w'
memory_same s p p' h h' w w' position highest written =
    ap (λ (x : ℕ). memory_at s x h w) position ∙ ap (λ (x : ℕ). memory_at s p' x w) highest
    ∙ ap (λ (x : ℕ). memory_at s p' h' x) written

abbrev pub highest_at : ℕ → ℕ → ℕ → ℕ
highest_at highest position count = if count == 0 then highest else max highest (position + count)

module _ (s : Stream) (at len : ℕ) (wide : Bool) (is : s.kind ≡ kinds.Memory at len wide) (on : writable s ≡ true) where
  put_place : (position highest written b : ℕ) → position < place_count at len
      → after_put (memory_at s position highest written) b
      ≡ memory_at s (position + 1) (max highest (position + 1)) ((written + 1) % 2 ^ 32)
  unfolding after_put
  put_place position highest written b less =
      let there : nat_lt position (place_count at len) ≡ true = grind (arith, nat_tests) in
      rw (on, is, there) refl

  put_past : (position highest written b : ℕ) → place_count at len ≤ position
      → after_put (memory_at s position highest written) b ≡ memory_at s position highest ((written + 1) % 2 ^ 32)
  unfolding after_put
  put_past position highest written b past =
      let gone : nat_lt position (place_count at len) ≡ false = grind (arith, nat_tests) in
      rw (on, is, gone) refl

  puts_past : (bs : List ℕ) (position highest written : ℕ) → place_count at len ≤ position → written < 2 ^ 32
      → after_puts (memory_at s position highest written) bs
      ≡ memory_at s position highest ((written + length bs) % 2 ^ 32)
  unfolding after_puts
  puts_past [] position highest written past fits = let w : (written + 0) % 2 ^ 32 ≡ written = omega arith in rw w refl
  puts_past (b ∷ bs) position highest written past fits =
      let w : ((written + 1) % 2 ^ 32 + length bs) % 2 ^ 32 ≡ (written + suc (length bs)) % 2 ^ 32 = omega arith in
      rw (put_past position highest written b past)
      (puts_past bs position highest ((written + 1) % 2 ^ 32) past (omega arith) ∙ rw w refl)

  puts_places : (bs : List ℕ) (position highest written : ℕ) → written < 2 ^ 32
      → after_puts (memory_at s position highest written) bs
      ≡ memory_at s (position + min (place_count at len - position) (length bs))
      (highest_at highest position (min (place_count at len - position) (length bs))) ((written + length bs) % 2 ^ 32)
  unfolding after_puts
  puts_places [] position highest written fits =
      let w : (written + 0) % 2 ^ 32 ≡ written = omega arith in
      let m : min (place_count at len - position) 0 ≡ 0 = omega arith in
      let p : position + 0 ≡ position = omega arith in
      rw (w, m, p) refl
  puts_places (b ∷ bs) position highest written fits =
      let rest = place_count at len - (position + 1) in
      let w : ((written + 1) % 2 ^ 32 + length bs) % 2 ^ 32 ≡ (written + suc (length bs)) % 2 ^ 32 = omega arith in
      elim (nat_lt position (place_count at len)) as (λ t. nat_lt position (place_count at len) ≡ t
      → after_puts (memory_at s position highest written) (b ∷ bs)
      ≡ memory_at s (position + min (place_count at len - position) (suc (length bs)))
      (highest_at highest position (min (place_count at len - position) (suc (length bs))))
      ((written + suc (length bs)) % 2 ^ 32)) [
        | true ↦ λ less. let p : position + 1 + min rest (length bs)
            ≡ position + min (place_count at len - position) (suc (length bs)) = grind (arith, nat_tests, less) in
            let h : highest_at (max highest (position + 1)) (position + 1) (min rest (length bs))
            ≡ highest_at highest position (min (place_count at len - position) (suc (length bs))) =
            grind (arith, nat_tests, less) in
            rw (put_place position highest written b (grind (arith, nat_tests, less)))
            (puts_places bs (position + 1) (max highest (position + 1)) ((written + 1) % 2 ^ 32) (omega arith)
            ∙ memory_same s _ _ _ _ _ _ p h w)
        | false ↦ λ past.
            let m : min (place_count at len - position) (suc (length bs)) ≡ 0 = grind (arith, nat_tests, past) in
            let p : position + 0 ≡ position = omega arith in
            puts_past (b ∷ bs) position highest written (grind (arith, nat_tests, past)) fits ∙ rw (m, p) refl
      ] refl

pub memory_puts : (s : Stream) (at len : ℕ) (wide : Bool) (bs : List ℕ) → s.kind ≡ kinds.Memory at len wide
    → writable s ≡ true → s.written < 2 ^ 32
    → after_puts s bs ≡ memory_at s (s.position + min (place_count at len - s.position) (length bs))
    (highest_at s.highest s.position (min (place_count at len - s.position) (length bs)))
    ((s.written + length bs) % 2 ^ 32)
memory_puts s at len wide bs is on fits = puts_places s at len wide is on bs s.position s.highest s.written fits

pub ruleset bytes_rules = (latin_puts, memory_puts, length_spliced)
