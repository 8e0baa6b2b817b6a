-- The text of a code, instruction by instruction.
use Rattle.std.proofs.Common.{◌≡◌, ◌≤◌, ◌<◌, ◌+◌, ◌&&◌, ◌↔◌, ℕ, zero, suc, Bool, true, false, if◌then◌else◌, List, []}
use Rattle.std.proofs.Common.{◌∷◌, ◌++◌, append_assoc, length, length-append, length-drop, drop, drop-drop, refl, sym}
use Rattle.std.proofs.Common.{◌∙◌, ap, subst, arith, Result, Ok, Err, All}
use Rattle.std.specs.List.{flat_map}
use Rattle.std.proofs.lemmas.List.Elements.{All-cons, All-drop, All-head, All-nil, All-tail}
use Rattle.std.proofs.Math.Seq.{drop-append_seam}
use Rattle.gx_words.specs.Results.{◌>>=◌}
use Rattle.gx_asm.specs.declared.faults.ListFault.{ListFault}
use Rattle.gx_asm.specs.declared.faults.ListFault.TheVariants as of_code
use Rattle.gx_asm.specs.Instructions.{WrittenInstruction, IsWritten, Spells, bytes_of, instruction_line}
use Rattle.gx_asm.specs.Codes.{instruction_at, ends_listing, listed, text_from}
use Rattle.gx_asm.proofs.Nibbles.{bind_ok}
use Rattle.gx_asm.proofs.CodesRead.{bytes_some, read_from, reads_back, split}

bind_same : {A B E : Type 0} (m : Result A E) (f g : A → Result B E) → ((x : A) → f x ≡ g x) → (m >>= f) ≡ (m >>= g)
bind_same (Ok x) f g h = h x
bind_same (Err e) f g h = refl

-- a text with others before it
abbrev pub prefixed : List ℕ → Result (List ℕ) ListFault → Result (List ℕ) ListFault
prefixed before (Ok text) = Ok (before ++ text)
prefixed before (Err fault) = Err fault

bound : (before : List ℕ) (r : Result (List ℕ) ListFault) → (r >>= (λ text. Ok (before ++ text))) ≡ prefixed before r
bound before (Ok text) = refl
bound before (Err fault) = refl

pub prefixed_twice : (a b : List ℕ) (r : Result (List ℕ) ListFault) → prefixed a (prefixed b r) ≡ prefixed (a ++ b) r
prefixed_twice a b (Ok text) = ap (λ (l : List ℕ). Ok l) (sym (append_assoc a b text))
prefixed_twice a b (Err fault) = refl

-- what is left behind an instruction is shorter
left_shorter : (fuel : ℕ) (b : ℕ) (rest : List ℕ) (w : WrittenInstruction) → length (b ∷ rest) ≤ suc fuel
    → length (drop (length (bytes_of w)) (b ∷ rest)) ≤ fuel
left_shorter fuel b rest w h = omega (arith, length-drop (length (bytes_of w)) (b ∷ rest), bytes_some w)

-- ---- fuel beyond the length makes no difference

pub fuel_free : (fuel more : ℕ) (ends : Bool) (at : ℕ) (code : List ℕ) → length code ≤ fuel → length code ≤ more
    → text_from fuel ends at code ≡ text_from more ends at code
unfolding text_from
fuel_free fuel more ends at [] h k = refl
fuel_free zero more ends at (b ∷ rest) h k = absurd (omega arith)
fuel_free (suc fuel) zero ends at (b ∷ rest) h k = absurd (omega arith)
fuel_free (suc fuel) (suc more) ends at (b ∷ rest) h k =
    bind_same (instruction_at at (b ∷ rest)) _ _ (λ w.
    rw (fuel_free fuel more ends (at + length (bytes_of w)) (drop (length (bytes_of w)) (b ∷ rest))
    (left_shorter fuel b rest w h) (left_shorter more b rest w k)) refl)

-- ---- an instruction more

pub none_left : (fuel : ℕ) (ends : Bool) (at : ℕ) (code : List ℕ) → length code ≡ 0
    → text_from fuel ends at code ≡ (if ends then Err (of_code.Cut at) else Ok [])
unfolding text_from
none_left fuel ends at [] h = refl
none_left fuel ends at (b ∷ rest) h = absurd (omega arith)

pub one_bad : (fuel : ℕ) (ends : Bool) (at : ℕ) (code : List ℕ) (e : ListFault) → 0 < length code → length code ≤ fuel
    → instruction_at at code ≡ Err e → text_from fuel ends at code ≡ Err e
unfolding text_from
one_bad fuel ends at [] e some h bad = absurd (omega arith)
one_bad zero ends at (b ∷ rest) e some h bad = absurd (omega arith)
one_bad (suc fuel) ends at (b ∷ rest) e some h bad = rw bad refl

pub one_last : (fuel : ℕ) (ends : Bool) (at : ℕ) (code : List ℕ) (w : WrittenInstruction) → 0 < length code
    → length code ≤ fuel → instruction_at at code ≡ Ok w → (ends && ends_listing w) ≡ true
    → text_from fuel ends at code ≡ Ok (instruction_line w)
unfolding text_from
one_last fuel ends at [] w some h read last = absurd (omega arith)
one_last zero ends at (b ∷ rest) w some h read last = absurd (omega arith)
one_last (suc fuel) ends at (b ∷ rest) w some h read last = rw (read, last) refl

pub one_more : (fuel : ℕ) (ends : Bool) (at : ℕ) (code : List ℕ) (w : WrittenInstruction) → 0 < length code
    → length code ≤ fuel → instruction_at at code ≡ Ok w → (ends && ends_listing w) ≡ false
    → text_from fuel ends at code ≡ prefixed (instruction_line w)
    (text_from fuel ends (at + length (bytes_of w)) (drop (length (bytes_of w)) code))
unfolding text_from
one_more fuel ends at [] w some h read more = absurd (omega arith)
one_more zero ends at (b ∷ rest) w some h read more = absurd (omega arith)
one_more (suc fuel) ends at (b ∷ rest) w some h read more =
    let less = left_shorter fuel b rest w h in
    rw (read, more) (bound (instruction_line w) _
    ∙ ap (prefixed (instruction_line w)) (fuel_free fuel (suc fuel) ends (at + length (bytes_of w))
    (drop (length (bytes_of w)) (b ∷ rest)) less (omega (arith, less))))

-- ---- the loop of a listing, which has listed `done` of a code from a place on

-- what is listed is that of the code from `at` on, with `done` before it
pub record IsSoFar (code : List ℕ) (ends : Bool) (from at : ℕ) (done : List ℕ) : Type 0 where
  pub within : at ≤ length code
  pub same : text_from (length code) ends from (drop from code)
      ≡ prefixed done (text_from (length code) ends at (drop at code))

prefixed_none : (r : Result (List ℕ) ListFault) → r ≡ prefixed [] r
prefixed_none (Ok text) = refl
prefixed_none (Err fault) = refl

pub begun : (code : List ℕ) (ends : Bool) (from : ℕ) → from ≤ length code → IsSoFar code ends from from []
begun code ends from within = record { within = within; same = prefixed_none _ }

rest_some : (code : List ℕ) (at : ℕ) → at < length code → (0 < length (drop at code))
    × (length (drop at code) ≤ length code)
rest_some code at h = let size = length-drop at code in (omega (arith, size), omega (arith, size))

pub turn_bad : (code : List ℕ) (ends : Bool) (from at : ℕ) (done : List ℕ) (e : ListFault)
    → IsSoFar code ends from at done → at < length code
    → instruction_at at (drop at code) ≡ Err e → text_from (length code) ends from (drop from code) ≡ Err e
turn_bad code ends from at done e so_far more bad =
    let some = rest_some code at more in
    so_far.same ∙ ap (prefixed done) (one_bad (length code) ends at (drop at code) e some.0 some.1 bad)

pub turn_last : (code : List ℕ) (ends : Bool) (from at : ℕ) (done : List ℕ) (w : WrittenInstruction)
    → IsSoFar code ends from at done → at < length code
    → instruction_at at (drop at code) ≡ Ok w → (ends && ends_listing w) ≡ true
    → text_from (length code) ends from (drop from code) ≡ Ok (done ++ instruction_line w)
turn_last code ends from at done w so_far more read last =
    let some = rest_some code at more in
    so_far.same ∙ ap (prefixed done) (one_last (length code) ends at (drop at code) w some.0 some.1 read last)

pub turn_more : (code : List ℕ) (ends : Bool) (from at : ℕ) (done : List ℕ) (w : WrittenInstruction)
    → IsSoFar code ends from at done → at < length code
    → All (λ b. b < 256) code → instruction_at at (drop at code) ≡ Ok w → (ends && ends_listing w) ≡ false
    → IsSoFar code ends from (at + length (bytes_of w)) (done ++ instruction_line w)
turn_more code ends from at done w so_far more small read goes =
    let some = rest_some code at more in
    let is = read_from at (drop at code) w (All-drop (λ b. b < 256) at code small) read in
    let next = one_more (length code) ends at (drop at code) w some.0 some.1 read goes in
    let behind = drop-drop (length (bytes_of w)) at code in
    record {
      within = omega (arith, is.within, length-drop at code);
      same = so_far.same ∙ ap (prefixed done) next ∙ prefixed_twice done (instruction_line w) _
          ∙ ap (λ (l : List ℕ). prefixed (done ++ instruction_line w)
          (text_from (length code) ends (at + length (bytes_of w)) l)) behind;
    }

append_none : (l : List ℕ) → l ++ [] ≡ l
append_none [] = refl
append_none (x ∷ xs) = ap (λ (l : List ℕ). x ∷ l) (append_none xs)

pub turns_whole : (code : List ℕ) (from at : ℕ) (done : List ℕ) → IsSoFar code false from at done → length code ≤ at
    → text_from (length code) false from (drop from code) ≡ Ok done
turns_whole code from at done so_far past =
    so_far.same ∙ ap (prefixed done) (none_left (length code) false at (drop at code)
    (omega (arith, length-drop at code))) ∙ ap (λ (l : List ℕ). Ok l) (append_none done)

pub turns_cut : (code : List ℕ) (from at : ℕ) (done : List ℕ) → IsSoFar code true from at done → length code ≤ at
    → text_from (length code) true from (drop from code) ≡ Err (of_code.Cut (length code))
turns_cut code from at done so_far past =
    let end : at ≡ length code = omega (arith, so_far.within) in
    so_far.same ∙ ap (prefixed done) (none_left (length code) true at (drop at code)
    (omega (arith, length-drop at code))) ∙ ap (λ (n : ℕ). Err (of_code.Cut n)) end

-- ---- a listing and its code spell each other

spells : (fuel at : ℕ) (code text : List ℕ) → All (λ b. b < 256) code → length code ≤ fuel
    → text_from fuel false at code ≡ Ok text → Spells text code
unfolding text_from
spells fuel at [] text small h is =
    record { instructions = []; each = All-nil IsWritten; lines = cc; bytes = refl }
spells zero at (b ∷ rest) text small h is = absurd (omega arith)
spells (suc fuel) at (b ∷ rest) text small h is =
    let w = bind_ok (instruction_at at (b ∷ rest)) _ text is in
    let t = bind_ok (text_from fuel false (at + length (bytes_of w.0)) (drop (length (bytes_of w.0)) (b ∷ rest))) _
    text w.2 in
    let read = read_from at (b ∷ rest) w.0 small w.1 in
    let others = spells fuel (at + length (bytes_of w.0)) (drop (length (bytes_of w.0)) (b ∷ rest)) t.0
    (All-drop (λ b. b < 256) (length (bytes_of w.0)) (b ∷ rest) small) (left_shorter fuel b rest w.0 h) t.1 in
    let whole : instruction_line w.0 ++ t.0 ≡ text = cc in
    record {
      instructions = w.0 ∷ others.instructions;
      each = All-cons IsWritten w.0 others.instructions read.written others.each;
      lines = sym whole ∙ ap (λ (l : List ℕ). instruction_line w.0 ++ l) others.lines;
      bytes = split (b ∷ rest) w.0 read ∙ ap (λ (l : List ℕ). bytes_of w.0 ++ l) others.bytes;
    }

lists : (fuel at : ℕ) (ws : List WrittenInstruction) → All IsWritten ws → length (flat_map bytes_of ws) ≤ fuel
    → text_from fuel false at (flat_map bytes_of ws) ≡ Ok (flat_map instruction_line ws)
lists fuel at [] each h = none_left fuel false at [] refl
lists fuel at (w ∷ ws) each h =
    let size = length-append (bytes_of w) (flat_map bytes_of ws) in
    let some : 0 < length (bytes_of w ++ flat_map bytes_of ws) = omega (arith, size, bytes_some w) in
    one_more fuel false at (bytes_of w ++ flat_map bytes_of ws) w some h
    (reads_back at w (flat_map bytes_of ws) (All-head IsWritten w ws each)) refl
    ∙ ap (λ (l : List ℕ). prefixed (instruction_line w) (text_from fuel false (at + length (bytes_of w)) l))
    (drop-append_seam (bytes_of w) (flat_map bytes_of ws))
    ∙ ap (prefixed (instruction_line w)) (lists fuel (at + length (bytes_of w)) ws (All-tail IsWritten w ws each)
    (omega (arith, size)))

pub listing : (code : List ℕ) → All (λ b. b < 256) code → (text : List ℕ) → (listed code ≡ Ok text) ↔ Spells text code
unfolding listed
listing code small text = (spells (length code) 0 code text small (omega arith), λ is. of_spelled code text is)
  where
    of_spelled : (code text : List ℕ) → Spells text code → text_from (length code) false 0 code ≡ Ok text
    of_spelled code text is =
        subst (λ (l : List ℕ). text_from (length l) false 0 l ≡ Ok text) (sym is.bytes)
        (lists (length (flat_map bytes_of is.instructions)) 0 is.instructions is.each (omega arith)
        ∙ ap (λ (l : List ℕ). Ok l) (sym is.lines))
