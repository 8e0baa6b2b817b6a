-- One turn of the loops over the chunks of a form.
use Rattle.std.proofs.Common.{◌≡◌, ◌<◌, ◌≤◌, ◌+◌, ℕ, zero, suc, Bool, true, false, List, [], ◌∷◌, ◌++◌, append_assoc}
use Rattle.std.proofs.Common.{length, Result, Ok, Err, refl, sym, ap, ◌∙◌, arith, inl, inr, cond, leb, ◌%◌}
use Rattle.std.specs.Prelude.{not, Option, Some, None, IsOk}
use Rattle.std.specs.List.{find}
use Rattle.std.proofs.lemmas.List.{append-nil}
use Rattle.std.proofs.lemmas.Bool.{cases_lt, le-leb, lt-leb}
use Rattle.iff_chunks.specs.declared.faults.IffFault.{IffFault}
use Rattle.iff_chunks.specs.declared.faults.IffFault.TheVariants.{Cut}
use Rattle.iff_chunks.specs.declared.parts.Part.{Part}
use Rattle.iff_chunks.specs.declared.parts.Sought.{Sought}
use Rattle.iff_chunks.specs.Faults.{◌>>=◌}
use Rattle.iff_chunks.specs.Chunks.{length_at, id_at, part_at, parts_from, is_sought, part_found}
use Rattle.iff_chunks.specs.Laws.{found_first}

-- the place of the next header
abbrev pub next_place : Part → ℕ
next_place part = part.at + part.len + part.len % 2

pub parts_done : (most : ℕ) (form : List ℕ) (place : ℕ) → length form ≤ place → parts_from most form place ≡ Ok []
unfolding parts_from
parts_done zero form place le = refl
parts_done (suc most) form place le = let t = le-leb _ _ le in rw t refl

guard_ok : {A : Type 0} (b : Bool) (d : IffFault) (r : Result A IffFault) (y : A) → cond b (Err d) r ≡ Ok y → r ≡ Ok y
guard_ok true d r y e = absurd cc
guard_ok false d r y e = e

abbrev start : Result Part IffFault → ℕ → ℕ
start (Ok part) d = part.at
start (Err e) d = d

part_starts : (form : List ℕ) (place : ℕ) (part : Part) → part_at form place ≡ Ok part → part.at ≡ place + 8
unfolding part_at
part_starts form place part h =
    let made : Result Part IffFault = Ok (record {
      id = id_at form place;
      at = place + 8;
      len = length_at form (place + 4);
    }) in
    let e : made ≡ Ok part = guard_ok (not (leb (place + 8 + length_at form (place + 4)) (length form))) Cut made part
    h in
    sym (ap (λ (r : Result Part IffFault). start r 0) e)

bind_same : (r : Result Part IffFault) (f g : Part → Result (List Part) IffFault)
    → ((part : Part) → r ≡ Ok part → f part ≡ g part) → (r >>= f) ≡ (r >>= g)
bind_same (Ok part) f g h = h part refl
bind_same (Err e) f g h = refl

-- how many chunks are looked for makes no difference, where it is enough
enough : (m n : ℕ) (form : List ℕ) (place : ℕ) → length form ≤ place + m → length form ≤ place + n
    → parts_from m form place ≡ parts_from n form place
unfolding parts_from
enough zero n form place a b = sym (parts_done n form place (omega arith))
enough (suc m) zero form place a b = parts_done (suc m) form place (omega arith)
enough (suc m) (suc n) form place a b =
    elim (cases_lt place (length form)) [
      | inl lt ↦ let t = lt-leb (length form) place lt in
          rw t (bind_same (part_at form place) (λ part. parts_from m form (next_place part) >>= λ parts.
          Ok (part ∷ parts)) (λ part. parts_from n form (next_place part) >>= λ parts. Ok (part ∷ parts))
          (λ part h. ap (λ (r : Result (List Part) IffFault). r >>= λ parts. Ok (part ∷ parts))
          (enough m n form (next_place part) (omega (arith, part_starts form place part h))
          (omega (arith, part_starts form place part h)))))
      | inr le ↦ parts_done (suc m) form place le ∙ sym (parts_done (suc n) form place le)
    ]

one_more : (form : List ℕ) (place : ℕ) → place < length form → parts_from (length form) form place
    ≡ (part_at form place >>= λ part. parts_from (length form) form (next_place part) >>= λ parts. Ok (part ∷ parts))
unfolding parts_from
one_more form place lt = enough (length form) (suc (length form)) form place (omega arith) (omega arith)
    ∙ (let t = lt-leb (length form) place lt in rw t refl)

-- the chunks from a place on, where there is one more, where it is cut, and where there is none
here : (form : List ℕ) (place : ℕ) (part : Part) → place < length form → part_at form place ≡ Ok part
    → parts_from (length form) form place ≡ (parts_from (length form) form (next_place part)
    >>= λ parts. Ok (part ∷ parts))
here form place part lt is = one_more form place lt ∙ rw is refl

cut : (form : List ℕ) (place : ℕ) (e : IffFault) → place < length form → part_at form place ≡ Err e
    → parts_from (length form) form place ≡ Err e
cut form place e lt is = one_more form place lt ∙ rw is refl

-- a search meets the first fault of the chunks, and where it meets none there is none
pub sought_ok : (sought : Sought) (r : Result (List Part) IffFault) (found : Option Part)
    → part_found sought r ≡ Ok found → IsOk r
sought_ok sought (Ok parts) found h = refl
sought_ok sought (Err d) found h = absurd cc

pub sought_err : (sought : Sought) (r : Result (List Part) IffFault) (e : IffFault) → part_found sought r ≡ Err e
    → r ≡ Err e
sought_err sought (Ok parts) e h = absurd cc
sought_err sought (Err d) e h = cc

pub ruleset look_turns = (sought_ok, sought_err)

-- the loop that gathers the chunks: what is read already, and then what is still read
abbrev pub ahead : List Part → Result (List Part) IffFault → Result (List Part) IffFault
ahead out r = r >>= λ parts. Ok (out ++ parts)

regroup : (out : List Part) (part : Part) (r : Result (List Part) IffFault)
    → ahead out (r >>= λ parts. Ok (part ∷ parts)) ≡ ahead (out ++ part ∷ []) r
regroup out part (Ok parts) = ap (λ (xs : List Part). Ok xs) (sym (append_assoc out (part ∷ []) parts))
regroup out part (Err e) = refl

pub part_turn : (form : List ℕ) (out : List Part) (place : ℕ) (part : Part) (t : Result (List Part) IffFault)
    → place < length form → part_at form place ≡ Ok part → ahead out (parts_from (length form) form place) ≡ t
    → ahead (out ++ part ∷ []) (parts_from (length form) form (next_place part)) ≡ t
part_turn form out place part t lt is h = sym (regroup out part (parts_from (length form) form (next_place part)))
    ∙ ap (ahead out) (sym (here form place part lt is)) ∙ h

pub fault_turn : (form : List ℕ) (out : List Part) (place : ℕ) (e : IffFault) (t : Result (List Part) IffFault)
    → place < length form → part_at form place ≡ Err e → ahead out (parts_from (length form) form place) ≡ t → t ≡ Err e
fault_turn form out place e t lt is h = sym h ∙ ap (ahead out) (cut form place e lt is)

pub done_turn : (form : List ℕ) (out : List Part) (place : ℕ) (t : Result (List Part) IffFault) → length form ≤ place
    → ahead out (parts_from (length form) form place) ≡ t → t ≡ Ok out
done_turn form out place t le h = sym h ∙ ap (ahead out) (parts_done (length form) form place le)
    ∙ ap (λ (xs : List Part). Ok xs) (append-nil out)

pub ruleset part_turns = (part_turn, fault_turn, done_turn)

-- the loop that looks for one of them: what was found, or else what is still found
abbrev or_later : Option Part → Option Part → Option Part
or_later (Some part) later = Some part
or_later None later = later

abbrev pub found_from : Sought → Option Part → Result (List Part) IffFault → Result (Option Part) IffFault
found_from sought found r = r >>= λ parts. Ok (or_later found (find (is_sought sought) parts))

later_first : (sought : Sought) (found : Option Part) (part : Part) (parts : List Part)
    → or_later found (find (is_sought sought) (part ∷ parts))
    ≡ or_later (found_first sought found part) (find (is_sought sought) parts)
later_first sought (Some found) part parts = refl
later_first sought None part parts = elim (is_sought sought part) as
    (λ b. cond b (Some part) (find (is_sought sought) parts)
    ≡ or_later (cond b (Some part) None) (find (is_sought sought) parts)) [ true ↦ refl | false ↦ refl ]

found_cons : (sought : Sought) (found : Option Part) (part : Part) (r : Result (List Part) IffFault)
    → found_from sought found (r >>= λ parts. Ok (part ∷ parts)) ≡ found_from sought (found_first sought found part) r
found_cons sought found part (Ok parts) = ap (λ (x : Option Part). Ok x) (later_first sought found part parts)
found_cons sought found part (Err e) = refl

or_none : (found : Option Part) → or_later found None ≡ found
or_none (Some part) = refl
or_none None = refl

pub find_turn : (form : List ℕ) (sought : Sought) (found next : Option Part) (place : ℕ) (part : Part)
    (t : Result (Option Part) IffFault) → place < length form → part_at form place ≡ Ok part
    → next ≡ found_first sought found part → found_from sought found (parts_from (length form) form place) ≡ t
    → found_from sought next (parts_from (length form) form (next_place part)) ≡ t
find_turn form sought found next place part t lt is next_is h =
    rw next_is (sym (found_cons sought found part (parts_from (length form) form (next_place part)))
    ∙ ap (found_from sought found) (sym (here form place part lt is)) ∙ h)

pub find_fault : (form : List ℕ) (sought : Sought) (found : Option Part) (place : ℕ) (e : IffFault)
    (t : Result (Option Part) IffFault) → place < length form → part_at form place ≡ Err e
    → found_from sought found (parts_from (length form) form place) ≡ t → t ≡ Err e
find_fault form sought found place e t lt is h = sym h ∙ ap (found_from sought found) (cut form place e lt is)

pub find_done : (form : List ℕ) (sought : Sought) (found : Option Part) (place : ℕ)
    (t : Result (Option Part) IffFault) → length form ≤ place
    → found_from sought found (parts_from (length form) form place) ≡ t → t ≡ Ok found
find_done form sought found place t le h =
    sym h ∙ ap (found_from sought found) (parts_done (length form) form place le)
    ∙ ap (λ (x : Option Part). Ok x) (or_none found)

pub ruleset find_turns = (find_turn, find_fault, find_done)
