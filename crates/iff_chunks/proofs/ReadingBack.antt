-- The chunks that a form is written from are read from it.
use Rattle.std.proofs.Common.{◌≡◌, ◌<◌, ◌≤◌, ◌+◌, ◌*◌, ◌/◌, ◌%◌, ◌^◌, ℕ, zero, suc, true, List, [], ◌∷◌, ◌++◌}
use Rattle.std.proofs.Common.{append_assoc, length, take, drop, get_or, replicate, Result, Ok, Err, refl, sym, ap}
use Rattle.std.proofs.Common.{◌∙◌, arith, leb, length-append, map, subst, eq-eqb}
use Rattle.std.proofs.lemmas.List.{take_at, length-replicate, take_all}
use Rattle.std.proofs.lemmas.Bool.{le-leb, lt-leb}
use Rattle.std.proofs.lemmas.Grind.{common_steps}
use Rattle.std.specs.Prelude.{nat_eq}
use Rattle.std.specs.List.{flat_map, starts_with, AllByRecursion}
use Rattle.std.specs.Str.{bytes_eq}
use Rattle.iff_chunks.specs.declared.faults.IffFault.{IffFault}
use Rattle.iff_chunks.specs.declared.parts.Part.{Part}
use Rattle.iff_chunks.specs.Faults.{◌>>=◌}
use Rattle.iff_chunks.specs.Chunks.{length_at, id_at, part_at, parts_from, form_in, chunks, body}
use Rattle.iff_chunks.specs.Writing.{Chunk, bytes_of_length, bytes_of_chunk, bytes_of_form}
use Rattle.iff_chunks.specs.Laws.{chunk_of, chunks_in, IsChunk, ReadsBack}
use Rattle.iff_chunks.proofs.Reading.{next_place, parts_done}

digits : (v : ℕ) → v < 2 ^ 32 → ((v / 2 ^ 24 % 256) * 256 + v / 2 ^ 16 % 256) * 65536
    + ((v / 2 ^ 8 % 256) * 256 + v % 256) ≡ v
digits v h = omega arith

id_behind : (xs ys : List ℕ) → id_at (xs ++ ys) (length xs) ≡ id_at ys 0
id_behind xs ys = grind (arith, common_steps)

length_behind : (xs ys : List ℕ) (a : ℕ) → length_at (xs ++ ys) (length xs + a) ≡ length_at ys a
length_behind xs ys a = grind (arith, common_steps)

drop_behind : (xs ys : List ℕ) (n : ℕ) → drop (length xs + n) (xs ++ ys) ≡ drop n ys
drop_behind [] ys n = let e : 0 + n ≡ n = omega arith in rw e refl
drop_behind (x ∷ xs) ys n = let e : suc (length xs) + n ≡ suc (length xs + n) = omega arith in
    rw e (drop_behind xs ys n)

-- the bytes of a chunk with its four letters, and what follows it
abbrev four : ℕ → ℕ → ℕ → ℕ → List ℕ → List ℕ → List ℕ
four a b c d content rest = a ∷ b ∷ c ∷ d
    ∷ (bytes_of_length (length content) ++ (content ++ (replicate (length content % 2) 0 ++ rest)))

read_four : (front : List ℕ) (a b c d : ℕ) (content rest : List ℕ) → length content < 2 ^ 32
    → part_at (front ++ four a b c d content rest) (length front)
    ≡ Ok (record { id = a ∷ b ∷ c ∷ d ∷ []; at = length front + 8; len = length content })
unfolding part_at
read_four front a b c d content rest small =
    let w = front ++ four a b c d content rest in
    let size : length w ≡ length front + (8 + (length content + length (replicate (length content % 2) 0 ++ rest))) =
    omega (
      arith,
      length-append front (four a b c d content rest),
      length-append content (replicate (length content % 2) 0 ++ rest),
    ) in
    let number : length_at w (length front + 4) ≡ length content = length_behind front (four a b c d content rest) 4
    ∙ digits (length content) small in
    let two : leb (length front + 8 + length content) (length w) ≡ true = le-leb _ _ (omega arith) in
    let name : id_at w (length front) ≡ a ∷ b ∷ c ∷ d ∷ [] = id_behind front (four a b c d content rest) in
    rw (number, two, name) refl

body_four : (front : List ℕ) (a b c d : ℕ) (content rest : List ℕ)
    → take (length content) (drop (length front + 8) (front ++ four a b c d content rest)) ≡ content
body_four front a b c d content rest = ap (take (length content)) (drop_behind front (four a b c d content rest) 8)
    ∙ take_at content (replicate (length content % 2) 0 ++ rest) (length content) refl

id_four : (xs : List ℕ) → length xs ≡ 4 → xs ≡ get_or xs 0 0 ∷ get_or xs 1 0 ∷ get_or xs 2 0 ∷ get_or xs 3 0 ∷ []
id_four [] h = absurd (omega arith)
id_four (a ∷ []) h = absurd (omega arith)
id_four (a ∷ b ∷ []) h = absurd (omega arith)
id_four (a ∷ b ∷ c ∷ []) h = absurd (omega arith)
id_four (a ∷ b ∷ c ∷ d ∷ []) h = refl
id_four (a ∷ b ∷ c ∷ d ∷ e ∷ xs) h = absurd (omega arith)

chunk_four : (chunk : Chunk) (rest : List ℕ) → length chunk.id ≡ 4 → bytes_of_chunk chunk ++ rest
    ≡ four (get_or chunk.id 0 0) (get_or chunk.id 1 0) (get_or chunk.id 2 0) (get_or chunk.id 3 0) chunk.body rest
unfolding bytes_of_chunk
chunk_four chunk rest h =
    let e = id_four chunk.id h in
    ap (λ (id : List ℕ). (id ++ (bytes_of_length (length chunk.body)
    ++ (chunk.body ++ replicate (length chunk.body % 2) 0))) ++ rest) e
    ∙ ap (λ (tail : List ℕ). get_or chunk.id 0 0 ∷ get_or chunk.id 1 0 ∷ get_or chunk.id 2 0 ∷ get_or chunk.id 3 0
    ∷ (bytes_of_length (length chunk.body) ++ tail))
    (append_assoc chunk.body (replicate (length chunk.body % 2) 0) rest)

pub length-bytes_of_chunk : (chunk : Chunk) → length chunk.id ≡ 4
    → length (bytes_of_chunk chunk) ≡ 8 + length chunk.body + length chunk.body % 2
unfolding bytes_of_chunk
length-bytes_of_chunk chunk h = omega (
  arith,
  length-append chunk.id (bytes_of_length (length chunk.body)
      ++ (chunk.body ++ replicate (length chunk.body % 2) 0)),
  length-append chunk.body (replicate (length chunk.body % 2) 0),
  length-replicate {A = ℕ} (length chunk.body % 2) 0,
)

parts_next : (most : ℕ) (w : List ℕ) (place : ℕ) (part : Part) → place < length w → part_at w place ≡ Ok part
    → parts_from (suc most) w place ≡ (parts_from most w (next_place part) >>= λ parts. Ok (part ∷ parts))
unfolding parts_from
parts_next most w place part lt is = let t = lt-leb _ _ lt in rw (t, is) refl

-- the chunks that were read, with their bodies
abbrev with_bodies : List ℕ → Result (List Part) IffFault → Result (List Chunk) IffFault
with_bodies w r = r >>= λ parts. Ok (map (chunk_of w) parts)

regroup : (w : List ℕ) (part : Part) (r : Result (List Part) IffFault)
    → with_bodies w (r >>= λ parts. Ok (part ∷ parts)) ≡ (with_bodies w r >>= λ chunks. Ok (chunk_of w part ∷ chunks))
regroup w part (Ok parts) = refl
regroup w part (Err e) = refl

pair_is : {a b c d : List ℕ} → a ≡ c → b ≡ d → (let p : List ℕ × List ℕ = (a, b) in p) ≡ (c, d)
pair_is p q = cc

again : (chunks : List Chunk) (most : ℕ) (front w : List ℕ) → w ≡ front ++ flat_map bytes_of_chunk chunks
    → length w ≤ length front + most → AllByRecursion IsChunk chunks
    → with_bodies w (parts_from most w (length front)) ≡ Ok chunks
again [] most front w e few fits = let d =
    parts_done most w (length front) (omega (arith, ap length e, length-append front [])) in rw d refl
again (chunk ∷ chunks) zero front w e few fits =
    absurd (omega (
      arith,
      ap length e,
      length-append front (bytes_of_chunk chunk ++ flat_map bytes_of_chunk chunks),
      length-append (bytes_of_chunk chunk) (flat_map bytes_of_chunk chunks),
      length-bytes_of_chunk chunk fits.0.0,
    ))
again (chunk ∷ chunks) (suc m) front w e few fits =
    let rest = flat_map bytes_of_chunk chunks in
    let a = get_or chunk.id 0 0 in
    let b = get_or chunk.id 1 0 in
    let c = get_or chunk.id 2 0 in
    let d = get_or chunk.id 3 0 in
    let whole : w ≡ front ++ four a b c d chunk.body rest =
    e ∙ ap (λ (x : List ℕ). front ++ x) (chunk_four chunk rest fits.0.0) in
    let part : Part = record { id = a ∷ b ∷ c ∷ d ∷ []; at = length front + 8; len = length chunk.body } in
    let long = length-bytes_of_chunk chunk fits.0.0 in
    let size : length w ≡ length front + (length (bytes_of_chunk chunk) + length rest) =
    omega (
      arith,
      ap length e,
      length-append front (bytes_of_chunk chunk ++ rest),
      length-append (bytes_of_chunk chunk) rest,
    ) in
    let read : part_at w (length front) ≡ Ok part = subst (λ (x : List ℕ). part_at x (length front) ≡ Ok part)
    (sym whole) (read_four front a b c d chunk.body rest fits.0.1) in
    let content : body w part ≡ chunk.body =
    subst (λ (x : List ℕ). take (length chunk.body) (drop (length front + 8) x) ≡ chunk.body) (sym whole)
    (body_four front a b c d chunk.body rest) in
    let same : chunk_of w part ≡ chunk = ap (λ (x : List ℕ × List ℕ). record { id = x.0; body = x.1 })
    (let i : a ∷ b ∷ c ∷ d ∷ [] ≡ chunk.id = sym (id_four chunk.id fits.0.0) in pair_is i content) in
    let next : length (front ++ bytes_of_chunk chunk) ≡ next_place part =
    omega (arith, length-append front (bytes_of_chunk chunk)) in
    let tail : with_bodies w (parts_from m w (next_place part)) ≡ Ok chunks =
    subst (λ (k : ℕ). with_bodies w (parts_from m w k) ≡ Ok chunks) next
    (again chunks m (front ++ bytes_of_chunk chunk) w (e ∙ sym (append_assoc front (bytes_of_chunk chunk) rest))
    (omega (arith, length-append front (bytes_of_chunk chunk))) fits.1) in
    ap (with_bodies w) (parts_next m w (length front) part (omega arith) read)
    ∙ regroup w part (parts_from m w (next_place part)) ∙ rw (tail, same) refl

whole_form : (w kind : List ℕ) (n : ℕ) → length_at w 4 ≡ n → leb 12 (length w) ≡ true
    → starts_with nat_eq w (70 ∷ 79 ∷ 82 ∷ 77 ∷ []) ≡ true → bytes_eq (id_at w 8) kind ≡ true → leb 4 n ≡ true
    → leb (8 + n) (length w) ≡ true → take (8 + n) w ≡ w → chunks w kind ≡ parts_from (length w) w 12
unfolding chunks form_in
whole_form w kind n number t1 t0 t2 t3 t4 all = rw (number, t1, t0, t2, t3, t4, all) refl

same_four : (a b c d : ℕ) → bytes_eq (a ∷ b ∷ c ∷ d ∷ []) (a ∷ b ∷ c ∷ d ∷ []) ≡ true
same_four a b c d = rw (eq-eqb a a refl, eq-eqb b b refl, eq-eqb c c refl, eq-eqb d d refl) refl

form_four : (a b c d : ℕ) (chunks : List Chunk) → AllByRecursion IsChunk chunks
    → 4 + length (flat_map bytes_of_chunk chunks) < 2 ^ 32
    → chunks_in (bytes_of_form (a ∷ b ∷ c ∷ d ∷ []) chunks) (a ∷ b ∷ c ∷ d ∷ []) ≡ Ok chunks
unfolding bytes_of_form
form_four a b c d chunks fits small =
    let kind : List ℕ = a ∷ b ∷ c ∷ d ∷ [] in
    let w = bytes_of_form kind chunks in
    let n = 4 + length (flat_map bytes_of_chunk chunks) in
    let read = whole_form w kind n (digits n small) (le-leb _ _ (omega arith)) refl (same_four a b c d)
    (le-leb _ _ (omega arith)) (le-leb _ _ (omega arith)) (take_all (8 + n) w (omega arith)) in
    ap (with_bodies w) read ∙ again chunks (length w) (70 ∷ 79 ∷ 82 ∷ 77 ∷ (bytes_of_length n ++ kind)) w refl
    (omega arith) fits

pub reads_back : ReadsBack
reads_back kind chunks form =
    let e = id_four kind form.kind_whole in
    let P : List ℕ → Type 0 = λ kind. chunks_in (bytes_of_form kind chunks) kind ≡ Ok chunks in
    subst P (sym e) (form_four (get_or kind 0 0) (get_or kind 1 0) (get_or kind 2 0)
    (get_or kind 3 0) chunks form.chunks_whole form.small)
