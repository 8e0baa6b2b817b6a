-- A piece of what is left of a list.
use Rattle.std.proofs.Common.{◌≡◌, ℕ, ◌+◌, ◌-◌, ◌<◌, ◌≤◌, min, List, [], ◌++◌, length, take, drop, ap, sym, ◌∙◌, arith}
use Rattle.std.proofs.lemmas.List.{take-append-drop, drop-drop}
use Rattle.std.proofs.lemmas.Grind.{common_steps}
use Rattle.gx_outside.specs.Reads.{TakesFront}

-- from a place to the end is all that is left there
pub take_all-drop : (at : ℕ) (xs : List ℕ) → take (length xs - at) (drop at xs) ≡ drop at xs
take_all-drop at xs = grind (arith, common_steps)

front_again : (n : ℕ) (xs ys : List ℕ) → n ≤ length xs → take n (take n xs ++ ys) ≡ take n xs
front_again n xs ys fits = grind (arith, common_steps)

-- A piece of `n` items, copied over the front of a slice, is what was next.
front : (n : ℕ) (left into : List ℕ) → n ≤ length left → left ≡ take n (take n left ++ drop n into) ++ drop n left
front n left into fits = rw (front_again n left (drop n into) fits) (sym (take-append-drop n left))

-- a piece of no bytes says that nothing is left
end : (n piece : ℕ) (left into : List ℕ) → n ≡ min (min (length into) piece) (length left) → 1 ≤ piece
    → take n (take n left ++ drop n into) ≡ [] → 0 < length into → left ≡ []
end n piece left into size some none room =
    let fits : n ≤ length left = omega arith in
    let count : length (take n left) ≡ 0 = ap length (sym (front_again n left (drop n into) fits) ∙ none) in
    grind (arith, common_steps)

reads : (n piece : ℕ) (left into : List ℕ) → n ≡ min (min (length into) piece) (length left) → 1 ≤ piece
    → TakesFront left (drop n left) (length into) (take n (take n left ++ drop n into))
reads n piece left into size some = record {
  next = front n left into (omega arith);
  end = end n piece left into size some;
}

-- What a read of a source in memory does: `ds` are the bytes as a slice, of which the part from `at` on is read.
pub reads_front : (at n piece most : ℕ) (bytes ds left into copied : List ℕ) → drop at bytes ≡ left → ds ≡ bytes
    → copied ≡ take n (take (length ds - at) (drop at ds)) → most ≡ min (length into) piece
    → n ≡ min most (length (take (length ds - at) (drop at ds))) → 1 ≤ piece
    → TakesFront left (drop (at + n) bytes) (length into) (take n (copied ++ drop n into))
reads_front at n piece most bytes ds left into copied is same copy bound size some =
    let all : take (length ds - at) (drop at ds) ≡ left = take_all-drop at ds ∙ ap (drop at) same ∙ is in
    let rest : drop (at + n) bytes ≡ drop n left = sym (drop-drop n at bytes) ∙ ap (drop n) is in
    rw (rest, copy, all) (reads n piece left into
    (size ∙ ap (λ (m : ℕ). min m (length (take (length ds - at) (drop at ds)))) bound
    ∙ ap (λ (xs : List ℕ). min (min (length into) piece) (length xs)) all) some)
