-- A list of bytes and its parts between the places of a mark.
use Rattle.std.proofs.Common.{◌≡◌, ◌==◌, ◌&&◌, if◌then◌else◌, ℕ, Bool, true, false, List, [], ◌∷◌, ◌++◌, refl, sym}
use Rattle.std.proofs.Common.{ap, ◌∙◌, eq-eqb}
use Rattle.std.specs.List.{slice_split, join_with_byte}
use Rattle.std.proofs.lemmas.List.{append-nil}
use Rattle.std.proofs.lemmas.List.Splits.{join_with_byte-slice_split}

-- the mark stands nowhere in a list
abbrev pub lacks : ℕ → List ℕ → Bool
lacks mark [] = true
lacks mark (x ∷ xs) = if x == mark then false else lacks mark xs

abbrev pub all_lack : ℕ → List (List ℕ) → Bool
all_lack mark [] = true
all_lack mark (part ∷ parts) = lacks mark part && all_lack mark parts

-- parts, each behind a mark
abbrev pub behind : ℕ → List (List ℕ) → List ℕ
behind mark [] = []
behind mark (part ∷ parts) = mark ∷ (part ++ behind mark parts)

pub both : (a b : Bool) → (a && b) ≡ true → (a ≡ true) × (b ≡ true)
both true b h = (refl, h)
both false b h = absurd cc

unlike : (b r : Bool) → (if b then false else r) ≡ true → (b ≡ false) × (r ≡ true)
unlike false r h = (refl, h)
unlike true r h = absurd cc

pub lacks-append : (mark : ℕ) (xs ys : List ℕ) → lacks mark xs ≡ true → lacks mark ys ≡ true
    → lacks mark (xs ++ ys) ≡ true
lacks-append mark [] ys l m = m
lacks-append mark (x ∷ xs) ys l m =
    let here = unlike (x == mark) (lacks mark xs) l in
    rw (here.0) (lacks-append mark xs ys here.1 m)

pub split_first : (mark : ℕ) (xs rest : List ℕ) → lacks mark xs ≡ true
    → slice_split (λ b. b == mark) (xs ++ mark ∷ rest) ≡ xs ∷ slice_split (λ b. b == mark) rest
split_first mark [] rest l = rw (eq-eqb mark mark refl) refl
split_first mark (x ∷ xs) rest l =
    let here = unlike (x == mark) (lacks mark xs) l in
    rw (here.0, split_first mark xs rest here.1) refl

pub split_none : (mark : ℕ) (xs : List ℕ) → lacks mark xs ≡ true → slice_split (λ b. b == mark) xs ≡ xs ∷ []
split_none mark [] l = refl
split_none mark (x ∷ xs) l =
    let here = unlike (x == mark) (lacks mark xs) l in
    rw (here.0, split_none mark xs here.1) refl

-- the parts of a list that is made of parts
pub split_parts : (mark : ℕ) (first : List ℕ) (parts : List (List ℕ)) → lacks mark first ≡ true
    → all_lack mark parts ≡ true
    → slice_split (λ b. b == mark) (first ++ behind mark parts) ≡ first ∷ parts
split_parts mark first [] l all = rw (append-nil first) (split_none mark first l)
split_parts mark first (part ∷ parts) l all =
    let here = both (lacks mark part) (all_lack mark parts) all in
    split_first mark first (part ++ behind mark parts) l
    ∙ ap (λ (rest : List (List ℕ)). first ∷ rest) (split_parts mark part parts here.0 here.1)

joined : (mark : ℕ) (first : List ℕ) (parts : List (List ℕ))
    → join_with_byte mark (first ∷ parts) ≡ first ++ behind mark parts
joined mark first [] = sym (append-nil first)
joined mark first (part ∷ parts) = ap (λ (rest : List ℕ). first ++ mark ∷ rest) (joined mark part parts)

-- and the list that is made of its parts
pub parts_join : (mark : ℕ) (xs first : List ℕ) (parts : List (List ℕ))
    → slice_split (λ b. b == mark) xs ≡ first ∷ parts → xs ≡ first ++ behind mark parts
parts_join mark xs first parts is = sym (join_with_byte-slice_split mark xs) ∙ ap (join_with_byte mark) is
    ∙ joined mark first parts

-- there is a first part
by_mark : (b : Bool) (x : ℕ) (xs : List ℕ) (mark : ℕ) → (x == mark) ≡ b
    → (first : List ℕ) × (parts : List (List ℕ)) × (slice_split (λ b. b == mark) xs ≡ first ∷ parts)
    → (first : List ℕ) × (parts : List (List ℕ)) × (slice_split (λ b. b == mark) (x ∷ xs) ≡ first ∷ parts)
by_mark true x xs mark test (first, parts, is) = ([], slice_split (λ b. b == mark) xs, rw test refl)
by_mark false x xs mark test (first, parts, is) = (x ∷ first, parts, rw (test, is) refl)

pub split_some : (mark : ℕ) (xs : List ℕ) → (first : List ℕ) × (parts : List (List ℕ))
    × (slice_split (λ b. b == mark) xs ≡ first ∷ parts)
split_some mark [] = ([], [], refl)
split_some mark (x ∷ xs) = by_mark (x == mark) x xs mark refl (split_some mark xs)

-- a mark at the end makes one more part, which is empty
ends_by : (b : Bool) (x : ℕ) (xs : List ℕ) (mark : ℕ) → (x == mark) ≡ b
    → slice_split (λ b. b == mark) (xs ++ mark ∷ []) ≡ slice_split (λ b. b == mark) xs ++ [] ∷ []
    → slice_split (λ b. b == mark) (x ∷ (xs ++ mark ∷ [])) ≡ slice_split (λ b. b == mark) (x ∷ xs) ++ [] ∷ []
ends_by true x xs mark test is = rw (test, is) refl
ends_by false x xs mark test is =
    let some = split_some mark xs in
    rw (test, is, some.2) refl

pub split_ended : (mark : ℕ) (xs : List ℕ)
    → slice_split (λ b. b == mark) (xs ++ mark ∷ []) ≡ slice_split (λ b. b == mark) xs ++ [] ∷ []
split_ended mark [] = rw (eq-eqb mark mark refl) refl
split_ended mark (x ∷ xs) = ends_by (x == mark) x xs mark refl (split_ended mark xs)
