-- The names of the instructions are told apart, and hold no blank and no line feed: seen by looking at the whole table.
use Rattle.std.proofs.Common.{◌≡◌, ◌<◌, ◌+◌, ◌==◌, ◌&&◌, ℕ, zero, suc, Bool, true, List, [], ◌∷◌, length, get_or}
use Rattle.std.proofs.Common.{refl, sym, ap, ◌∙◌, inl, inr, arith, Some}
use Rattle.std.specs.Str.{bytes_eq}
use Rattle.std.proofs.lemmas.Bool.{cases_lt, eqb-true, lt-ltb, le-ltb}
use Rattle.std.proofs.lemmas.List.Sums.{passes_at_first}
use Rattle.std.proofs.lemmas.Slice.Eq.{bytes_eq-Decides}
use Rattle.gx_rows.specs.Table.{row_count}
use Rattle.gx_asm.specs.Names.{instruction_names, names, name_at, first_named, place_named}
use Rattle.gx_asm.specs.Instructions.{blank}
use Rattle.gx_words.specs.Constants.{line_feed}
use Rattle.gx_asm.proofs.Words.{both, lacks, all_lack}

pub names_counted : length names ≡ row_count
unfolding instruction_names
names_counted = refl

-- each of the names from a place on stands first at its own place
abbrev stand_from : ℕ → List (List ℕ) → Bool
stand_from place [] = true
stand_from place (name ∷ rest) = (first_named name == place) && stand_from (place + 1) rest

all_stand : stand_from 0 names ≡ true
unfolding instruction_names
all_stand = refl

stands : (first i : ℕ) (rest : List (List ℕ)) → stand_from first rest ≡ true → i < length rest
    → first_named (get_or rest i []) ≡ first + i
stands first i [] all within = absurd (omega arith)
stands first zero (name ∷ rest) all within =
    eqb-true _ _ (both (first_named name == first) (stand_from (first + 1) rest) all).0 ∙ omega arith
stands first (suc i) (name ∷ rest) all within =
    stands (first + 1) i rest (both (first_named name == first) (stand_from (first + 1) rest) all).1 (omega arith)
    ∙ omega arith

-- the name at a place has that place
pub name_found : (place : ℕ) → place < row_count → place_named (name_at place) ≡ Some place
unfolding place_named
name_found place within =
    let here : first_named (name_at place) ≡ place = stands 0 place names all_stand (omega (arith, names_counted))
    ∙ omega arith in
    rw (here, lt-ltb place row_count within) refl

-- and a name that has a place stands there
pub named_there : (name : List ℕ) (place : ℕ) → place_named name ≡ Some place
    → (place < row_count) × (name_at place ≡ name)
unfolding place_named
named_there name place is =
    elim (cases_lt (first_named name) row_count) [
      | inl less ↦
          let test = lt-ltb (first_named name) row_count less in
          let h = rw test at is in
          let e : first_named name ≡ place = cc in
          let passes = passes_at_first (λ known. bytes_eq known name) names [] (omega (arith, names_counted, less)) in
          let same : get_or names (first_named name) [] ≡ name = (bytes_eq-Decides _ name).0 passes in
          (omega (arith, e, less), ap (λ (k : ℕ). get_or names k []) (sym e) ∙ same)
      | inr more ↦
          let test = le-ltb (first_named name) row_count more in
          let h = rw test at is in
          absurd cc
    ]

-- no name has a mark
lacks_at : (mark place : ℕ) (all : List (List ℕ)) → all_lack mark all ≡ true → lacks mark (get_or all place []) ≡ true
lacks_at mark place [] h = refl
lacks_at mark zero (name ∷ rest) h = (both (lacks mark name) (all_lack mark rest) h).0
lacks_at mark (suc place) (name ∷ rest) h = lacks_at mark place rest (both (lacks mark name) (all_lack mark rest) h).1

all_lack_blank : all_lack blank names ≡ true
unfolding instruction_names
all_lack_blank = refl

all_lack_line_feed : all_lack line_feed names ≡ true
unfolding instruction_names
all_lack_line_feed = refl

pub name_lacks_blank : (place : ℕ) → lacks blank (name_at place) ≡ true
name_lacks_blank place = lacks_at blank place names all_lack_blank

pub name_lacks_line_feed : (place : ℕ) → lacks line_feed (name_at place) ≡ true
name_lacks_line_feed place = lacks_at line_feed place names all_lack_line_feed
