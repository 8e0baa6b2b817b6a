-- One turn of the search for the entry that names the story.
use Rattle.std.proofs.Common.{◌≡◌, ◌<◌, ◌≤◌, ◌+◌, ◌-◌, ◌*◌, ℕ, suc, true, false, List, ◌∷◌, Option, Some, None, refl}
use Rattle.std.proofs.Common.{sym, ap, ◌∙◌, arith}
use Rattle.std.specs.List.{find}
use Rattle.gx_story.specs.declared.blorbs.Entry.{Entry}
use Rattle.gx_story.specs.Blorbs.{entries_from, is_story}
use Rattle.iff_chunks.specs.Chunks.{id_at}
use Rattle.gx_words.specs.Numbers.{word}

-- the entry at a place of an index
abbrev pub entry_at : List ℕ → ℕ → Entry
entry_at index at = record { usage = id_at index at; number = word index (at + 4); start = word index (at + 8) }

one_entry : (index : List ℕ) (count i : ℕ) → i < count → entries_from (count - i) index (4 + 12 * i)
    ≡ entry_at index (4 + 12 * i) ∷ entries_from (count - (i + 1)) index (4 + 12 * (i + 1))
unfolding entries_from
one_entry index count i lt =
    let left : count - i ≡ suc (count - (i + 1)) = omega arith in
    let next : 4 + 12 * i + 12 ≡ 4 + 12 * (i + 1) = omega arith in
    rw (left, ← next) refl

first_passes : (entry : Entry) (rest : List Entry) → is_story entry ≡ true → find is_story (entry ∷ rest) ≡ Some entry
first_passes entry rest passes = rw passes refl

first_fails : (entry : Entry) (rest : List Entry) → is_story entry ≡ false
    → find is_story (entry ∷ rest) ≡ find is_story rest
first_fails entry rest fails = rw fails refl

-- the search with its first entry named
named : (index : List ℕ) (count i : ℕ) (entry : Entry) → i < count → entry ≡ entry_at index (4 + 12 * i)
    → find is_story (entries_from (count - i) index (4 + 12 * i))
    ≡ find is_story (entry ∷ entries_from (count - (i + 1)) index (4 + 12 * (i + 1)))
named index count i entry lt is =
    let rest = entries_from (count - (i + 1)) index (4 + 12 * (i + 1)) in
    ap (λ (entries : List Entry). find is_story entries) (one_entry index count i lt)
    ∙ ap (λ (e : Entry). find is_story (e ∷ rest)) (sym is)

pub entry_found : (index : List ℕ) (count i : ℕ) (entry : Entry) (t : Option Entry) → i < count
    → entry ≡ entry_at index (4 + 12 * i) → is_story entry ≡ true
    → find is_story (entries_from (count - i) index (4 + 12 * i)) ≡ t → Some entry ≡ t
entry_found index count i entry t lt is passes h =
    sym (first_passes entry (entries_from (count - (i + 1)) index (4 + 12 * (i + 1))) passes)
    ∙ sym (named index count i entry lt is) ∙ h

pub entry_passed : (index : List ℕ) (count i : ℕ) (entry : Entry) (t : Option Entry) → i < count
    → entry ≡ entry_at index (4 + 12 * i) → is_story entry ≡ false
    → find is_story (entries_from (count - i) index (4 + 12 * i)) ≡ t
    → find is_story (entries_from (count - (i + 1)) index (4 + 12 * (i + 1))) ≡ t
entry_passed index count i entry t lt is fails h =
    sym (first_fails entry (entries_from (count - (i + 1)) index (4 + 12 * (i + 1))) fails)
    ∙ sym (named index count i entry lt is) ∙ h

pub entries_done : (index : List ℕ) (count i : ℕ) (t : Option Entry) → count ≤ i
    → find is_story (entries_from (count - i) index (4 + 12 * i)) ≡ t → None ≡ t
unfolding entries_from
entries_done index count i t le h =
    let none : count - i ≡ 0 = omega arith in
    let f : find is_story (entries_from (count - i) index (4 + 12 * i)) ≡ None = rw none refl in
    sym f ∙ h

pub ruleset entry_turns = (entry_found, entry_passed, entries_done)
