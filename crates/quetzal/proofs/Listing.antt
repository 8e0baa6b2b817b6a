-- One turn of each loop over the blocks of a save.
use Rattle.std.proofs.Common.{◌≡◌, ◌≢◌, ◌<◌, ◌≤◌, ◌+◌, ◌-◌, ◌*◌, ℕ, suc, Bool, true, false, List, [], ◌∷◌, ◌++◌}
use Rattle.std.proofs.Common.{append_assoc, length, drop, get_or, refl, sym, ap, ◌∙◌, arith, ltb as nat_lt}
use Rattle.std.proofs.Common.{leb as nat_le, eqb as nat_eq}
use Rattle.std.specs.Prelude.{◌&&◌}
use Rattle.std.specs.List.{list_all}
use Rattle.std.proofs.lemmas.Bool.{le-ltb, lt-ltb, le-leb, lt-leb}
use Rattle.std.proofs.lemmas.Bool.Decides.{nat_tests}
use Rattle.std.proofs.lemmas.List.{append-nil, drop_more, drop_all}
use Rattle.gx_words.specs.Numbers.{word}
use Rattle.heap_blocks.specs.Heap.{Block}
use Rattle.quetzal.specs.Blocks.{blocks_from, has_count, rises}
use Rattle.quetzal.specs.Laws.{is_block}

-- a chunk that is too short for its header has no count
pub uncounted : (body : List ℕ) (len : ℕ) → len ≡ length body → len < 8 → false ≡ has_count body
uncounted body len is short =
    let no : nat_eq (length body) (8 + 8 * word body 4) ≡ false = grind (arith, nat_tests, is, short) in
    rw no refl

-- the block at an index, and those behind it
abbrev at_index : List ℕ → ℕ → Block
at_index body index = (word body (8 + 8 * index), word body (8 + 8 * index + 4))

pub one_block : (body : List ℕ) (count i : ℕ) → i < count → blocks_from (count - i) body (8 + 8 * i)
    ≡ at_index body i ∷ blocks_from (count - (i + 1)) body (8 + 8 * (i + 1))
unfolding blocks_from
one_block body count i lt =
    let left : count - i ≡ suc (count - (i + 1)) = omega arith in
    let next : 8 + 8 * i + 8 ≡ 8 + 8 * (i + 1) = omega arith in
    rw (left, ← next) refl

no_block : (body : List ℕ) (count i : ℕ) → count ≤ i → blocks_from (count - i) body (8 + 8 * i) ≡ []
unfolding blocks_from
no_block body count i le = let none : count - i ≡ 0 = omega arith in rw none refl

-- blocks that are gathered
pub block_gathered : (body : List ℕ) (all total : List Block) (count i : ℕ) → i < count
    → all ++ blocks_from (count - i) body (8 + 8 * i) ≡ total
    → (all ++ at_index body i ∷ []) ++ blocks_from (count - (i + 1)) body (8 + 8 * (i + 1)) ≡ total
block_gathered body all total count i lt h =
    append_assoc all (at_index body i ∷ []) _ ∙ ap (λ (bs : List Block). all ++ bs) (sym (one_block body count i lt))
    ∙ h

pub all_gathered : (body : List ℕ) (all total : List Block) (count i : ℕ) → count ≤ i
    → all ++ blocks_from (count - i) body (8 + 8 * i) ≡ total → all ≡ total
all_gathered body all total count i le h =
    sym (append-nil all) ∙ ap (λ (bs : List Block). all ++ bs) (sym (no_block body count i le)) ∙ h

pub ruleset gather_turns = (block_gathered, all_gathered)

-- blocks that are looked at one by one
pub within_goes_on : (start size : ℕ) (b : Block) (body : List ℕ) (count i : ℕ) (t : Bool) → i < count
    → b ≡ at_index body i → is_block start size b ≡ true
    → list_all (is_block start size) (blocks_from (count - i) body (8 + 8 * i)) ≡ t
    → list_all (is_block start size) (blocks_from (count - (i + 1)) body (8 + 8 * (i + 1))) ≡ t
within_goes_on start size b body count i t lt is within h =
    let one : list_all (is_block start size) (blocks_from (count - i) body (8 + 8 * i))
    ≡ list_all (is_block start size) (b ∷ blocks_from (count - (i + 1)) body (8 + 8 * (i + 1))) =
    rw (one_block body count i lt, is) refl in
    let two : list_all (is_block start size) (b ∷ blocks_from (count - (i + 1)) body (8 + 8 * (i + 1)))
    ≡ list_all (is_block start size) (blocks_from (count - (i + 1)) body (8 + 8 * (i + 1))) = rw within refl in
    sym (one ∙ two) ∙ h

pub within_ends : (start size : ℕ) (b : Block) (body : List ℕ) (count i : ℕ) (t : Bool) → i < count
    → b ≡ at_index body i → is_block start size b ≡ false
    → list_all (is_block start size) (blocks_from (count - i) body (8 + 8 * i)) ≡ t → false ≡ t
within_ends start size b body count i t lt is outside h =
    let one : list_all (is_block start size) (blocks_from (count - i) body (8 + 8 * i))
    ≡ list_all (is_block start size) (b ∷ blocks_from (count - (i + 1)) body (8 + 8 * (i + 1))) =
    rw (one_block body count i lt, is) refl in
    let two : list_all (is_block start size) (b ∷ blocks_from (count - (i + 1)) body (8 + 8 * (i + 1))) ≡ false =
    rw outside refl in
    sym (one ∙ two) ∙ h

pub within_done : (start size : ℕ) (body : List ℕ) (count i : ℕ) (t : Bool) → count ≤ i
    → list_all (is_block start size) (blocks_from (count - i) body (8 + 8 * i)) ≡ t → true ≡ t
within_done start size body count i t le h =
    let none : list_all (is_block start size) (blocks_from (count - i) body (8 + 8 * i)) ≡ true =
    rw (no_block body count i le) refl in sym none ∙ h

pub ruleset within_turns = (within_goes_on, within_ends, within_done)

-- blocks in rising order
no_one : (a b : Bool) → (a && false && b) ≡ false
no_one true b = refl
no_one false b = refl

pub rise_on : (bs : List Block) (at size i : ℕ) (t : Bool) (b : Block) → i < length bs → b ≡ get_or bs i b → at ≤ b.0
    → b.1 ≢ 0 → rises at size (drop i bs) ≡ t → rises (b.0 + b.1) size (drop (i + 1) bs) ≡ t
rise_on bs at size i t b lt is low some h =
    let e = drop_more bs i b lt in
    let p = le-leb at b.0 low in
    let q = lt-ltb 0 b.1 (omega arith) in
    let one : rises at size (drop i bs) ≡ rises (b.0 + b.1) size (drop (i + 1) bs) = rw (e, ← is, p, q) refl in
    sym one ∙ h

pub rise_low : (bs : List Block) (at size i : ℕ) (t : Bool) (b : Block) → i < length bs → b ≡ get_or bs i b → b.0 < at
    → rises at size (drop i bs) ≡ t → false ≡ t
rise_low bs at size i t b lt is low h =
    let e = drop_more bs i b lt in
    let p = lt-leb at b.0 low in
    let one : rises at size (drop i bs) ≡ false = rw (e, ← is, p) refl in
    sym one ∙ h

pub rise_none : (bs : List Block) (at size i : ℕ) (t : Bool) (b : Block) → i < length bs → b ≡ get_or bs i b → b.1 ≡ 0
    → rises at size (drop i bs) ≡ t → false ≡ t
rise_none bs at size i t b lt is none h =
    let e = drop_more bs i b lt in
    let q : nat_lt 0 b.1 ≡ false = le-ltb 0 b.1 (omega arith) in
    let one : rises at size (drop i bs) ≡ false =
    rw (e, ← is, q) (no_one (nat_le at b.0) (rises (b.0 + b.1) size (drop (i + 1) bs))) in
    sym one ∙ h

pub rise_done : (bs : List Block) (at size i : ℕ) (t : Bool) → length bs ≤ i → rises at size (drop i bs) ≡ t
    → nat_le at size ≡ t
rise_done bs at size i t le h = let e = drop_all i bs le in let one : rises at size (drop i bs) ≡ nat_le at size =
    rw e refl in sym one ∙ h

pub ruleset rise_turns = (rise_on, rise_low, rise_none, rise_done)
