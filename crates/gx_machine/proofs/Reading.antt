-- What the operands of a short row give, read one after the other.
use Rattle.std.proofs.Common.{◌≡◌, ◌≢◌, ◌≤◌, ◌<◌, ◌+◌, ◌/◌, ◌%◌, ℕ, Bool, true, false, nat_le, [], ◌∷◌, length, Some}
use Rattle.std.proofs.Common.{None, Result, Ok, Err, IsOkAnd, refl, ap, subst, sym, ◌∙◌, arith}
use Rattle.std.proofs.lemmas.Bool.Decides.{nat_tests}
use Rattle.gx_words.specs.declared.faults.Fault.{Fault}
use Rattle.gx_words.specs.declared.faults.Fault.TheVariants.{BadAddress, NoMemory, Divide}
use Rattle.gx_words.specs.Numbers.{byte}
use Rattle.gx_words.specs.Results.{◌>>=◌}
use Rattle.gx_rows.specs.declared.instructions.Class.TheVariants as class
use Rattle.gx_rows.specs.declared.instructions.Row.{Row}
use Rattle.ops_calc.specs.Arithmetic.{calc}
use Rattle.ops_flow.specs.FlowRows.{computes}
use Rattle.ops_memory.specs.MemoryRows.{copy}
use Rattle.gx_state.specs.declared.effects.Effect.{Effect}
use Rattle.gx_state.specs.Stores.{IsMemory}
use Rattle.gx_state.specs.declared.modes.Dest.{Dest}
use Rattle.gx_state.specs.declared.modes.Dest.TheVariants as dest
use Rattle.gx_state.specs.Flat.{FlatState}
use Rattle.gx_operands.specs.declared.cursor.Cursor.{Cursor}
use Rattle.gx_operands.specs.Instructions.{Operands, all_operands, operands, operand, with_operand, load, destination}
use Rattle.gx_machine.specs.Quick.{Tries, IsPlain, IsRowWriting, IsQuickWriting, quick_effect, quick_row, read_as}
use Rattle.gx_machine.specs.Quick.{operands_read, read_effect, IsReadWriting, stored_on}

-- a row whose operands have a fault, and one whose operands were read
pub row_fails : (f : FlatState) (row : Row) (modes : ℕ) (e : Fault) → all_operands f row modes ≡ Err e → e ≢ NoMemory
    → Tries {S = FlatState} (IsRowWriting f row modes) (Err e) f f (quick_row f row modes)
row_fails f row modes e fails free = (
  refl,
  (
    (λ given. ap (λ (r : Result Operands Fault). r
        >>= (λ (o : Operands). quick_effect row.class f (read_as f row o))) fails),
    (λ none. absurd (free none)),
  ),
)

pub row_done : (f g : FlatState) (row : Row) (modes : ℕ) (o : Operands) (r : Result Bool Fault)
    → all_operands f row modes ≡ Ok o
    → Tries {S = FlatState} (IsQuickWriting row.class f (read_as f row o)) r f g
    (quick_effect row.class f (read_as f row o))
    → Tries {S = FlatState} (IsRowWriting f row modes) r f g (quick_row f row modes)
row_done f g row modes o r read t =
    subst (λ (x : Result Operands Fault). Tries {S = FlatState}
    (IsOkAnd x (λ o. IsQuickWriting row.class f (read_as f row o))) r f g
    (x >>= (λ (o : Operands). quick_effect row.class f (read_as f row o)))) (sym read) t

-- the modes aren't in memory
pub no_modes : (f : FlatState) (row : Row) (modes count : ℕ) → row.loads + row.stores ≡ count
    → length f.memory < modes + (count + 1) / 2 → all_operands f row modes ≡ Err BadAddress
unfolding all_operands
no_modes f row modes count is past =
    let without : nat_le (modes + (count + 1) / 2) (length f.memory) ≡ false = grind (arith, nat_tests) in
    rw (is, without) refl

-- no operands
pub none_read : (f : FlatState) (row : Row) (modes : ℕ) → row.loads ≡ 0 → row.stores ≡ 0 → modes ≤ length f.memory
    → all_operands f row modes ≡ Ok (operands_read [] dest.Nowhere false (record { at = modes; popped = 0 }))
unfolding all_operands operands
none_read f row modes loads stores there =
    let within : nat_le modes (length f.memory) ≡ true = grind (arith, nat_tests) in
    let first_at : modes + 0 ≡ modes = omega arith in
    rw (loads, stores, first_at, within) refl

-- one load
pub one_read : (f : FlatState) (row : Row) (modes first a : ℕ) (p : Cursor) → IsPlain row → row.loads ≡ 1
    → row.stores ≡ 0 → modes + 1 ≤ length f.memory → first ≡ byte f.memory modes
    → load f 4 (first % 16) (record { at = modes + 1; popped = 0 }) ≡ Ok (a, p)
    → all_operands f row modes ≡ Ok (operands_read (a ∷ []) dest.Nowhere false p)
unfolding all_operands operands operand with_operand
one_read f row modes first a p plain loads stores there is one =
    let within : nat_le (modes + 1) (length f.memory) ≡ true = grind (arith, nat_tests) in
    let first_at : modes + 0 ≡ modes = omega arith in
    rw (loads, stores, within, plain.width, plain.in_order, first_at, rw is at one) refl

pub one_fails_1 : (f : FlatState) (row : Row) (modes first : ℕ) (e : Fault) → IsPlain row → row.loads ≡ 1
    → row.stores ≡ 0 → modes + 1 ≤ length f.memory → first ≡ byte f.memory modes
    → load f 4 (first % 16) (record { at = modes + 1; popped = 0 }) ≡ Err e → all_operands f row modes ≡ Err e
unfolding all_operands operands operand with_operand
one_fails_1 f row modes first e plain loads stores there is one =
    let within : nat_le (modes + 1) (length f.memory) ≡ true = grind (arith, nat_tests) in
    let first_at : modes + 0 ≡ modes = omega arith in
    rw (loads, stores, within, plain.width, plain.in_order, first_at, rw is at one) refl

pub ruleset one_reading = (no_modes, one_read, one_fails_1)

-- two loads
pub two_read : (f : FlatState) (row : Row) (modes first a b : ℕ) (p q : Cursor) → IsPlain row → row.loads ≡ 2
    → row.stores ≡ 0 → modes + 1 ≤ length f.memory → first ≡ byte f.memory modes
    → load f 4 (first % 16) (record { at = modes + 1; popped = 0 }) ≡ Ok (a, p) → load f 4 (first / 16) p ≡ Ok (b, q)
    → all_operands f row modes ≡ Ok (operands_read (a ∷ b ∷ []) dest.Nowhere false q)
unfolding all_operands operands operand with_operand
two_read f row modes first a b p q plain loads stores there is one two =
    let within : nat_le (modes + 1) (length f.memory) ≡ true = grind (arith, nat_tests) in
    let first_at : modes + 0 ≡ modes = omega arith in
    rw (loads, stores, within, plain.width, plain.in_order, first_at, rw is at one, rw is at two) refl

pub two_fails_1 : (f : FlatState) (row : Row) (modes first : ℕ) (e : Fault) → IsPlain row → row.loads ≡ 2
    → row.stores ≡ 0 → modes + 1 ≤ length f.memory → first ≡ byte f.memory modes
    → load f 4 (first % 16) (record { at = modes + 1; popped = 0 }) ≡ Err e → all_operands f row modes ≡ Err e
unfolding all_operands operands operand with_operand
two_fails_1 f row modes first e plain loads stores there is one =
    let within : nat_le (modes + 1) (length f.memory) ≡ true = grind (arith, nat_tests) in
    let first_at : modes + 0 ≡ modes = omega arith in
    rw (loads, stores, within, plain.width, plain.in_order, first_at, rw is at one) refl

pub two_fails_2 : (f : FlatState) (row : Row) (modes first a : ℕ) (p : Cursor) (e : Fault) → IsPlain row
    → row.loads ≡ 2 → row.stores ≡ 0 → modes + 1 ≤ length f.memory → first ≡ byte f.memory modes
    → load f 4 (first % 16) (record { at = modes + 1; popped = 0 }) ≡ Ok (a, p) → load f 4 (first / 16) p ≡ Err e
    → all_operands f row modes ≡ Err e
unfolding all_operands operands operand with_operand
two_fails_2 f row modes first a p e plain loads stores there is one two =
    let within : nat_le (modes + 1) (length f.memory) ≡ true = grind (arith, nat_tests) in
    let first_at : modes + 0 ≡ modes = omega arith in
    rw (loads, stores, within, plain.width, plain.in_order, first_at, rw is at one, rw is at two) refl

pub ruleset two_reading = (no_modes, two_read, two_fails_1, two_fails_2)

-- three loads
pub three_read : (f : FlatState) (row : Row) (modes first second a b c : ℕ) (p q r : Cursor) → IsPlain row
    → row.loads ≡ 3 → row.stores ≡ 0 → modes + 2 ≤ length f.memory → first ≡ byte f.memory modes
    → second ≡ byte f.memory (modes + 1)
    → load f 4 (first % 16) (record { at = modes + 2; popped = 0 }) ≡ Ok (a, p) → load f 4 (first / 16) p ≡ Ok (b, q)
    → load f 4 (second % 16) q ≡ Ok (c, r)
    → all_operands f row modes ≡ Ok (operands_read (a ∷ b ∷ c ∷ []) dest.Nowhere false r)
unfolding all_operands operands operand with_operand
three_read f row modes first second a b c p q r plain loads stores there is next one two three =
    let within : nat_le (modes + 2) (length f.memory) ≡ true = grind (arith, nat_tests) in
    let first_at : modes + 0 ≡ modes = omega arith in
    rw (loads, stores, within, plain.width, plain.in_order, first_at, rw is at one, rw is at two, rw next at three) refl

pub three_fails_1 : (f : FlatState) (row : Row) (modes first second : ℕ) (e : Fault) → IsPlain row → row.loads ≡ 3
    → row.stores ≡ 0 → modes + 2 ≤ length f.memory → first ≡ byte f.memory modes → second ≡ byte f.memory (modes + 1)
    → load f 4 (first % 16) (record { at = modes + 2; popped = 0 }) ≡ Err e → all_operands f row modes ≡ Err e
unfolding all_operands operands operand with_operand
three_fails_1 f row modes first second e plain loads stores there is next one =
    let within : nat_le (modes + 2) (length f.memory) ≡ true = grind (arith, nat_tests) in
    let first_at : modes + 0 ≡ modes = omega arith in
    rw (loads, stores, within, plain.width, plain.in_order, first_at, rw is at one) refl

pub three_fails_2 : (f : FlatState) (row : Row) (modes first second a : ℕ) (p : Cursor) (e : Fault) → IsPlain row
    → row.loads ≡ 3 → row.stores ≡ 0 → modes + 2 ≤ length f.memory → first ≡ byte f.memory modes
    → second ≡ byte f.memory (modes + 1)
    → load f 4 (first % 16) (record { at = modes + 2; popped = 0 }) ≡ Ok (a, p) → load f 4 (first / 16) p ≡ Err e
    → all_operands f row modes ≡ Err e
unfolding all_operands operands operand with_operand
three_fails_2 f row modes first second a p e plain loads stores there is next one two =
    let within : nat_le (modes + 2) (length f.memory) ≡ true = grind (arith, nat_tests) in
    let first_at : modes + 0 ≡ modes = omega arith in
    rw (loads, stores, within, plain.width, plain.in_order, first_at, rw is at one, rw is at two) refl

pub three_fails_3 : (f : FlatState) (row : Row) (modes first second a b : ℕ) (p q : Cursor) (e : Fault) → IsPlain row
    → row.loads ≡ 3 → row.stores ≡ 0 → modes + 2 ≤ length f.memory → first ≡ byte f.memory modes
    → second ≡ byte f.memory (modes + 1)
    → load f 4 (first % 16) (record { at = modes + 2; popped = 0 }) ≡ Ok (a, p) → load f 4 (first / 16) p ≡ Ok (b, q)
    → load f 4 (second % 16) q ≡ Err e → all_operands f row modes ≡ Err e
unfolding all_operands operands operand with_operand
three_fails_3 f row modes first second a b p q e plain loads stores there is next one two three =
    let within : nat_le (modes + 2) (length f.memory) ≡ true = grind (arith, nat_tests) in
    let first_at : modes + 0 ≡ modes = omega arith in
    rw (loads, stores, within, plain.width, plain.in_order, first_at, rw is at one, rw is at two, rw next at three) refl

pub ruleset three_reading = (no_modes, three_read, three_fails_1, three_fails_2, three_fails_3)

-- a load and a store
pub one_and_store_read : (f : FlatState) (row : Row) (modes first a : ℕ) (d : Dest) (p q : Cursor) → IsPlain row
    → row.loads ≡ 1 → row.stores ≡ 1 → modes + 1 ≤ length f.memory → first ≡ byte f.memory modes
    → load f 4 (first % 16) (record { at = modes + 1; popped = 0 }) ≡ Ok (a, p)
    → destination f (first / 16) p ≡ Ok (d, q)
    → all_operands f row modes ≡ Ok (operands_read (a ∷ []) d true q)
unfolding all_operands operands operand with_operand
one_and_store_read f row modes first a d p q plain loads stores there is one two =
    let within : nat_le (modes + 1) (length f.memory) ≡ true = grind (arith, nat_tests) in
    let first_at : modes + 0 ≡ modes = omega arith in
    rw (loads, stores, within, plain.width, plain.in_order, first_at, rw is at one, rw is at two) refl

pub one_and_store_fails_1 : (f : FlatState) (row : Row) (modes first : ℕ) (e : Fault) → IsPlain row → row.loads ≡ 1
    → row.stores ≡ 1 → modes + 1 ≤ length f.memory → first ≡ byte f.memory modes
    → load f 4 (first % 16) (record { at = modes + 1; popped = 0 }) ≡ Err e → all_operands f row modes ≡ Err e
unfolding all_operands operands operand with_operand
one_and_store_fails_1 f row modes first e plain loads stores there is one =
    let within : nat_le (modes + 1) (length f.memory) ≡ true = grind (arith, nat_tests) in
    let first_at : modes + 0 ≡ modes = omega arith in
    rw (loads, stores, within, plain.width, plain.in_order, first_at, rw is at one) refl

pub one_and_store_fails_2 : (f : FlatState) (row : Row) (modes first a : ℕ) (p : Cursor) (e : Fault) → IsPlain row
    → row.loads ≡ 1 → row.stores ≡ 1 → modes + 1 ≤ length f.memory → first ≡ byte f.memory modes
    → load f 4 (first % 16) (record { at = modes + 1; popped = 0 }) ≡ Ok (a, p) → destination f (first / 16) p ≡ Err e
    → all_operands f row modes ≡ Err e
unfolding all_operands operands operand with_operand
one_and_store_fails_2 f row modes first a p e plain loads stores there is one two =
    let within : nat_le (modes + 1) (length f.memory) ≡ true = grind (arith, nat_tests) in
    let first_at : modes + 0 ≡ modes = omega arith in
    rw (loads, stores, within, plain.width, plain.in_order, first_at, rw is at one, rw is at two) refl

pub ruleset one_and_store_reading = (no_modes, one_and_store_read, one_and_store_fails_1, one_and_store_fails_2)

-- two loads and a store
pub two_and_store_read : (f : FlatState) (row : Row) (modes first second a b : ℕ) (d : Dest) (p q r : Cursor)
    → IsPlain row → row.loads ≡ 2 → row.stores ≡ 1 → modes + 2 ≤ length f.memory → first ≡ byte f.memory modes
    → second ≡ byte f.memory (modes + 1)
    → load f 4 (first % 16) (record { at = modes + 2; popped = 0 }) ≡ Ok (a, p) → load f 4 (first / 16) p ≡ Ok (b, q)
    → destination f (second % 16) q ≡ Ok (d, r)
    → all_operands f row modes ≡ Ok (operands_read (a ∷ b ∷ []) d true r)
unfolding all_operands operands operand with_operand
two_and_store_read f row modes first second a b d p q r plain loads stores there is next one two three =
    let within : nat_le (modes + 2) (length f.memory) ≡ true = grind (arith, nat_tests) in
    let first_at : modes + 0 ≡ modes = omega arith in
    rw (loads, stores, within, plain.width, plain.in_order, first_at, rw is at one, rw is at two, rw next at three) refl

pub two_and_store_fails_1 : (f : FlatState) (row : Row) (modes first second : ℕ) (e : Fault) → IsPlain row
    → row.loads ≡ 2 → row.stores ≡ 1 → modes + 2 ≤ length f.memory → first ≡ byte f.memory modes
    → second ≡ byte f.memory (modes + 1)
    → load f 4 (first % 16) (record { at = modes + 2; popped = 0 }) ≡ Err e → all_operands f row modes ≡ Err e
unfolding all_operands operands operand with_operand
two_and_store_fails_1 f row modes first second e plain loads stores there is next one =
    let within : nat_le (modes + 2) (length f.memory) ≡ true = grind (arith, nat_tests) in
    let first_at : modes + 0 ≡ modes = omega arith in
    rw (loads, stores, within, plain.width, plain.in_order, first_at, rw is at one) refl

pub two_and_store_fails_2 : (f : FlatState) (row : Row) (modes first second a : ℕ) (p : Cursor) (e : Fault)
    → IsPlain row → row.loads ≡ 2 → row.stores ≡ 1 → modes + 2 ≤ length f.memory → first ≡ byte f.memory modes
    → second ≡ byte f.memory (modes + 1)
    → load f 4 (first % 16) (record { at = modes + 2; popped = 0 }) ≡ Ok (a, p) → load f 4 (first / 16) p ≡ Err e
    → all_operands f row modes ≡ Err e
unfolding all_operands operands operand with_operand
two_and_store_fails_2 f row modes first second a p e plain loads stores there is next one two =
    let within : nat_le (modes + 2) (length f.memory) ≡ true = grind (arith, nat_tests) in
    let first_at : modes + 0 ≡ modes = omega arith in
    rw (loads, stores, within, plain.width, plain.in_order, first_at, rw is at one, rw is at two) refl

pub two_and_store_fails_3 : (f : FlatState) (row : Row) (modes first second a b : ℕ) (p q : Cursor) (e : Fault)
    → IsPlain row → row.loads ≡ 2 → row.stores ≡ 1 → modes + 2 ≤ length f.memory → first ≡ byte f.memory modes
    → second ≡ byte f.memory (modes + 1)
    → load f 4 (first % 16) (record { at = modes + 2; popped = 0 }) ≡ Ok (a, p) → load f 4 (first / 16) p ≡ Ok (b, q)
    → destination f (second % 16) q ≡ Err e → all_operands f row modes ≡ Err e
unfolding all_operands operands operand with_operand
two_and_store_fails_3 f row modes first second a b p q e plain loads stores there is next one two three =
    let within : nat_le (modes + 2) (length f.memory) ≡ true = grind (arith, nat_tests) in
    let first_at : modes + 0 ≡ modes = omega arith in
    rw (loads, stores, within, plain.width, plain.in_order, first_at, rw is at one, rw is at two, rw next at three) refl

pub ruleset two_and_store_reading = (
  no_modes,
  two_and_store_read,
  two_and_store_fails_1,
  two_and_store_fails_2,
  two_and_store_fails_3,
)

-- three loads and a store
pub three_and_store_read : (f : FlatState) (row : Row) (modes first second a b c : ℕ) (d : Dest) (p q r s : Cursor)
    → IsPlain row → row.loads ≡ 3 → row.stores ≡ 1 → modes + 2 ≤ length f.memory
    → first ≡ byte f.memory modes
    → second ≡ byte f.memory (modes + 1)
    → load f 4 (first % 16) (record { at = modes + 2; popped = 0 }) ≡ Ok (a, p)
    → load f 4 (first / 16) p ≡ Ok (b, q)
    → load f 4 (second % 16) q ≡ Ok (c, r)
    → destination f (second / 16) r ≡ Ok (d, s)
    → all_operands f row modes ≡ Ok (operands_read (a ∷ b ∷ c ∷ []) d true s)
unfolding all_operands operands operand with_operand
three_and_store_read f row modes first second a b c d p q r s plain loads stores there is next one two three four =
    let within : nat_le (modes + 2) (length f.memory) ≡ true = grind (arith, nat_tests) in
    let first_at : modes + 0 ≡ modes = omega arith in
    rw (
      loads,
      stores,
      within,
      plain.width,
      plain.in_order,
      first_at,
      rw is at one,
      rw is at two,
      rw next at three,
      rw next at four,
    ) refl

pub three_and_store_fails_1 : (f : FlatState) (row : Row) (modes first second : ℕ) (e : Fault) → IsPlain row
    → row.loads ≡ 3 → row.stores ≡ 1 → modes + 2 ≤ length f.memory
    → first ≡ byte f.memory modes
    → second ≡ byte f.memory (modes + 1)
    → load f 4 (first % 16) (record { at = modes + 2; popped = 0 }) ≡ Err e
    → all_operands f row modes ≡ Err e
unfolding all_operands operands operand with_operand
three_and_store_fails_1 f row modes first second e plain loads stores there is next one =
    let within : nat_le (modes + 2) (length f.memory) ≡ true = grind (arith, nat_tests) in
    let first_at : modes + 0 ≡ modes = omega arith in
    rw (loads, stores, within, plain.width, plain.in_order, first_at, rw is at one) refl

pub three_and_store_fails_2 : (f : FlatState) (row : Row) (modes first second a : ℕ) (p : Cursor) (e : Fault)
    → IsPlain row → row.loads ≡ 3 → row.stores ≡ 1 → modes + 2 ≤ length f.memory
    → first ≡ byte f.memory modes
    → second ≡ byte f.memory (modes + 1)
    → load f 4 (first % 16) (record { at = modes + 2; popped = 0 }) ≡ Ok (a, p)
    → load f 4 (first / 16) p ≡ Err e
    → all_operands f row modes ≡ Err e
unfolding all_operands operands operand with_operand
three_and_store_fails_2 f row modes first second a p e plain loads stores there is next one two =
    let within : nat_le (modes + 2) (length f.memory) ≡ true = grind (arith, nat_tests) in
    let first_at : modes + 0 ≡ modes = omega arith in
    rw (loads, stores, within, plain.width, plain.in_order, first_at, rw is at one, rw is at two) refl

pub three_and_store_fails_3 : (f : FlatState) (row : Row) (modes first second a b : ℕ) (p q : Cursor) (e : Fault)
    → IsPlain row → row.loads ≡ 3 → row.stores ≡ 1 → modes + 2 ≤ length f.memory
    → first ≡ byte f.memory modes
    → second ≡ byte f.memory (modes + 1)
    → load f 4 (first % 16) (record { at = modes + 2; popped = 0 }) ≡ Ok (a, p)
    → load f 4 (first / 16) p ≡ Ok (b, q)
    → load f 4 (second % 16) q ≡ Err e
    → all_operands f row modes ≡ Err e
unfolding all_operands operands operand with_operand
three_and_store_fails_3 f row modes first second a b p q e plain loads stores there is next one two three =
    let within : nat_le (modes + 2) (length f.memory) ≡ true = grind (arith, nat_tests) in
    let first_at : modes + 0 ≡ modes = omega arith in
    rw (loads, stores, within, plain.width, plain.in_order, first_at, rw is at one, rw is at two, rw next at three) refl

pub three_and_store_fails_4 : (f : FlatState) (row : Row) (modes first second a b c : ℕ) (p q r : Cursor) (e : Fault)
    → IsPlain row → row.loads ≡ 3 → row.stores ≡ 1 → modes + 2 ≤ length f.memory
    → first ≡ byte f.memory modes
    → second ≡ byte f.memory (modes + 1)
    → load f 4 (first % 16) (record { at = modes + 2; popped = 0 }) ≡ Ok (a, p)
    → load f 4 (first / 16) p ≡ Ok (b, q)
    → load f 4 (second % 16) q ≡ Ok (c, r)
    → destination f (second / 16) r ≡ Err e
    → all_operands f row modes ≡ Err e
unfolding all_operands operands operand with_operand
three_and_store_fails_4 f row modes first second a b c p q r e plain loads stores there is next one two three four =
    let within : nat_le (modes + 2) (length f.memory) ≡ true = grind (arith, nat_tests) in
    let first_at : modes + 0 ≡ modes = omega arith in
    rw (
      loads,
      stores,
      within,
      plain.width,
      plain.in_order,
      first_at,
      rw is at one,
      rw is at two,
      rw next at three,
      rw next at four,
    ) refl

pub ruleset three_and_store_reading = (
  no_modes,
  three_and_store_read,
  three_and_store_fails_1,
  three_and_store_fails_2,
  three_and_store_fails_3,
  three_and_store_fails_4,
)

-- a store alone
pub store_read : (f : FlatState) (row : Row) (modes first : ℕ) (d : Dest) (p : Cursor) → IsPlain row → row.loads ≡ 0
    → row.stores ≡ 1 → modes + 1 ≤ length f.memory
    → first ≡ byte f.memory modes
    → destination f (first % 16) (record { at = modes + 1; popped = 0 }) ≡ Ok (d, p)
    → all_operands f row modes ≡ Ok (operands_read [] d true p)
unfolding all_operands operands operand with_operand
store_read f row modes first d p plain loads stores there is one =
    let within : nat_le (modes + 1) (length f.memory) ≡ true = grind (arith, nat_tests) in
    let first_at : modes + 0 ≡ modes = omega arith in
    rw (loads, stores, within, plain.width, plain.in_order, first_at, rw is at one) refl

pub store_fails_1 : (f : FlatState) (row : Row) (modes first : ℕ) (e : Fault) → IsPlain row → row.loads ≡ 0
    → row.stores ≡ 1 → modes + 1 ≤ length f.memory
    → first ≡ byte f.memory modes
    → destination f (first % 16) (record { at = modes + 1; popped = 0 }) ≡ Err e
    → all_operands f row modes ≡ Err e
unfolding all_operands operands operand with_operand
store_fails_1 f row modes first e plain loads stores there is one =
    let within : nat_le (modes + 1) (length f.memory) ≡ true = grind (arith, nat_tests) in
    let first_at : modes + 0 ≡ modes = omega arith in
    rw (loads, stores, within, plain.width, plain.in_order, first_at, rw is at one) refl

pub ruleset store_reading = (no_modes, store_read, store_fails_1)

-- ---- arithmetic and copies, whose class is known before the store operand is read

computes_none : (f : FlatState) (row : Row) (a b : ℕ) (d : Dest) (p : Cursor) → row.class ≡ class.Calc
    → calc row.act a b ≡ None → read_effect f row (a ∷ b ∷ []) d p ≡ Err Divide
unfolding computes
computes_none f row a b d p is none = rw (is, none) refl

-- a division that has no result: what its store operand gives comes first
abbrev pub refused : Result (Dest × Cursor) Fault → Result (FlatState × Effect) Fault
refused r = r >>= (λ (d : Dest × Cursor). Err Divide)

pub no_quotient_row : (f : FlatState) (row : Row) (modes first second a b : ℕ) (p q : Cursor) (e : Fault)
    → row.class ≡ class.Calc → IsPlain row → row.loads ≡ 2 → row.stores ≡ 1 → modes + 2 ≤ length f.memory
    → first ≡ byte f.memory modes → second ≡ byte f.memory (modes + 1)
    → load f 4 (first % 16) (record { at = modes + 2; popped = 0 }) ≡ Ok (a, p) → load f 4 (first / 16) p ≡ Ok (b, q)
    → calc row.act a b ≡ None
    → (r : Result (Dest × Cursor) Fault) → destination f (second % 16) q ≡ r → refused r ≡ Err e
    → quick_row f row modes ≡ Err e
no_quotient_row f row modes first second a b p q e is plain loads stores there low high one two none (Ok d) dest fails =
    ap (λ (r : Result Operands Fault). r >>= (λ (o : Operands). quick_effect row.class f (read_as f row o)))
    (two_and_store_read f row modes first second a b d.0 p q d.1 plain loads stores there low high one two dest)
    ∙ computes_none f row a b d.0 d.1 is none ∙ fails
no_quotient_row f row modes first second a b p q e is plain loads stores there low high one two none
    (Err x) dest fails =
    ap (λ (r : Result Operands Fault). r >>= (λ (o : Operands). quick_effect row.class f (read_as f row o)))
    (two_and_store_fails_3 f row modes first second a b p q x plain loads stores there low high one two dest)
    ∙ fails

pub calc_done : (f g : FlatState) (row : Row) (a b v : ℕ) (d : Dest) (p : Cursor) (r : Result Bool Fault)
    → row.class ≡ class.Calc → calc row.act a b ≡ Some v
    → Tries {S = FlatState} (IsMemory d) r f g (stored_on f 4 d v p)
    → Tries {S = FlatState} (IsReadWriting f row (a ∷ b ∷ []) d p) r f g (read_effect f row (a ∷ b ∷ []) d p)
unfolding computes
calc_done f g row a b v d p r is some t = rw (is, some) t

pub copy_done : (f g : FlatState) (row : Row) (a : ℕ) (d : Dest) (p : Cursor) (r : Result Bool Fault)
    → row.class ≡ class.Copy → row.width ≡ 4
    → Tries {S = FlatState} (IsMemory d) r f g (stored_on f 4 d a p)
    → Tries {S = FlatState} (IsReadWriting f row (a ∷ []) d p) r f g (read_effect f row (a ∷ []) d p)
unfolding copy
copy_done f g row a d p r is width t = rw (is, width) t
