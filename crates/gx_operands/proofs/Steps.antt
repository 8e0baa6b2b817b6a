-- One operand of those that are left.
use Rattle.std.proofs.Common.{◌≡◌, ◌≤◌, ◌<◌, ◌+◌, ◌-◌, ◌*◌, ℕ, suc, refl, arith, Ok, Err}
use Rattle.gx_words.specs.declared.faults.Fault.{Fault}
use Rattle.gx_rows.specs.declared.instructions.Row.{Row}
use Rattle.gx_state.specs.Flat.{FlatState, sp_of, IsHeight}
use Rattle.gx_state.specs.Sound.{IsSound}
use Rattle.gx_operands.specs.Instructions.{Operands, operands, operand}
use Rattle.gx_operands.specs.Plans.{HasValues}

pub all_taken : (f : FlatState) (row : Row) (modes count i : ℕ) (o : Operands) → count ≤ i
    → operands f row modes (count - i) i o ≡ Ok o
unfolding operands
all_taken f row modes count i o h = let none : count - i ≡ 0 = omega arith in rw none refl

pub one_taken : (f : FlatState) (row : Row) (modes count i : ℕ) (o next : Operands) → i < count
    → operand f row modes i o ≡ Ok next → operands f row modes (count - i) i o
    ≡ operands f row modes (count - (i + 1)) (i + 1) next
unfolding operands
one_taken f row modes count i o next h taken = let more : count - i ≡ suc (count - (i + 1)) = omega arith in
    rw (more, taken) refl

pub one_fails : (f : FlatState) (row : Row) (modes count i : ℕ) (o : Operands) (e : Fault) → i < count
    → operand f row modes i o ≡ Err e → operands f row modes (count - i) i o ≡ Err e
unfolding operands
one_fails f row modes count i o e h fails = let more : count - i ≡ suc (count - (i + 1)) = omega arith in
    rw (more, fails) refl

pub ruleset steps = (all_taken, one_taken, one_fails)

-- what pops leave is a stack pointer of the frame
pub height_left : (f : FlatState) (n sp : ℕ) → 0 < sp_of f → IsSound f → HasValues f n → sp ≡ sp_of f - 4 * n
    → IsHeight f sp
height_left f n sp live sound has is =
    let good = sound.framed.good live in
    record {
      live = live;
      values = omega (arith, good.whole, has);
      there = omega arith;
      aligned = omega (arith, good.whole, good.aligned, good.begins, sound.aligned, has);
    }
