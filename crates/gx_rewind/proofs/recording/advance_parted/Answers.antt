-- steps within a part of the budget, and one more within all of it, or steps that leave so much more
use Rattle.std.proofs.Common.{◌≡◌, ◌+◌, ◌-◌, ◌≤◌, ℕ, None, Result, subst, arith}
use Rattle.gx_words.specs.declared.faults.Fault.{Fault}
use Rattle.gx_state.specs.declared.effects.Effect.{Effect}
use Rattle.gx_machine.specs.Advancing.{Advances}
use Rattle.gx_rewind.proofs.Engines.{lowers}
use Rattle.gx_rewind.proofs.Parts.{advances-more, advances-on, still}
use Rattle.gx_rewind.proofs.recording.advance_parted.Goals as goal

parted : (part budget : ℕ) → part ≤ budget → part + (budget - part) ≡ budget
parted part budget within = omega (arith, within)

pub overflow_add-budget : goal.overflow_add-budget
overflow_add-budget g c =
    let lower = lowers c.args.word c.advance-outcome.result c.args.part c.advance-outcome.new.budget
    c.advance-outcome.new.left c.args.machine.now c.advance-outcome.new.self c.advance-outcome.ensures in
    let less = lower.0 in
    let within = c.requires.within in
    omega (arith, less, within)

pub step-requires : goal.step-requires
step-requires g c =
    let spent = c.is_spent.ensures.yes c.if-is_spent.true in
    let all = subst (λ (r : Result Effect Fault). Advances c.args.word r (c.args.machine.now, c.args.part) None
    c.advance-outcome.new.budget (c.advance-outcome.new.self, c.advance-outcome.new.left) None) spent
    c.advance-outcome.ensures in
    (still c.args.word c.args.machine.now c.advance-outcome.new.self c.args.part c.advance-outcome.new.budget
    c.advance-outcome.new.left c.requires.asks all).asks

pub overflow_add-left : goal.overflow_add-left
overflow_add-left g c =
    let lower = lowers c.args.word c.advance-outcome.result c.args.part c.advance-outcome.new.budget
    c.advance-outcome.new.left c.args.machine.now c.advance-outcome.new.self c.advance-outcome.ensures in
    let less = lower.0 in
    let more = lower.1 in
    let within = c.requires.within in
    omega (arith, less, more, within)

pub returns-then-is_spent : goal.returns-then-is_spent
returns-then-is_spent g c =
    let spent = c.is_spent.ensures.yes c.if-is_spent.true in
    let all = subst (λ (r : Result Effect Fault). Advances c.args.word r (c.args.machine.now, c.args.part) None
    c.advance-outcome.new.budget (c.advance-outcome.new.self, c.advance-outcome.new.left) None) spent
    c.advance-outcome.ensures in
    let s = still c.args.word c.args.machine.now c.advance-outcome.new.self c.args.part c.advance-outcome.new.budget
    c.advance-outcome.new.left c.requires.asks all in
    let more : ℕ = c.args.budget.now - c.args.part in
    subst (λ (n : ℕ). Advances c.args.word c.step.result (c.args.machine.now, n) None
    (c.advance-outcome.new.budget + more) (c.step.new.self, c.step.new.budget) None)
    (parted c.args.part c.args.budget.now c.requires.within)
    (advances-on c.args.word more c.step.result c.args.machine.now c.advance-outcome.new.self
    (c.step.new.self, c.step.new.budget) c.args.part c.advance-outcome.new.budget s c.step.ensures.step
    c.step.ensures.stands)

pub returns : goal.returns
returns g c =
    let unspent = c.is_spent.ensures.no c.if-is_spent.false in
    let more : ℕ = c.args.budget.now - c.args.part in
    subst (λ (n : ℕ). Advances c.args.word c.advance-outcome.result (c.args.machine.now, n) None
    (c.advance-outcome.new.budget + more) (c.advance-outcome.new.self, c.advance-outcome.new.left + more) None)
    (parted c.args.part c.args.budget.now c.requires.within)
    (advances-more c.args.word more c.advance-outcome.result c.args.machine.now c.advance-outcome.new.self c.args.part
    c.advance-outcome.new.budget c.advance-outcome.new.left None None unspent c.advance-outcome.ensures)
