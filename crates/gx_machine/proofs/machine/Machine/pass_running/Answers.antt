-- a step the quick way costs one unit
use Rattle.std.proofs.Common.{◌≡◌, ◌<◌, ◌-◌, ℕ, None, Ok, ap, subst, sym}
use Rattle.std.proofs.lemmas.Result.{err_from_is_err_and}
use Rattle.gx_words.specs.Faults.{IsRefused}
use Rattle.gx_state.specs.declared.effects.Effect.TheVariants.{Went}
use Rattle.gx_state.specs.declared.modes.Mode.TheVariants.{Running}
use Rattle.gx_state.specs.Flat.{sp_of}
use Rattle.gx_machine.specs.Machine.{FlatMachine, Whole}
use Rattle.gx_machine.specs.Step.{stepped, IsStepWriting}
use Rattle.gx_machine.specs.Views.{whole_of}
use Rattle.gx_machine.proofs.Passing.{pass_ok, pass_refused}
use Rattle.gx_machine.proofs.machine.Machine.pass_running.Goals as goal

pub returns-in_err-quick-clause-value : goal.returns-in_err-quick-clause-value
returns-in_err-quick-clause-value g c =
    let p = err_from_is_err_and c.from_residual.result c.from_residual.ensures.1 in
    let w : Whole = whole_of c.self.inside in
    let live = subst (λ (x : Whole). 0 < sp_of x.machine.flat) (sym c.self.view_is) c.requires.live in
    let running = subst (λ (x : Whole). x.machine.flat.mode ≡ Running) (sym c.self.view_is) c.requires.running in
    let free = c.in_err-quick.ensures.free (λ same. cc) in
    rw (p.1, p.2) (λ word.
    let t = c.in_err-quick.ensures.value c.self.inside.undo word in
    subst (λ (x : Whole). ◌≡◌ {A = Whole × ℕ} (
      record { machine = record { flat = c.quick.new.state.flat; undo = c.self.inside.undo }; asking = w.asking },
      c.args.budget.now,
    ) (x, c.args.budget.now)
    × IsRefused (IsStepWriting x.machine c.args.budget.now) c.in_err-quick.field-0.0
    (stepped x word c.args.budget.now))
    c.self.view_is (
      ap (λ (m : FlatMachine). (record { machine = m; asking = w.asking }, c.args.budget.now)) t.0,
      pass_refused w word c.args.budget.now c.in_err-quick.field-0.0 c.requires.some live running free t.1,
    ))

pub returns-then-branch-clause-value : goal.returns-then-branch-clause-value
returns-then-branch-clause-value g c =
    let w : Whole = whole_of c.self.inside in
    let live = subst (λ (x : Whole). 0 < sp_of x.machine.flat) (sym c.self.view_is) c.requires.live in
    let running = subst (λ (x : Whole). x.machine.flat.mode ≡ Running) (sym c.self.view_is) c.requires.running in
    let asks : w.asking ≡ None = subst (λ (x : Whole). x.asking ≡ None) (sym c.self.view_is) c.requires.asks in
    let done = rw c.if-branch.true at c.in_ok-quick.ensures.value in
    let free = (rw c.if-branch.true at c.in_ok-quick.ensures.free) (λ same. cc) in
    λ word. subst (λ (x : Whole). stepped x word c.args.budget.now
    ≡ Ok (
      (
        record {
          machine = record { flat = c.quick.new.state.flat; undo = c.self.inside.undo };
          asking = w.asking;
        },
        c.args.budget.now - 1,
      ),
      Went,
    ))
    c.self.view_is (pass_ok w word c.args.budget.now
    (record { flat = c.quick.new.state.flat; undo = c.self.inside.undo }) c.requires.some live running asks free
    (done c.self.inside.undo word))

pub returns-clause-value : goal.returns-clause-value
returns-clause-value g c =
    let w : Whole = whole_of c.self.inside in
    let same = rw c.if-branch.false at c.in_ok-quick.ensures.value in
    λ word. subst (λ (x : Whole). ◌≡◌ {A = Whole × ℕ} (
      record { machine = record { flat = c.quick.new.state.flat; undo = c.self.inside.undo }; asking = w.asking },
      c.args.budget.now,
    ) (x, c.args.budget.now))
    c.self.view_is (ap (λ (m : FlatMachine). (record { machine = m; asking = w.asking }, c.args.budget.now))
    (same c.self.inside.undo word))
