-- an instruction that is done, and one that has a fault or wants memory, which leaves the machine and its budget
use Rattle.std.proofs.Common.{◌≡◌, ◌<◌, ℕ, IsSome, Option, None, Ok, ap, subst, sym, ◌∙◌}
use Rattle.std.proofs.lemmas.Result.{err_from_is_err_and}
use Rattle.std.specs.Option.{option_map}
use Rattle.gx_words.specs.Faults.{IsRefused}
use Rattle.gx_state.specs.declared.modes.Mode.TheVariants.{Running}
use Rattle.gx_state.specs.Flat.{sp_of}
use Rattle.gx_machine.specs.declared.askings.Asking.{Asking}
use Rattle.gx_machine.specs.declared.machine.Pending.{Pending}
use Rattle.gx_machine.specs.Machine.{Whole}
use Rattle.gx_machine.specs.Step.{stepped, IsStepWriting}
use Rattle.gx_machine.specs.Views.{whole_of}
use Rattle.gx_machine.proofs.Steps.{run_err, some_of, step_ok}
use Rattle.gx_machine.proofs.machine.Machine.run.Goals as goal

pub returns-in_err-effect-clause-step : goal.returns-in_err-effect-clause-step
returns-in_err-effect-clause-step g c =
    let p = err_from_is_err_and c.from_residual.result c.from_residual.ensures.1 in
    let e = c.in_err-effect.ensures in
    let w : Whole = whole_of c.self.inside in
    let live = subst (λ (x : Whole). 0 < sp_of x.machine.flat) (sym c.self.view_is) c.requires.live in
    let running = subst (λ (x : Whole). x.machine.flat.mode ≡ Running) (sym c.self.view_is) c.requires.running in
    let none : w.asking ≡ None = subst (λ (x : Whole). x.asking ≡ None) (sym c.self.view_is) c.requires.asks in
    let same : w.asking ≡ option_map (λ (q : Pending). q.asking) c.run.new.pending =
    none ∙ sym (ap (option_map (λ (q : Pending). q.asking)) e.stays) in
    rw (p.1, p.2)
    (subst (λ (x : Whole). ◌≡◌ {A = Whole × ℕ} (
      record {
        machine = record { flat = c.run.new.state.flat; undo = c.run.new.undo };
        asking = option_map (λ (q : Pending). q.asking) c.run.new.pending;
      },
      c.args.budget.now,
    ) (x, c.args.budget.now)
    × IsRefused (IsStepWriting x.machine c.args.budget.now) c.in_err-effect.field-0.0
    (stepped x c.args.word c.args.budget.now))
    c.self.view_is
    (subst (λ (a : Option Asking). ◌≡◌ {A = Whole × ℕ} (
      record { machine = record { flat = c.run.new.state.flat; undo = c.run.new.undo }; asking = a },
      c.args.budget.now,
    ) (w, c.args.budget.now)
    × IsRefused (IsStepWriting w.machine c.args.budget.now) c.in_err-effect.field-0.0
    (stepped w c.args.word c.args.budget.now))
    same
    (run_err w c.args.word c.args.budget.now c.run.new.left _ c.in_err-effect.field-0.0 c.requires.some live running
    e.value.0 e.affords e.value.1)))

pub returns : goal.returns
returns g c =
    let e = c.in_ok-effect.ensures in
    let w : Whole = whole_of c.self.inside in
    let live = subst (λ (x : Whole). 0 < sp_of x.machine.flat) (sym c.self.view_is) c.requires.live in
    let running = subst (λ (x : Whole). x.machine.flat.mode ≡ Running) (sym c.self.view_is) c.requires.running in
    record {
      step = subst (λ (x : Whole). stepped x c.args.word c.args.budget.now
          ≡ Ok (
            (
              record {
                machine = record { flat = c.run.new.state.flat; undo = c.run.new.undo };
                asking = option_map (λ (p : Pending). p.asking) c.run.new.pending;
              },
              c.run.new.left,
            ),
            c.in_ok-effect.effect,
          ))
          c.self.view_is (step_ok w c.args.word c.args.budget.now c.run.new.left _ c.in_ok-effect.effect _
          c.requires.some live running c.in_default.not-Spent e.asks e.value);
      stands = λ some. subst (λ (x : Whole). record { flat = c.run.new.state.flat; undo = c.run.new.undo }
          ≡ x.machine) c.self.view_is
          (e.stands (some_of c.run.new.pending (subst IsSome e.asks some)));
    }
