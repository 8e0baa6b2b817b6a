-- a step of printing costs one unit
use Rattle.std.proofs.Common.{◌≡◌, ◌≢◌, ◌-◌, ◌<◌, ℕ, Option, None, Ok, ap, subst, sym, ◌∙◌}
use Rattle.std.proofs.lemmas.Result.{err_from_is_err_and}
use Rattle.std.specs.Option.{option_map}
use Rattle.gx_words.specs.Faults.{IsRefused}
use Rattle.gx_state.specs.declared.modes.Mode.TheVariants.{Running}
use Rattle.gx_state.specs.Flat.{sp_of}
use Rattle.gx_machine.specs.declared.askings.Asking.{Asking}
use Rattle.gx_machine.specs.declared.machine.Pending.{Pending}
use Rattle.gx_machine.specs.Machine.{Whole}
use Rattle.gx_machine.specs.Step.{stepped}
use Rattle.gx_machine.specs.Views.{whole_of}
use Rattle.gx_machine.proofs.Steps.{print_ok, print_stands}
use Rattle.gx_machine.proofs.machine.Machine.print.Goals as goal

pub returns-in_err-effect-clause-step : goal.returns-in_err-effect-clause-step
returns-in_err-effect-clause-step g c =
    let p = err_from_is_err_and c.from_residual.result c.from_residual.ensures.1 in
    let e = c.in_err-effect.ensures in
    let w : Whole = whole_of c.self.inside in
    let live = subst (λ (x : Whole). 0 < sp_of x.machine.flat) (sym c.self.view_is) c.requires.live in
    let printing = subst (λ (x : Whole). x.machine.flat.mode ≢ Running) (sym c.self.view_is) c.requires.printing in
    let none : w.asking ≡ None = subst (λ (x : Whole). x.asking ≡ None) (sym c.self.view_is) c.requires.asks in
    let same : w.asking ≡ option_map (λ (q : Pending). q.asking) c.print.new.pending =
    none ∙ sym (ap (option_map (λ (q : Pending). q.asking)) e.stays) in
    rw (p.1, p.2)
    (λ word. subst (λ (x : Whole). ◌≡◌ {A = Whole × ℕ} (
      record {
        machine = record { flat = c.print.new.state.flat; undo = c.self.inside.undo };
        asking = option_map (λ (q : Pending). q.asking) c.print.new.pending;
      },
      c.args.budget.now,
    )
    (x, c.args.budget.now) × IsRefused ⊥ c.in_err-effect.field-0.0 (stepped x word c.args.budget.now))
    c.self.view_is
    (subst (λ (a : Option Asking). ◌≡◌ {A = Whole × ℕ} (
      record { machine = record { flat = c.print.new.state.flat; undo = c.self.inside.undo }; asking = a },
      c.args.budget.now,
    ) (w, c.args.budget.now)
    × IsRefused ⊥ c.in_err-effect.field-0.0 (stepped w word c.args.budget.now))
    same
    (print_stands w word c.args.budget.now c.print.new.state.flat c.in_err-effect.field-0.0 c.requires.some live
    printing e.value.0 e.value.1)))

pub returns-clause-step : goal.returns-clause-step
returns-clause-step g c =
    let e = c.in_ok-effect.ensures in
    let w : Whole = whole_of c.self.inside in
    let live = subst (λ (x : Whole). 0 < sp_of x.machine.flat) (sym c.self.view_is) c.requires.live in
    let printing = subst (λ (x : Whole). x.machine.flat.mode ≢ Running) (sym c.self.view_is) c.requires.printing in
    λ word. subst (λ (x : Whole). stepped x word c.args.budget.now
    ≡ Ok (
      (
        record {
          machine = record { flat = c.print.new.state.flat; undo = c.self.inside.undo };
          asking = option_map (λ (p : Pending). p.asking) c.print.new.pending;
        },
        c.args.budget.now - 1,
      ),
      c.in_ok-effect.effect,
    ))
    c.self.view_is (print_ok w word c.args.budget.now c.print.new.state.flat c.in_ok-effect.effect _ c.requires.some
    live printing e.asks e.value)
