-- a character that is dropped costs one unit
use Rattle.std.proofs.Common.{◌≡◌, ◌<◌, ◌-◌, None, Ok, subst, sym, ◌∙◌}
use Rattle.gx_words.specs.declared.strings.Printing.{Printing}
use Rattle.gx_state.specs.declared.effects.Effect.TheVariants.{Went}
use Rattle.gx_state.specs.declared.modes.Mode.TheVariants as mode
use Rattle.gx_state.specs.Flat.{sp_of}
use Rattle.gx_machine.specs.Machine.{Whole}
use Rattle.gx_machine.specs.Step.{stepped}
use Rattle.gx_machine.specs.Views.{whole_of}
use Rattle.gx_machine.proofs.Steps.{print_ok}
use Rattle.gx_machine.proofs.machine.Machine.pass_char.Goals as goal

not_running : (p : Printing) → mode.Printing p ≡ mode.Running → ⊥
not_running p same = cc

pub returns-then-quick_item-clause-value : goal.returns-then-quick_item-clause-value
returns-then-quick_item-clause-value g c =
    let w : Whole = whole_of c.self.inside in
    let live = subst (λ (x : Whole). 0 < sp_of x.machine.flat) (sym c.self.view_is) c.requires.live in
    let prints : w.machine.flat.mode ≡ mode.Printing c.args.printing.now =
    subst (λ (x : Whole). x.machine.flat.mode ≡ mode.Printing c.args.printing.now)
    (sym c.self.view_is) c.requires.printing in
    let asks : w.asking ≡ None = subst (λ (x : Whole). x.asking ≡ None) (sym c.self.view_is) c.requires.asks in
    let done = rw c.if-quick_item.true at c.quick_item.ensures.value in
    λ word. subst (λ (x : Whole). stepped x word c.args.budget.now
    ≡ Ok (
      (
        record {
          machine = record { flat = c.quick_item.new.state.flat; undo = c.self.inside.undo };
          asking = w.asking;
        },
        c.args.budget.now - 1,
      ),
      Went,
    ))
    c.self.view_is
    (print_ok w word c.args.budget.now c.quick_item.new.state.flat Went w.asking c.requires.some live
    (λ running. not_running c.args.printing.now (sym prints ∙ running)) (sym asks) done)
