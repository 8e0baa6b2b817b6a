-- an instruction that begins to print, or drops a character, costs one unit
use Rattle.std.proofs.Common.{◌≡◌, ◌<◌, ◌-◌, None, Ok, subst, sym}
use Rattle.gx_state.specs.declared.effects.Effect.TheVariants.{Went}
use Rattle.gx_state.specs.declared.modes.Mode.TheVariants.{Running}
use Rattle.gx_state.specs.Flat.{sp_of}
use Rattle.gx_machine.specs.Machine.{Whole}
use Rattle.gx_machine.specs.Step.{stepped}
use Rattle.gx_machine.specs.Views.{whole_of}
use Rattle.gx_machine.proofs.Passing.{pass_ok}
use Rattle.gx_machine.proofs.Starts.{started_probes, started_steps}
use Rattle.gx_machine.proofs.machine.Machine.pass_started.Goals as goal

pub returns-then-start-clause-value : goal.returns-then-start-clause-value
returns-then-start-clause-value g c =
    let w : Whole = whole_of c.self.inside in
    let live = subst (λ (x : Whole). 0 < sp_of x.machine.flat) (sym c.self.view_is) c.requires.live in
    let running = subst (λ (x : Whole). x.machine.flat.mode ≡ Running) (sym c.self.view_is) c.requires.running in
    let asks : w.asking ≡ None = subst (λ (x : Whole). x.asking ≡ None) (sym c.self.view_is) c.requires.asks in
    let started = c.start.ensures.value c.if-start.true in
    let free = started_probes w.machine.flat c.start.new.state.flat started in
    λ word. subst (λ (x : Whole). stepped x word c.args.budget.now
    ≡ Ok (
      (
        record {
          machine = record { flat = c.start.new.state.flat; undo = c.self.inside.undo };
          asking = w.asking;
        },
        c.args.budget.now - 1,
      ),
      Went,
    ))
    c.self.view_is
    (pass_ok w word c.args.budget.now (record { flat = c.start.new.state.flat; undo = c.self.inside.undo })
    c.requires.some live running asks free
    (started_steps w.machine.flat c.start.new.state.flat started c.self.inside.undo word))
