-- the character of an item is asked for one unit; where there is none, the step puts nothing
use Rattle.std.proofs.Common.{◌≡◌, ◌≢◌, ◌-◌, ◌≤◌, ℕ, None, false, IfSome, IfOk, Ok, subst, arith}
use Rattle.std.specs.Option.{option_map}
use Rattle.gx_state.specs.declared.effects.Effect.TheVariants.{Put}
use Rattle.gx_state.specs.declared.modes.Mode.TheVariants.{Running}
use Rattle.ops_print.specs.Asks.{is_put}
use Rattle.gx_machine.specs.declared.machine.Pending.{Pending}
use Rattle.gx_machine.specs.Machine.{Whole}
use Rattle.gx_machine.specs.Step.{stepped}
use Rattle.gx_machine.specs.Views.{whole_of}
use Rattle.gx_machine.proofs.Steps.{puts_ok, prints_rest}
use Rattle.gx_machine.proofs.machine.Machine.next_put.Goals as goal

pub returns-clause-value : goal.returns-clause-value
returns-clause-value g c =
    let w : Whole = whole_of c.self.inside in
    let some : 1 ≤ c.args.budget = omega (arith, c.if-budget-eq0.false) in
    subst (λ (x : Whole). IfSome c.next_put.result
    (λ n. (word : ℕ) → stepped x word c.args.budget
    ≡ Ok (
      (
        record {
          machine = record { flat = c.self.inside.state.flat; undo = c.self.inside.undo };
          asking = option_map (λ (p : Pending). p.asking) c.next_put.new.pending;
        },
        c.args.budget - 1,
      ),
      Put n,
    )))
    c.self.view_is
    (puts_ok w c.args.budget c.next_put.new.pending c.next_put.result some c.next_put.ensures.live
    c.next_put.ensures.value c.next_put.ensures.probes c.next_put.ensures.asks)

pub returns-clause-rest : goal.returns-clause-rest
returns-clause-rest g c =
    let w : Whole = whole_of c.self.inside in
    let some : 1 ≤ c.args.budget = omega (arith, c.if-budget-eq0.false) in
    subst (λ (x : Whole). c.next_put.result ≡ None → x.machine.flat.mode ≢ Running → (word : ℕ)
    → IfOk (stepped x word c.args.budget) (λ r. is_put r.1 ≡ false))
    c.self.view_is
    (λ none printing word. prints_rest w word c.args.budget some c.next_put.ensures.live printing
    (c.next_put.ensures.rest none printing))
