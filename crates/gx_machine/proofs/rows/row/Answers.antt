-- a row of Copy or Memory, within the budget
use Rattle.std.proofs.Common.{◌≡◌, ◌⊎◌, subst}
use Rattle.gx_rows.specs.declared.instructions.Class.TheVariants as class
use Rattle.gx_rows.specs.declared.instructions.Row.{Row}
use Rattle.gx_operands.specs.Plans.{instruction_of}
use Rattle.gx_machine.specs.Views.{machine_with}
use Rattle.gx_machine.proofs.Charges.{memory_does}
use Rattle.gx_machine.proofs.rows.row.Goals as goal

pub returns-in-Copy-clause-value : goal.returns-in-Copy-clause-value
returns-in-Copy-clause-value g c =
    memory_does (machine_with c.args.state.now c.args.undo.now) _ c.args.word c.args.left.now _
    (instruction_of c.args.plan.now) _ _
    (subst (λ (r : Row). (r.class ≡ class.Copy) ⊎ (r.class ≡ class.Memory)) c.row.ensures.value c.in-Copy.is)
    c.act-in-Copy.ensures.value
