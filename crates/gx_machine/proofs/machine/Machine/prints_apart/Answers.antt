-- an instruction or none, and items
use Rattle.gx_machine.proofs.Starts.{tried_then}
use Rattle.gx_machine.proofs.machine.Machine.prints_apart.Goals as goal

pub returns-clause-value : goal.returns-clause-value
returns-clause-value g c =
    tried_then (c.args.self.now, c.args.budget.now) (c.pass_start.new.self, c.pass_start.new.budget)
    (c.prints_items.new.self, c.prints_items.new.budget)
    c.pass_start.result c.pass_start.ensures.backs c.pass_start.ensures.value c.prints_items.ensures.value
