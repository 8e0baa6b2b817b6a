use Rattle.std.proofs.Common.{ℕ, List, length, ap, sym, ◌∙◌}
use Rattle.gx_pages.proofs.Top.{length-view}
use Rattle.gx_pages.proofs.table.Table.size.Goals as goal

pub returns-clause-value : goal.returns-clause-value
returns-clause-value g c =
    sym (ap (λ (v : List ℕ). length v) (sym c.self.view_is)
    ∙ length-view c.self.inside.leaves.items c.self.inside.size c.self.invariant)
