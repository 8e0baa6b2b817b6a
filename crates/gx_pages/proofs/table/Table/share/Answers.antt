use Rattle.std.proofs.Common.{◌≡◌, ℕ, List, length, Result, Ok, Err, OnErr, ap, sym, ◌∙◌, arith}
use Rattle.gx_pages.proofs.Top.{length-view}
use Rattle.gx_pages.proofs.table.Table.share.Goals as goal

on_err_known : {T E P : Type 0} (r : Result T E) → P → OnErr r P
on_err_known (Ok x) p = tt
on_err_known (Err e) p = p

pub returns-in_err-share-clause-memory : goal.returns-in_err-share-clause-memory
returns-in_err-share-clause-memory g c =
    let ps = c.self.inside.leaves.items in
    let n = c.self.inside.size in
    let view : length c.args.self.now ≡ n = ap (λ (m : List ℕ). length m) (sym c.self.view_is)
    ∙ length-view ps n c.self.invariant in
    on_err_known c.from_residual.result (omega (arith, c.in_err-share.ensures.memory, c.self.invariant.tight))
