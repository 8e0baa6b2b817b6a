use Rattle.std.proofs.Common.{◌≡◌, ℕ, ◌*◌, List, length, take, ap, ◌∙◌, arith}
use Rattle.std.proofs.lemmas.List.{length-take-le, take-replicate}
use Rattle.gx_pages.specs.Chunks.{flat}
use Rattle.gx_pages.specs.Leaves.{leaf_bytes}
use Rattle.gx_pages.proofs.Top.{length-leaves}
use Rattle.gx_pages.proofs.table.Table.filled.Goals as goal

pub returns-clause-size : goal.returns-clause-size
returns-clause-size g c =
    let all = c.in_ok-leaves.leaves.items in
    let full : length (flat leaf_bytes all) ≡ 65536 * length all = length-leaves all c.in_ok-leaves.ensures.whole in
    length-take-le c.args.size (flat leaf_bytes all)
    (omega (arith, c.in_ok-leaves.ensures.count, c.leaves_for.ensures.reach))

pub returns-clause-zero : goal.returns-clause-zero
returns-clause-zero g c = λ zero.
    ap (λ (m : List ℕ). take c.args.size m) (c.in_ok-leaves.ensures.zero zero)
    ∙ take-replicate {X = ℕ} c.args.size (65536 * c.leaves_for.result) 0 c.leaves_for.ensures.reach
