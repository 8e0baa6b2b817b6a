use Rattle.std.proofs.Common.{◌≡◌, ℕ, ◌+◌, ◌*◌, ◌<◌, ◌≤◌, List, length, take, length-take, ap, sym, ◌∙◌, arith}
use Rattle.std.proofs.lemmas.List.{take-take}
use Rattle.gx_pages.specs.Chunks.{flat}
use Rattle.gx_pages.specs.Leaves.{IsLeaf, leaf_bytes}
use Rattle.gx_pages.proofs.Flat.{AllWhole-take, flat-take}
use Rattle.gx_pages.proofs.Top.{leaf_sized, length-view}
use Rattle.gx_pages.proofs.table.Table.cut.Goals as goal

pub invariant_of-self : goal.invariant_of-self
invariant_of-self g c =
    let ps = c.self.inside.leaves.items in
    let n = c.self.inside.size in
    let j = c.leaves_for.result in
    let reach : n ≤ 65536 * length ps = c.self.invariant.reach in
    let view : length c.args.self.now ≡ n = ap (λ (m : List ℕ). length m) (sym c.self.view_is)
    ∙ length-view ps n c.self.invariant in
    let below : c.args.size ≤ n = omega (arith, c.requires.below) in
    let r : c.args.size ≤ 65536 * j = c.leaves_for.ensures.reach in
    let t : 65536 * j < c.args.size + 65536 = c.leaves_for.ensures.tight in
    rw c.truncate.ensures.items (record {
      whole = AllWhole-take IsLeaf ps j c.self.invariant.whole;
      few = simp length-take (omega (arith, c.self.invariant.few));
      reach = simp length-take (omega arith);
      tight = simp length-take (omega arith);
      sized = c.requires.whole;
    })

pub returns : goal.returns
returns g c =
    let ps = c.self.inside.leaves.items in
    let n = c.self.inside.size in
    let j = c.leaves_for.result in
    let view : length c.args.self.now ≡ n = ap (λ (m : List ℕ). length m) (sym c.self.view_is)
    ∙ length-view ps n c.self.invariant in
    let below : c.args.size ≤ n = omega (arith, c.requires.below) in
    rw (c.truncate.ensures.items, ← c.self.view_is)
    (ap (take c.args.size) (flat-take leaf_bytes IsLeaf 65536 leaf_sized ps j (65536 * j)
    (λ i. 65536 * j) c.self.invariant.whole)
    ∙ take-take c.args.size (65536 * j) (flat leaf_bytes ps) c.leaves_for.ensures.reach
    ∙ sym (take-take c.args.size n (flat leaf_bytes ps) below))
