use Rattle.std.proofs.Common.{◌≡◌, ◌+◌, [], ◌∷◌, ◌++◌, ap, subst, sym, ◌∙◌}
use Rattle.std.proofs.lemmas.List.{length_push}
use Rattle.gx_pages.specs.Leaves.{IsLeaf, leaf_bytes, group_bytes}
use Rattle.gx_pages.proofs.Flat.{AllWhole-append, zeros_more}
use Rattle.gx_pages.proofs.table.filled_leaves.Goals as goal

pub loop-leaf-preserved : goal.loop-leaf-preserved
loop-leaf-preserved g c =
    let q = c.in_ok-clone.field-0 in
    let v = c.in_ok-clone.ensures.cases ∙ c.in_ok-leaf.ensures.ok in
    let ps = c.loop-leaf.leaves.items in
    let i : c.push.new.self.items ≡ ps ++ q ∷ [] = c.in_ok-push.ensures.items in
    rw i (record {
      whole = AllWhole-append IsLeaf ps (q ∷ []) c.loop-leaf.invariant.whole
          (subst IsLeaf (sym v) c.in_ok-filled-2.ensures.whole, tt);
      zero = λ zero. zeros_more leaf_bytes 65536 c.loop-leaf._leaf ps q
          (ap leaf_bytes v ∙ c.in_ok-filled-2.ensures.zero
          (ap group_bytes c.in_ok-group.ensures.ok ∙ c.in_ok-filled.ensures.zero zero))
          (c.loop-leaf.invariant.zero zero);
      count = length_push ps q ∙ ap (λ n. n + 1) c.loop-leaf.invariant.count;
    })
