use Rattle.std.proofs.Common.{◌≡◌, ◌*◌, length, replicate}
use Rattle.gx_pages.specs.Chunks.{AllWhole, flat}
use Rattle.gx_pages.specs.Leaves.{IsLeaf, leaf_bytes}
use Rattle.gx_pages.proofs.table.filled_leaves.Given as goal

abbrev pub invariant-loop-leaf : goal.invariant-loop-leaf
invariant-loop-leaf g l = record {
  whole : AllWhole IsLeaf l.leaves.items;
  zero : l.page.value ≡ replicate 256 0 → flat leaf_bytes l.leaves.items ≡ replicate (65536 * l._leaf) 0;
  count : length l.leaves.items ≡ l._leaf;
}
