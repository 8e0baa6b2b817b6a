-- Leaves as memory.
use Rattle.std.proofs.Common.{◌≡◌, ℕ, ◌+◌, ◌*◌, ◌≤◌, List, length, take, sym, ap, ◌∙◌, arith}
use Rattle.std.proofs.lemmas.List.{length-take-le}
use Rattle.std.specs.declared.rc.Rc.{Rc}
use Rattle.gx_words.specs.Numbers.{spliced}
use Rattle.gx_pages.specs.declared.node.Node.{Node}
use Rattle.gx_pages.specs.Chunks.{AllWhole, flat}
use Rattle.gx_pages.specs.Nodes.{length-flat, length-sixteen}
use Rattle.gx_pages.specs.Leaves.{IsPage, IsGroup, IsLeaf, IsTop, page_bytes, group_bytes, leaf_bytes}
use Rattle.gx_pages.proofs.Flat.{take-spliced}

pub group_sized : {Z : Type 0} (group : Node (List ℕ) Z) → IsGroup group → length (group_bytes group) ≡ 4096
group_sized group w = length-sixteen page_bytes IsPage 256 (λ page whole. whole) group.chunks w

pub leaf_sized : {Y Z : Type 0} (leaf : Node (Node (List ℕ) Z) Y) → IsLeaf leaf → length (leaf_bytes leaf) ≡ 65536
leaf_sized leaf w = length-sixteen group_bytes IsGroup 4096 group_sized leaf.chunks w

module _ {X Y Z : Type 0} where
  pub length-leaves : (leaves : List (Rc (Node (Node (List ℕ) Z) Y) X)) → AllWhole IsLeaf leaves
      → length (flat leaf_bytes leaves) ≡ 65536 * length leaves
  length-leaves leaves w = length-flat leaf_bytes IsLeaf 65536 leaf_sized leaves w

  -- as many bytes as the size says
  pub length-view : (leaves : List (Rc (Node (Node (List ℕ) Z) Y) X)) (size : ℕ) → IsTop leaves size
      → length (take size (flat leaf_bytes leaves)) ≡ size
  length-view leaves size top = length-take-le size (flat leaf_bytes leaves)
      (omega (arith, length-leaves leaves top.whole, top.reach))

  -- other leaves in place of as many
  pub top_kept : (ps ns : List (Rc (Node (Node (List ℕ) Z) Y) X)) (size : ℕ) → IsTop ps size → AllWhole IsLeaf ns
      → length ns ≡ length ps → IsTop ns size
  top_kept ps ns size top whole count = record {
    whole = whole;
    few = omega (arith, top.few);
    reach = omega (arith, top.reach);
    tight = omega (arith, top.tight);
    sized = top.sized;
  }

  pub view_spliced : (ps ns : List (Rc (Node (Node (List ℕ) Z) Y) X)) (size at : ℕ) (ys all : List ℕ) → IsTop ps size
      → take size (flat leaf_bytes ps) ≡ all → at + length ys ≤ length all
      → flat leaf_bytes ns ≡ spliced (flat leaf_bytes ps) at ys → take size (flat leaf_bytes ns) ≡ spliced all at ys
  view_spliced ps ns size at ys all top view inside e =
      let full : length (flat leaf_bytes ps) ≡ 65536 * length ps = length-leaves ps top.whole in
      let reach : size ≤ length (flat leaf_bytes ps) = omega (arith, top.reach) in
      let len : length all ≡ size = ap (λ (m : List ℕ). length m) (sym view) ∙ length-view ps size top in
      ap (take size) e ∙ take-spliced (flat leaf_bytes ps) ys at size (omega arith) reach
      ∙ ap (λ m. spliced m at ys) view

  pub view_kept : (ps ns : List (Rc (Node (Node (List ℕ) Z) Y) X)) (size : ℕ) (all : List ℕ) → IsTop ps size
      → IsTop ns size → take size (flat leaf_bytes ps) ≡ all → length (take size (flat leaf_bytes ns)) ≡ length all
  view_kept ps ns size all top new view =
      length-view ns size new ∙ sym (ap (λ (m : List ℕ). length m) (sym view) ∙ length-view ps size top)
