-- Pages as a group, groups as a leaf, and leaves as memory.
use Rattle.std.specs.Prelude.{◌≡◌, ℕ, ◌+◌, ◌*◌, ◌/◌, ◌<◌, ◌≤◌, List, length}
use Rattle.std.specs.declared.rc.Rc.{Rc}
use Rattle.gx_words.specs.Constants.{ceiling}
use Rattle.gx_pages.specs.Memory.{IsSize}
use Rattle.gx_pages.specs.Chunks.{AllWhole, AreSixteen, flat}
use Rattle.gx_pages.specs.declared.node.Node.{Node}

abbrev pub page_bytes : List ℕ → List ℕ
page_bytes page = page

abbrev pub IsPage : List ℕ → Type 0
IsPage page = length page ≡ 256

abbrev pub group_bytes : {Z : Type 0} → Node (List ℕ) Z → List ℕ
group_bytes group = flat page_bytes group.chunks

abbrev pub IsGroup : {Z : Type 0} → Node (List ℕ) Z → Type 0
IsGroup group = AreSixteen IsPage group.chunks

abbrev pub leaf_bytes : {Y Z : Type 0} → Node (Node (List ℕ) Z) Y → List ℕ
leaf_bytes leaf = flat group_bytes leaf.chunks

abbrev pub IsLeaf : {Y Z : Type 0} → Node (Node (List ℕ) Z) Y → Type 0
IsLeaf leaf = AreSixteen IsGroup leaf.chunks

-- how many leaves the largest memory has
abbrev pub most_leaves : ℕ
most_leaves = ceiling / 65536

-- as many leaves as reach to the size of memory
pub record IsTop {X Y Z : Type 0} (leaves : List (Rc (Node (Node (List ℕ) Z) Y) X)) (size : ℕ) : Type 0 where
  pub whole : AllWhole IsLeaf leaves
  pub few : length leaves ≤ most_leaves
  pub reach : size ≤ 65536 * length leaves
  pub tight : 65536 * length leaves < size + 65536
  pub sized : IsSize size
