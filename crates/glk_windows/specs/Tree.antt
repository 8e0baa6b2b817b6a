-- The tree of windows (Glk 0.7.5, "Window Arrangement"): a pair window has two children, every other window none.
use Rattle.std.specs.Prelude.{ℕ, ◌-◌, ◌*◌, ◌/◌, ◌%◌, ◌==◌, ◌||◌, ◌&&◌, min, Bool, false, if◌then◌else◌, List, [], ◌∷◌}
use Rattle.std.specs.Prelude.{◌++◌, Option, Some, None}
use Rattle.std.specs.Option.{option_or}
use Rattle.std.specs.List.{list_any}
use Rattle.glk_windows.specs.Constants.{fixed}
use Rattle.glk_windows.specs.declared.tree.Arrangement.{Arrangement}
use Rattle.glk_windows.specs.declared.tree.Pair.{Pair}
use Rattle.glk_windows.specs.declared.tree.Tree.{Tree}
use Rattle.glk_windows.specs.declared.tree.Tree.TheVariants as tree
use Rattle.glk_windows.specs.Methods.{direction, division, is_method, is_across}

-- a window that isn't a pair, or a pair with its first and its second child
pub data Shape : Type 0 where
  One : ℕ → Shape
  Two : Arrangement → Shape → Shape → Shape

abbrev pub shape_of : Tree → Shape
shape_of (tree.Leaf id) = One id
shape_of (tree.Pair' a _ first _ second) = Two a (shape_of first) (shape_of second)

abbrev pub shape_id : Shape → ℕ
shape_id (One id) = id
shape_id (Two a first second) = a.id

-- ---- sizes: the root has the whole screen, and there are no borders

-- what a pair's second child gets of so many columns or rows
abbrev pub share : Arrangement → ℕ → ℕ
share a total = if division a.method == fixed then (if a.key == 0 || a.key_is_blank then 0 else min total a.size)
    else min total (total * a.size / 100)

-- the columns and rows of the second child, and of the first, which has the rest
abbrev pub second_area : Arrangement → ℕ × ℕ → ℕ × ℕ
second_area a area = if is_across a.method then (share a area.0, area.1) else (area.0, share a area.1)

abbrev pub first_area : Arrangement → ℕ × ℕ → ℕ × ℕ
first_area a area = if is_across a.method then (area.0 - share a area.0, area.1) else (area.0, area.1 - share a area.1)

-- the columns and rows of a window, if it is there
abbrev pub area_in : Shape → ℕ × ℕ → ℕ → Option (ℕ × ℕ)
area_in (One id) area win = if id == win then Some area else None
area_in (Two a first second) area win = if a.id == win then Some area else
    option_or (area_in first (first_area a area) win) (area_in second (second_area a area) win)

-- ---- what is where

-- the part of a tree from a window down
abbrev pub part_from : Shape → ℕ → Option Shape
part_from (One id) win = if id == win then Some (One id) else None
part_from (Two a first second) win =
    if a.id == win then Some (Two a first second) else option_or (part_from first win) (part_from second win)

-- the windows of a part of the tree
abbrev pub ids_in : Shape → List ℕ
ids_in (One id) = id ∷ []
ids_in (Two a first second) = a.id ∷ (ids_in first ++ ids_in second)

-- a window of a part of the tree that isn't a pair
abbrev pub has_leaf : Shape → ℕ → Bool
has_leaf (One id) win = id == win
has_leaf (Two a first second) win = has_leaf first win || has_leaf second win

-- the pair above a window, 0 for none
abbrev pub parent_in : Shape → ℕ → ℕ
parent_in (One id) win = 0
parent_in (Two a first second) win = if shape_id first == win || shape_id second == win then a.id else
    if parent_in first win == 0 then parent_in second win else parent_in first win

-- a pair window as the story sees it
abbrev pub pair_of : Shape → Option Pair
pair_of (One id) = None
pair_of (Two a first second) =
    Some (record { first = shape_id first; second = shape_id second; method = a.method; size = a.size; key = a.key })

-- ---- changes

-- a pair takes a window's place, with that window as its first child and a new one as its second
abbrev pub split_in : Shape → ℕ → Arrangement → ℕ → Shape
split_in (One id) split a new = if id == split then Two a (One id) (One new) else One id
split_in (Two b first second) split a new = if b.id == split then Two a (Two b first second) (One new) else
    Two b (split_in first split a new) (split_in second split a new)

-- a window below the root is closed: its sibling takes the place of their pair
abbrev pub closed_in : Shape → ℕ → Shape
closed_in (One id) win = One id
closed_in (Two a first second) win = if shape_id first == win then second else
    if shape_id second == win then first else Two a (closed_in first win) (closed_in second win)

abbrev pub is_among : List ℕ → ℕ → Bool
is_among ids id = list_any (λ other. other == id) ids

-- keys that are gone become none
abbrev pub unkeyed : List ℕ → Shape → Shape
unkeyed gone (One id) = One id
unkeyed gone (Two a first second) =
    Two (record a { key = if is_among gone a.key then 0 else a.key }) (unkeyed gone first) (unkeyed gone second)

-- a pair may get this method and this key: the direction stays on its axis, left and right or above and below, and the
-- key is none or a window below it that isn't a pair
abbrev pub can_arrange : Shape → ℕ → ℕ → Bool
can_arrange (One id) method key = false
can_arrange (Two a first second) method key = is_method method && direction method / 2 == direction a.method / 2
    && (key == 0 || has_leaf first key || has_leaf second key)

-- the pair's arrangement after that; the key 0 leaves the key as it is
abbrev pub rearranged : Arrangement → ℕ → ℕ → ℕ → Bool → Arrangement
rearranged a method size key blank = let blank' = if key == 0 then a.key_is_blank else blank in
    record a { method = method % 256; size = size; key = if key == 0 then a.key else key; key_is_blank = blank' }

-- The pair of that identifier gets it. Where the direction changes, its children are exchanged, so that each keeps
-- its side of the screen, and the other one becomes that of which the size speaks.
abbrev pub arranged_in : Shape → ℕ → ℕ → ℕ → ℕ → Bool → Shape
arranged_in (One id) win method size key blank = One id
arranged_in (Two a first second) win method size key blank = let new = rearranged a method size key blank in
    if a.id == win then (if direction method == direction a.method then Two new first second else Two new second first)
    else Two a (arranged_in first win method size key blank) (arranged_in second win method size key blank)
