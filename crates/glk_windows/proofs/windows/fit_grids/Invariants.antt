use Rattle.std.proofs.Common.{◌≡◌, ◌++◌, drop, take, map}
use Rattle.glk_objects.specs.Objects.{AreRising}
use Rattle.glk_windows.specs.Grids.{grid_id, sized_to}
use Rattle.glk_windows.specs.Windows.{tree_of, sizes_in}
use Rattle.glk_windows.proofs.windows.fit_grids.Given as goal

abbrev pub invariant-loop-at : goal.invariant-loop-at
invariant-loop-at l = record {
  done : l.grids.items ≡ map (λ g. sized_to (sizes_in (tree_of l.tree) l.screen g.id) g)
      (take l.at l.initial.grids.items)
      ++ drop l.at l.initial.grids.items;
  rises : AreRising grid_id l.grids.items;
}
