use Rattle.std.proofs.Common.{◌≡◌, ◌++◌, drop, take, map}
use Rattle.glk_objects.specs.Objects.{AreRising}
use Rattle.glk_windows.specs.Windows.{entry_id}
use Rattle.glk_windows.specs.Changes.{forgetting}
use Rattle.glk_windows.proofs.entries.forget.Given as goal

abbrev pub invariant-loop-at : goal.invariant-loop-at
invariant-loop-at l = record {
  done : l.entries.items ≡ map (forgetting l.streams) (take l.at l.initial.entries.items)
      ++ drop l.at l.initial.entries.items;
  rises : AreRising entry_id l.entries.items;
}
