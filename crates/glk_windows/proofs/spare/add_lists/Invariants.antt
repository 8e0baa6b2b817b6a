use Rattle.std.proofs.Common.{◌≡◌, ◌≤◌, vec_len}
use Rattle.glk_windows.specs.Spare.{HaveRoom}
use Rattle.glk_windows.proofs.spare.add_lists.Given as goal

abbrev pub invariant-loop-at : goal.invariant-loop-at
invariant-loop-at l = record {
  len : vec_len l.lists ≡ l.at;
  kept : vec_len l.initial.lists ≤ vec_len l.lists;
  room : HaveRoom 0 l.lists.items;
}
