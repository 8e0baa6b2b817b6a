use Rattle.std.proofs.Common.{◌≡◌, take}
use Rattle.gx_state.proofs.state.State.heap_list.Given as goal

abbrev pub invariant-loop-block : goal.invariant-loop-block
invariant-loop-block g l = l.blocks ≡ take l.block-index l.all
