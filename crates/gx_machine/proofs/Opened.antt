-- The definitions that the proofs of one function open together.
use Rattle.gx_stack.specs.Calls as calls
use Rattle.gx_state.specs.Calls.{pushed, pushed_all, with_local}
use Rattle.gx_state.specs.Stores.{store_fault}
use Rattle.ops_flow.specs.FlowRows.{computes, jumps, flow, callf}
use Rattle.ops_memory.specs.MemoryRows.{memory, copy, aload, aloads, aloadb, astore, astores, astoreb}

-- a store in a local, on both levels
unfoldable pub setting_local : Unit {0}
unfolding store_fault with_local calls.with_local
setting_local = tt

-- a value or several, on both levels
unfoldable pub pushing : Unit {0}
unfolding pushed pushed_all calls.pushed calls.pushed_all
pushing = tt

-- the rows that a shape of operands may have
unfoldable pub rows_of_two_and_store : Unit {0}
unfolding computes flow callf memory aload aloads aloadb
rows_of_two_and_store = tt

unfoldable pub rows_of_three : Unit {0}
unfolding jumps memory astore astores astoreb
rows_of_three = tt

unfoldable pub rows_of_one_and_store : Unit {0}
unfolding computes flow callf copy
rows_of_one_and_store = tt
