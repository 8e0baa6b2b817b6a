-- The definitions that the proofs of one call open together: most of them on both levels, that of the state and that of
-- its stack.
use Rattle.gx_stack.specs.Calls as calls
use Rattle.gx_stack.specs.Frames.{frame_in}
use Rattle.gx_stack.specs.Stubs as stubs
use Rattle.gx_stack.specs.Values as values
use Rattle.gx_state.specs.Calls.{pushed, pushed_all, with_local}
use Rattle.gx_state.specs.Copies.{restarted}
use Rattle.gx_state.specs.Entry.{entered, function_at}
use Rattle.gx_state.specs.Flat.{swapped, rolled, copied}
use Rattle.gx_state.specs.Returns.{pushed_stubs, stub_to, delivered, returned}
use Rattle.gx_state.specs.Stores.{stored, store_fault}

unfoldable pub pushing : Unit {0}
unfolding pushed calls.pushed
pushing = tt

unfoldable pub pushing_all : Unit {0}
unfolding pushed_all calls.pushed_all
pushing_all = tt

unfoldable pub pushing_stubs : Unit {0}
unfolding pushed_stubs stubs.pushed_stubs
pushing_stubs = tt

-- stubs that fit, one or several
unfoldable pub fitting_stubs : Unit {0}
unfolding stubs.pushed_stubs calls.pushed_stub
fitting_stubs = tt

unfoldable pub swapping : Unit {0}
unfolding swapped rolled values.rolled
swapping = tt

unfoldable pub copying : Unit {0}
unfolding copied values.copied
copying = tt

unfoldable pub setting_local : Unit {0}
unfolding with_local calls.with_local
setting_local = tt

-- a store, and what it is on the stack
unfoldable pub storing : Unit {0}
unfolding stored store_fault
storing = tt

unfoldable pub storing_anywhere : Unit {0}
unfolding storing pushing setting_local
storing_anywhere = tt

-- a value that is delivered to a stub: in memory, and to any place
unfoldable pub delivering : Unit {0}
unfolding delivered storing
delivering = tt

unfoldable pub delivering_local : Unit {0}
unfolding delivering setting_local
delivering_local = tt

unfoldable pub delivering_push : Unit {0}
unfolding delivering pushing
delivering_push = tt

unfoldable pub delivering_anywhere : Unit {0}
unfolding delivering setting_local pushing
delivering_anywhere = tt

-- the stub that a return finds, and its frame
unfoldable pub resuming : Unit {0}
unfolding stub_to frame_in
resuming = tt

unfoldable pub returning : Unit {0}
unfolding returned delivering
returning = tt

unfoldable pub entering : Unit {0}
unfolding entered function_at
entering = tt

unfoldable pub restarting : Unit {0}
unfolding restarted entered
restarting = tt
