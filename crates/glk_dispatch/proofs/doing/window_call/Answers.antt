-- Each call does what its row says; what fits any state or any room fits those of the call.
use Rattle.std.proofs.Common.{◌≡◌, None, arith}
use Rattle.std.proofs.lemmas.Bool.Decides.{nat_tests}
use Rattle.std.proofs.lemmas.Grind.{common_steps}
use Rattle.glk_object_calls.specs.Windows.{window_clear, window_move_cursor, window_set_echo_stream}
use Rattle.glk_object_calls.specs.Windows.{set_window}
use Rattle.glk_dispatch.specs.ObjectCalls.{window_calls}
use Rattle.glk_dispatch.specs.Ready.{window_call_row}
use Rattle.glk_dispatch.proofs.Turning.{never_wants, no_call}
use Rattle.glk_dispatch.proofs.doing.window_call.Goals as goal

pub returns-in-42-clause-fits : goal.returns-in-42-clause-fits
returns-in-42-clause-fits g c = c.window_clear.ensures.fits c.args.state.now.flat c.args.room

pub returns-in-43-clause-fits : goal.returns-in-43-clause-fits
returns-in-43-clause-fits g c = c.window_move_cursor.ensures.fits c.args.state.now.flat c.args.room

pub returns-in-45-clause-fits : goal.returns-in-45-clause-fits
returns-in-45-clause-fits g c = c.window_set_echo_stream.ensures.fits c.args.state.now.flat c.args.room

pub returns-in-47-clause-fits : goal.returns-in-47-clause-fits
returns-in-47-clause-fits g c = c.set_window.ensures.fits c.args.state.now.flat c.args.room

pub returns-in-40-clause-fits : goal.returns-in-40-clause-fits
returns-in-40-clause-fits g c = c.window_get_type.ensures.fits c.args.state.now.flat c.args.room

pub returns-in-41-clause-fits : goal.returns-in-41-clause-fits
returns-in-41-clause-fits g c = c.window_get_parent.ensures.fits c.args.state.now.flat c.args.room

pub returns-in-44-clause-fits : goal.returns-in-44-clause-fits
returns-in-44-clause-fits g c = c.window_get_stream.ensures.fits c.args.state.now.flat c.args.room

pub returns-in-46-clause-fits : goal.returns-in-46-clause-fits
returns-in-46-clause-fits g c = c.window_get_echo_stream.ensures.fits c.args.state.now.flat c.args.room

pub returns-in-48-clause-fits : goal.returns-in-48-clause-fits
returns-in-48-clause-fits g c = c.window_get_sibling.ensures.fits c.args.state.now.flat c.args.room

pub returns-in-42-clause-value : goal.returns-in-42-clause-value
unfolding window_calls
returns-in-42-clause-value g c = rw c.in-42.is
    (never_wants c.window_clear.result c.args.world.now c.window_clear.new.world
    (window_clear c.args.world.now.scene c.args.args.now)
    c.window_clear.ensures.value)

pub returns-in-43-clause-value : goal.returns-in-43-clause-value
unfolding window_calls
returns-in-43-clause-value g c = rw c.in-43.is
    (never_wants c.window_move_cursor.result c.args.world.now c.window_move_cursor.new.world
    (window_move_cursor c.args.world.now.scene c.args.args.now)
    c.window_move_cursor.ensures.value)

pub returns-in-45-clause-value : goal.returns-in-45-clause-value
unfolding window_calls
returns-in-45-clause-value g c = rw c.in-45.is
    (never_wants c.window_set_echo_stream.result c.args.world.now c.window_set_echo_stream.new.world
    (window_set_echo_stream c.args.world.now.scene c.args.args.now)
    c.window_set_echo_stream.ensures.value)

pub returns-in-47-clause-value : goal.returns-in-47-clause-value
unfolding window_calls
returns-in-47-clause-value g c = rw c.in-47.is
    (never_wants c.set_window.result c.args.world.now c.set_window.new.world
    (set_window c.args.world.now.scene c.args.args.now)
    c.set_window.ensures.value)

pub returns-in-40-clause-value : goal.returns-in-40-clause-value
unfolding window_calls
returns-in-40-clause-value g c = rw c.in-40.is c.window_get_type.ensures.value

pub returns-in-41-clause-value : goal.returns-in-41-clause-value
unfolding window_calls
returns-in-41-clause-value g c = rw c.in-41.is c.window_get_parent.ensures.value

pub returns-in-44-clause-value : goal.returns-in-44-clause-value
unfolding window_calls
returns-in-44-clause-value g c = rw c.in-44.is c.window_get_stream.ensures.value

pub returns-in-46-clause-value : goal.returns-in-46-clause-value
unfolding window_calls
returns-in-46-clause-value g c = rw c.in-46.is c.window_get_echo_stream.ensures.value

pub returns-in-48-clause-value : goal.returns-in-48-clause-value
unfolding window_calls
returns-in-48-clause-value g c = rw c.in-48.is c.window_get_sibling.ensures.value

pub returns-in_default-clause-value : goal.returns-in_default-clause-value
unfolding window_calls
returns-in_default-clause-value g c =
    let none : window_call_row c.args.selector ≡ None = grind (arith, nat_tests, common_steps) in
    no_call (window_call_row c.args.selector) c.args.world.now c.args.state.now.flat c.args.room c.args.args.now none

pub window_get_parent-requires : goal.window_get_parent-requires
unfolding window_calls
window_get_parent-requires g c = (rw c.in-41.is at c.requires).0

pub window_set_echo_stream-requires-clause-window : goal.window_set_echo_stream-requires-clause-window
unfolding window_calls
window_set_echo_stream-requires-clause-window g c = (rw c.in-45.is at c.requires).0

pub window_set_echo_stream-requires-clause-echo : goal.window_set_echo_stream-requires-clause-echo
unfolding window_calls
window_set_echo_stream-requires-clause-echo g c = (rw c.in-45.is at c.requires).1

pub window_get_sibling-requires : goal.window_get_sibling-requires
unfolding window_calls
window_get_sibling-requires g c = (rw c.in-48.is at c.requires).0
