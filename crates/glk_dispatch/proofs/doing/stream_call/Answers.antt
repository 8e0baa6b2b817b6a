-- Each call does what its row says; what fits any state or any room fits those of the call.
use Rattle.std.proofs.Common.{◌≡◌, None, arith}
use Rattle.std.proofs.lemmas.Bool.Decides.{nat_tests}
use Rattle.std.proofs.lemmas.Grind.{common_steps}
use Rattle.glk_object_calls.specs.Streams.{stream_set_position, stream_set_current}
use Rattle.glk_dispatch.specs.ObjectCalls.{stream_calls}
use Rattle.glk_dispatch.specs.Ready.{stream_row}
use Rattle.glk_dispatch.proofs.Turning.{never_wants, no_call}
use Rattle.glk_dispatch.proofs.doing.stream_call.Goals as goal

pub returns-in-67-clause-fits : goal.returns-in-67-clause-fits
returns-in-67-clause-fits g c = c.stream_open_memory.ensures.fits c.args.state.now.flat c.args.room

pub returns-in-69-clause-fits : goal.returns-in-69-clause-fits
returns-in-69-clause-fits g c = c.stream_set_position.ensures.fits c.args.state.now.flat c.args.room

pub returns-in-71-clause-fits : goal.returns-in-71-clause-fits
returns-in-71-clause-fits g c = c.stream_set_current.ensures.fits c.args.state.now.flat c.args.room

pub returns-in-65-clause-fits : goal.returns-in-65-clause-fits
returns-in-65-clause-fits g c = c.stream_get_rock.ensures.fits c.args.state.now.flat c.args.room

pub returns-in-70-clause-fits : goal.returns-in-70-clause-fits
returns-in-70-clause-fits g c = c.stream_get_position.ensures.fits c.args.state.now.flat c.args.room

pub returns-in-72-clause-fits : goal.returns-in-72-clause-fits
returns-in-72-clause-fits g c = c.stream_get_current.ensures.fits c.args.state.now.flat c.args.room

pub returns-in-69-clause-value : goal.returns-in-69-clause-value
unfolding stream_calls
returns-in-69-clause-value g c = rw c.in-69.is
    (never_wants c.stream_set_position.result c.args.world.now c.stream_set_position.new.world
    (stream_set_position c.args.world.now.scene c.args.args.now)
    c.stream_set_position.ensures.value)

pub returns-in-71-clause-value : goal.returns-in-71-clause-value
unfolding stream_calls
returns-in-71-clause-value g c = rw c.in-71.is
    (never_wants c.stream_set_current.result c.args.world.now c.stream_set_current.new.world
    (stream_set_current c.args.world.now.scene c.args.args.now)
    c.stream_set_current.ensures.value)

pub returns-in-64-clause-value : goal.returns-in-64-clause-value
unfolding stream_calls
returns-in-64-clause-value g c = rw c.in-64.is c.stream_iterate.ensures.value

pub returns-in-65-clause-value : goal.returns-in-65-clause-value
unfolding stream_calls
returns-in-65-clause-value g c = rw c.in-65.is c.stream_get_rock.ensures.value

pub returns-in-67-clause-value : goal.returns-in-67-clause-value
unfolding stream_calls
returns-in-67-clause-value g c = rw c.in-67.is c.stream_open_memory.ensures.value

pub returns-in-70-clause-value : goal.returns-in-70-clause-value
unfolding stream_calls
returns-in-70-clause-value g c = rw c.in-70.is c.stream_get_position.ensures.value

pub returns-in-72-clause-value : goal.returns-in-72-clause-value
unfolding stream_calls
returns-in-72-clause-value g c = rw c.in-72.is c.stream_get_current.ensures.value

pub returns-in_default-clause-value : goal.returns-in_default-clause-value
unfolding stream_calls
returns-in_default-clause-value g c =
    let none : stream_row c.args.selector ≡ None = grind (arith, nat_tests, common_steps) in
    no_call (stream_row c.args.selector) c.args.world.now c.args.state.now.flat c.args.room c.args.args.now none

pub stream_set_position-requires : goal.stream_set_position-requires
unfolding stream_calls
stream_set_position-requires g c = (rw c.in-69.is at c.requires).0

pub stream_get_position-requires : goal.stream_get_position-requires
unfolding stream_calls
stream_get_position-requires g c = (rw c.in-70.is at c.requires).0
