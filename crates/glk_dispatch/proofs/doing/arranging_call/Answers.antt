-- Each call does what its row says; what fits any state or any room fits those of the call.
use Rattle.std.proofs.Common.{◌≡◌, None, arith}
use Rattle.std.proofs.lemmas.Bool.Decides.{nat_tests}
use Rattle.std.proofs.lemmas.Grind.{common_steps}
use Rattle.glk_dispatch.specs.ObjectCalls.{window_calls}
use Rattle.glk_dispatch.specs.Ready.{arranging_row}
use Rattle.glk_dispatch.proofs.Turning.{no_call}
use Rattle.glk_dispatch.proofs.doing.arranging_call.Goals as goal

pub returns-in-5-clause-fits : goal.returns-in-5-clause-fits
returns-in-5-clause-fits g c = c.gestalt_ext.ensures.fits c.args.room

pub returns-in-35-clause-fits : goal.returns-in-35-clause-fits
returns-in-35-clause-fits g c = c.window_open.ensures.fits c.args.state.now.flat c.args.room

pub returns-in-38-clause-fits : goal.returns-in-38-clause-fits
returns-in-38-clause-fits g c = c.window_set_arrangement.ensures.fits c.args.state.now.flat c.args.room

pub returns-in-4-clause-fits : goal.returns-in-4-clause-fits
returns-in-4-clause-fits g c = c.gestalt.ensures.fits c.args.state.now.flat c.args.room

pub returns-in-33-clause-fits : goal.returns-in-33-clause-fits
returns-in-33-clause-fits g c = c.window_get_rock.ensures.fits c.args.state.now.flat c.args.room

pub returns-in-34-clause-fits : goal.returns-in-34-clause-fits
returns-in-34-clause-fits g c = c.window_get_root.ensures.fits c.args.state.now.flat c.args.room

pub returns-in-36-clause-value : goal.returns-in-36-clause-value
unfolding window_calls
returns-in-36-clause-value g c = rw c.in-36.is c.window_close.ensures.value

pub returns-in-4-clause-value : goal.returns-in-4-clause-value
unfolding window_calls
returns-in-4-clause-value g c = rw c.in-4.is c.gestalt.ensures.value

pub returns-in-5-clause-value : goal.returns-in-5-clause-value
unfolding window_calls
returns-in-5-clause-value g c = rw c.in-5.is c.gestalt_ext.ensures.value

pub returns-in-32-clause-value : goal.returns-in-32-clause-value
unfolding window_calls
returns-in-32-clause-value g c = rw c.in-32.is c.window_iterate.ensures.value

pub returns-in-33-clause-value : goal.returns-in-33-clause-value
unfolding window_calls
returns-in-33-clause-value g c = rw c.in-33.is c.window_get_rock.ensures.value

pub returns-in-34-clause-value : goal.returns-in-34-clause-value
unfolding window_calls
returns-in-34-clause-value g c = rw c.in-34.is c.window_get_root.ensures.value

pub returns-in-35-clause-value : goal.returns-in-35-clause-value
unfolding window_calls
returns-in-35-clause-value g c = rw c.in-35.is c.window_open.ensures.value

pub returns-in-37-clause-value : goal.returns-in-37-clause-value
unfolding window_calls
returns-in-37-clause-value g c = rw c.in-37.is c.window_get_size.ensures.value

pub returns-in-38-clause-value : goal.returns-in-38-clause-value
unfolding window_calls
returns-in-38-clause-value g c = rw c.in-38.is c.window_set_arrangement.ensures.value

pub returns-in-39-clause-value : goal.returns-in-39-clause-value
unfolding window_calls
returns-in-39-clause-value g c = rw c.in-39.is c.window_get_arrangement.ensures.value

pub returns-in_default-clause-value : goal.returns-in_default-clause-value
unfolding window_calls
returns-in_default-clause-value g c =
    let none : arranging_row c.args.selector ≡ None = grind (arith, nat_tests, common_steps) in
    no_call (arranging_row c.args.selector) c.args.world.now c.args.state.now.flat c.args.room c.args.args.now none

pub window_open-requires : goal.window_open-requires
unfolding window_calls
window_open-requires g c = (rw c.in-35.is at c.requires).0

pub window_close-requires : goal.window_close-requires
unfolding window_calls
window_close-requires g c = (rw c.in-36.is at c.requires).0

pub returns-in-3-clause-value : goal.returns-in-3-clause-value
unfolding window_calls
returns-in-3-clause-value g c = rw c.in-3.is c.idle.ensures.value
