-- Each call does what its row says; what fits any state or any room fits those of the call.
use Rattle.std.proofs.Common.{◌≡◌, None, arith}
use Rattle.std.proofs.lemmas.Bool.Decides.{nat_tests}
use Rattle.std.proofs.lemmas.Grind.{common_steps}
use Rattle.glk_event_calls.specs.Events.{cancel_char_event}
use Rattle.glk_dispatch.specs.TextCalls.{event_calls}
use Rattle.glk_dispatch.specs.Ready.{event_row}
use Rattle.glk_dispatch.proofs.Turning.{never_wants, no_call}
use Rattle.glk_dispatch.proofs.doing.event_call.Goals as goal

pub returns-in-208-clause-fits : goal.returns-in-208-clause-fits
returns-in-208-clause-fits g c = c.request_line_event.ensures.fits c.args.state.now.flat c.args.room

pub returns-in-210-clause-fits : goal.returns-in-210-clause-fits
returns-in-210-clause-fits g c = c.request_char_event.ensures.fits c.args.state.now.flat c.args.room

pub returns-in-211-clause-fits : goal.returns-in-211-clause-fits
returns-in-211-clause-fits g c = c.cancel_char_event.ensures.fits c.args.state.now.flat c.args.room

pub returns-in-193-clause-value : goal.returns-in-193-clause-value
unfolding event_calls
returns-in-193-clause-value g c = rw c.in-193.is c.select_poll.ensures.value

pub returns-in-208-clause-value : goal.returns-in-208-clause-value
unfolding event_calls
returns-in-208-clause-value g c = rw c.in-208.is c.request_line_event.ensures.value

pub returns-in-209-clause-value : goal.returns-in-209-clause-value
unfolding event_calls
returns-in-209-clause-value g c = rw c.in-209.is c.cancel_line_event.ensures.value

pub returns-in-210-clause-value : goal.returns-in-210-clause-value
unfolding event_calls
returns-in-210-clause-value g c = rw c.in-210.is c.request_char_event.ensures.value

pub returns-in_default-clause-value : goal.returns-in_default-clause-value
unfolding event_calls
returns-in_default-clause-value g c =
    let none : event_row c.args.selector ≡ None = grind (arith, nat_tests, common_steps) in
    no_call (event_row c.args.selector) c.args.world.now c.args.state.now.flat c.args.room c.args.args.now none

pub returns-in-211-clause-value : goal.returns-in-211-clause-value
unfolding event_calls
returns-in-211-clause-value g c = rw c.in-211.is
    (never_wants c.cancel_char_event.result c.args.world.now c.cancel_char_event.new.world
    (cancel_char_event c.args.world.now.scene c.args.args.now)
    c.cancel_char_event.ensures.value)
