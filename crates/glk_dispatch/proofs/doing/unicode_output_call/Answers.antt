-- Each call does what its row says; what fits any state or any room fits those of the call.
use Rattle.std.proofs.Common.{◌≡◌, None, arith}
use Rattle.std.proofs.lemmas.Bool.Decides.{nat_tests}
use Rattle.std.proofs.lemmas.Grind.{common_steps}
use Rattle.glk_dispatch.specs.TextCalls.{unicode_calls}
use Rattle.glk_dispatch.specs.Ready.{unicode_output_row}
use Rattle.glk_dispatch.proofs.Turning.{no_call}
use Rattle.glk_dispatch.proofs.doing.unicode_output_call.Goals as goal

pub returns-in-288-clause-fits : goal.returns-in-288-clause-fits
returns-in-288-clause-fits g c = c.buffer_to_case.ensures.fits c.args.room

pub returns-in-289-clause-fits : goal.returns-in-289-clause-fits
returns-in-289-clause-fits g c = c.buffer_to_case-in-289.ensures.fits c.args.room

pub returns-in-290-clause-fits : goal.returns-in-290-clause-fits
returns-in-290-clause-fits g c = c.buffer_to_case-in-290.ensures.fits c.args.room

pub returns-in-296-clause-fits : goal.returns-in-296-clause-fits
returns-in-296-clause-fits g c = c.put_char.ensures.fits c.args.room

pub returns-in-297-clause-fits : goal.returns-in-297-clause-fits
returns-in-297-clause-fits g c = c.put_string.ensures.fits c.args.room

pub returns-in-298-clause-fits : goal.returns-in-298-clause-fits
returns-in-298-clause-fits g c = c.put_buffer.ensures.fits c.args.room

pub returns-in-299-clause-fits : goal.returns-in-299-clause-fits
returns-in-299-clause-fits g c = c.put_char-in-299.ensures.fits c.args.room

pub returns-in-300-clause-fits : goal.returns-in-300-clause-fits
returns-in-300-clause-fits g c = c.put_string-in-300.ensures.fits c.args.room

pub returns-in-301-clause-fits : goal.returns-in-301-clause-fits
returns-in-301-clause-fits g c = c.put_buffer-in-301.ensures.fits c.args.room

pub returns-in-288-clause-value : goal.returns-in-288-clause-value
unfolding unicode_calls
returns-in-288-clause-value g c = rw c.in-288.is c.buffer_to_case.ensures.value

pub returns-in-289-clause-value : goal.returns-in-289-clause-value
unfolding unicode_calls
returns-in-289-clause-value g c = rw c.in-289.is c.buffer_to_case-in-289.ensures.value

pub returns-in-290-clause-value : goal.returns-in-290-clause-value
unfolding unicode_calls
returns-in-290-clause-value g c = rw c.in-290.is (rw c.rest_of.ensures at c.buffer_to_case-in-290.ensures.value)

pub returns-in-296-clause-value : goal.returns-in-296-clause-value
unfolding unicode_calls
returns-in-296-clause-value g c =
    rw c.in-296.is (rw (c.current-current.ensures, c.arg-first.ensures) at c.put_char.ensures.value)

pub returns-in-297-clause-value : goal.returns-in-297-clause-value
unfolding unicode_calls
returns-in-297-clause-value g c =
    rw c.in-297.is (rw (c.current-current.ensures, c.arg-first.ensures) at c.put_string.ensures.value)

pub returns-in-298-clause-value : goal.returns-in-298-clause-value
unfolding unicode_calls
returns-in-298-clause-value g c =
    rw c.in-298.is (rw (c.current-current.ensures, c.arg-first.ensures, c.arg-second.ensures) at
    c.put_buffer.ensures.value)

pub returns-in-299-clause-value : goal.returns-in-299-clause-value
unfolding unicode_calls
returns-in-299-clause-value g c =
    rw c.in-299.is (rw (c.arg-first.ensures, c.arg-second.ensures) at c.put_char-in-299.ensures.value)

pub returns-in-300-clause-value : goal.returns-in-300-clause-value
unfolding unicode_calls
returns-in-300-clause-value g c =
    rw c.in-300.is (rw (c.arg-first.ensures, c.arg-second.ensures) at c.put_string-in-300.ensures.value)

pub returns-in-301-clause-value : goal.returns-in-301-clause-value
unfolding unicode_calls
returns-in-301-clause-value g c =
    rw c.in-301.is (rw (c.arg-first.ensures, c.arg-second.ensures, c.arg.ensures) at c.put_buffer-in-301.ensures.value)

pub returns-in_default-clause-value : goal.returns-in_default-clause-value
unfolding unicode_calls
returns-in_default-clause-value g c =
    let none : unicode_output_row c.args.selector ≡ None = grind (arith, nat_tests, common_steps) in
    no_call (unicode_output_row c.args.selector) c.args.world.now c.args.state.now.flat c.args.room c.args.args.now none
