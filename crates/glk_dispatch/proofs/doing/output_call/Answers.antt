-- Each call does what its row says; what fits any state or any room fits those of the call.
use Rattle.std.proofs.Common.{◌≡◌, None, arith}
use Rattle.std.proofs.lemmas.Bool.Decides.{nat_tests}
use Rattle.std.proofs.lemmas.Grind.{common_steps}
use Rattle.glk_dispatch.specs.TextCalls.{text_calls}
use Rattle.glk_dispatch.specs.Ready.{output_row}
use Rattle.glk_dispatch.proofs.Turning.{no_call}
use Rattle.glk_dispatch.proofs.doing.output_call.Goals as goal

pub returns-in-128-clause-fits : goal.returns-in-128-clause-fits
returns-in-128-clause-fits g c = c.put_char.ensures.fits c.args.room

pub returns-in-129-clause-fits : goal.returns-in-129-clause-fits
returns-in-129-clause-fits g c = c.put_char-in-129.ensures.fits c.args.room

pub returns-in-130-clause-fits : goal.returns-in-130-clause-fits
returns-in-130-clause-fits g c = c.put_string.ensures.fits c.args.room

pub returns-in-131-clause-fits : goal.returns-in-131-clause-fits
returns-in-131-clause-fits g c = c.put_string-in-131.ensures.fits c.args.room

pub returns-in-132-clause-fits : goal.returns-in-132-clause-fits
returns-in-132-clause-fits g c = c.put_buffer.ensures.fits c.args.room

pub returns-in-133-clause-fits : goal.returns-in-133-clause-fits
returns-in-133-clause-fits g c = c.put_buffer-in-133.ensures.fits c.args.room

pub returns-in-128-clause-value : goal.returns-in-128-clause-value
unfolding text_calls
returns-in-128-clause-value g c =
    rw c.in-128.is (rw (c.current-current.ensures, c.arg-first.ensures) at c.put_char.ensures.value)

pub returns-in-129-clause-value : goal.returns-in-129-clause-value
unfolding text_calls
returns-in-129-clause-value g c =
    rw c.in-129.is (rw (c.arg-first.ensures, c.arg-second.ensures) at c.put_char-in-129.ensures.value)

pub returns-in-130-clause-value : goal.returns-in-130-clause-value
unfolding text_calls
returns-in-130-clause-value g c =
    rw c.in-130.is (rw (c.current-current.ensures, c.arg-first.ensures) at c.put_string.ensures.value)

pub returns-in-131-clause-value : goal.returns-in-131-clause-value
unfolding text_calls
returns-in-131-clause-value g c =
    rw c.in-131.is (rw (c.arg-first.ensures, c.arg-second.ensures) at c.put_string-in-131.ensures.value)

pub returns-in-132-clause-value : goal.returns-in-132-clause-value
unfolding text_calls
returns-in-132-clause-value g c =
    rw c.in-132.is (rw (c.current-current.ensures, c.arg-first.ensures, c.arg-second.ensures) at
    c.put_buffer.ensures.value)

pub returns-in-133-clause-value : goal.returns-in-133-clause-value
unfolding text_calls
returns-in-133-clause-value g c =
    rw c.in-133.is (rw (c.arg-first.ensures, c.arg-second.ensures, c.arg.ensures) at c.put_buffer-in-133.ensures.value)

pub returns-in_default-clause-value : goal.returns-in_default-clause-value
unfolding text_calls
returns-in_default-clause-value g c =
    let none : output_row c.args.selector ≡ None = grind (arith, nat_tests, common_steps) in
    no_call (output_row c.args.selector) c.args.world.now c.args.state.now.flat c.args.room c.args.args.now none

pub returns-in-134-clause-value : goal.returns-in-134-clause-value
unfolding text_calls
returns-in-134-clause-value g c = grind (arith, common_steps, nat_tests)
