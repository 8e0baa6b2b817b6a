-- Each call does what its row says; what fits any state or any room fits those of the call.
use Rattle.std.proofs.Common.{◌≡◌, None, arith}
use Rattle.std.proofs.lemmas.Bool.Decides.{nat_tests}
use Rattle.std.proofs.lemmas.Grind.{common_steps}
use Rattle.glk_text_calls.specs.Input.{get_char}
use Rattle.glk_dispatch.specs.TextCalls.{unicode_calls}
use Rattle.glk_dispatch.specs.Ready.{unicode_input_row}
use Rattle.glk_dispatch.proofs.Turning.{never_wants, no_call}
use Rattle.glk_dispatch.proofs.doing.unicode_input_call.Goals as goal

pub returns-in-304-clause-fits : goal.returns-in-304-clause-fits
returns-in-304-clause-fits g c = c.get_char.ensures.fits c.args.room

pub returns-in-305-clause-fits : goal.returns-in-305-clause-fits
returns-in-305-clause-fits g c = c.get_buffer.ensures.fits c.args.room

pub returns-in-306-clause-fits : goal.returns-in-306-clause-fits
returns-in-306-clause-fits g c = c.get_line.ensures.fits c.args.room

pub returns-in-313-clause-fits : goal.returns-in-313-clause-fits
returns-in-313-clause-fits g c = c.stream_open_memory.ensures.fits c.args.state.now.flat c.args.room

pub returns-in-320-clause-fits : goal.returns-in-320-clause-fits
returns-in-320-clause-fits g c = c.request_char_event.ensures.fits c.args.state.now.flat c.args.room

pub returns-in-321-clause-fits : goal.returns-in-321-clause-fits
returns-in-321-clause-fits g c = c.request_line_event.ensures.fits c.args.state.now.flat c.args.room

pub returns-in-304-clause-value : goal.returns-in-304-clause-value
unfolding unicode_calls
returns-in-304-clause-value g c = rw c.in-304.is
    (never_wants c.get_char.result c.args.world.now c.get_char.new.world
    (get_char 4 c.args.world.now.scene c.args.state.now.flat c.args.args.now)
    c.get_char.ensures.value)

pub returns-in-305-clause-value : goal.returns-in-305-clause-value
unfolding unicode_calls
returns-in-305-clause-value g c = rw c.in-305.is c.get_buffer.ensures.value

pub returns-in-306-clause-value : goal.returns-in-306-clause-value
unfolding unicode_calls
returns-in-306-clause-value g c = rw c.in-306.is c.get_line.ensures.value

pub returns-in-313-clause-value : goal.returns-in-313-clause-value
unfolding unicode_calls
returns-in-313-clause-value g c = rw c.in-313.is c.stream_open_memory.ensures.value

pub returns-in-320-clause-value : goal.returns-in-320-clause-value
unfolding unicode_calls
returns-in-320-clause-value g c = rw c.in-320.is c.request_char_event.ensures.value

pub returns-in-321-clause-value : goal.returns-in-321-clause-value
unfolding unicode_calls
returns-in-321-clause-value g c = rw c.in-321.is c.request_line_event.ensures.value

pub returns-in_default-clause-value : goal.returns-in_default-clause-value
unfolding unicode_calls
returns-in_default-clause-value g c =
    let none : unicode_input_row c.args.selector ≡ None = grind (arith, nat_tests, common_steps) in
    no_call (unicode_input_row c.args.selector) c.args.world.now c.args.state.now.flat c.args.room c.args.args.now none

pub get_char-requires : goal.get_char-requires
unfolding unicode_calls
get_char-requires g c = (rw c.in-304.is at c.requires).0

pub get_line-requires-clause-there : goal.get_line-requires-clause-there
unfolding unicode_calls
get_line-requires-clause-there g c = (rw c.in-306.is at c.requires).0

pub get_buffer-requires-clause-there : goal.get_buffer-requires-clause-there
unfolding unicode_calls
get_buffer-requires-clause-there g c = (rw c.in-305.is at c.requires).0

pub returns-in-336-clause-value : goal.returns-in-336-clause-value
unfolding unicode_calls
returns-in-336-clause-value g c = rw c.in-336.is c.idle.ensures.value
