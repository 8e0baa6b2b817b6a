-- Each call does what its row says; what fits any state or any room fits those of the call.
use Rattle.glk_text_calls.specs.declared.characters.Case.TheVariants as case
use Rattle.glk_text_calls.specs.Input.{get_char}
use Rattle.glk_text_calls.specs.Characters.{char_to_case}
use Rattle.glk_dispatch.specs.TextCalls.{text_calls}
use Rattle.std.proofs.Common.{◌≡◌, None, arith}
use Rattle.std.proofs.lemmas.Bool.Decides.{nat_tests}
use Rattle.std.proofs.lemmas.Grind.{common_steps}
use Rattle.glk_dispatch.specs.Ready.{input_row}
use Rattle.glk_dispatch.proofs.Turning.{never_wants, no_call}
use Rattle.glk_dispatch.proofs.doing.input_call.Goals as goal

pub get_char-requires : goal.get_char-requires
unfolding text_calls
get_char-requires g c = (rw c.in-144.is at c.requires).0

pub get_line-requires-clause-there : goal.get_line-requires-clause-there
unfolding text_calls
get_line-requires-clause-there g c = (rw c.in-145.is at c.requires).0

pub get_buffer-requires-clause-there : goal.get_buffer-requires-clause-there
unfolding text_calls
get_buffer-requires-clause-there g c = (rw c.in-146.is at c.requires).0

pub returns-in-144-clause-fits : goal.returns-in-144-clause-fits
returns-in-144-clause-fits g c = c.get_char.ensures.fits c.args.room

pub returns-in-145-clause-fits : goal.returns-in-145-clause-fits
returns-in-145-clause-fits g c = c.get_line.ensures.fits c.args.room

pub returns-in-146-clause-fits : goal.returns-in-146-clause-fits
returns-in-146-clause-fits g c = c.get_buffer.ensures.fits c.args.room

pub returns-in-160-clause-fits : goal.returns-in-160-clause-fits
returns-in-160-clause-fits g c = c.char_to_case.ensures.fits c.args.state.now.flat c.args.room

pub returns-in-161-clause-fits : goal.returns-in-161-clause-fits
returns-in-161-clause-fits g c = c.char_to_case-in-161.ensures.fits c.args.state.now.flat c.args.room

pub returns-in-144-clause-value : goal.returns-in-144-clause-value
unfolding text_calls
returns-in-144-clause-value g c = rw c.in-144.is
    (never_wants c.get_char.result c.args.world.now c.get_char.new.world
    (get_char 1 c.args.world.now.scene c.args.state.now.flat c.args.args.now)
    c.get_char.ensures.value)

pub returns-in-160-clause-value : goal.returns-in-160-clause-value
unfolding text_calls
returns-in-160-clause-value g c = rw c.in-160.is
    (never_wants c.char_to_case.result c.args.world.now c.char_to_case.new.world
    (char_to_case c.args.world.now.scene case.Lower c.args.args.now)
    c.char_to_case.ensures.value)

pub returns-in-161-clause-value : goal.returns-in-161-clause-value
unfolding text_calls
returns-in-161-clause-value g c = rw c.in-161.is
    (never_wants c.char_to_case-in-161.result c.args.world.now c.char_to_case-in-161.new.world
    (char_to_case c.args.world.now.scene case.Upper c.args.args.now)
    c.char_to_case-in-161.ensures.value)

pub returns-in-145-clause-value : goal.returns-in-145-clause-value
unfolding text_calls
returns-in-145-clause-value g c = rw c.in-145.is c.get_line.ensures.value

pub returns-in-146-clause-value : goal.returns-in-146-clause-value
unfolding text_calls
returns-in-146-clause-value g c = rw c.in-146.is c.get_buffer.ensures.value

pub returns-in-176-clause-fits : goal.returns-in-176-clause-fits
returns-in-176-clause-fits g c = c.idle.ensures.fits c.args.state.now.flat c.args.room

pub returns-in-176-clause-value : goal.returns-in-176-clause-value
unfolding text_calls
returns-in-176-clause-value g c = grind (arith, common_steps, nat_tests)

pub returns-in_default-clause-value : goal.returns-in_default-clause-value
unfolding text_calls
returns-in_default-clause-value g c =
    let none : input_row c.args.selector ≡ None = grind (arith, nat_tests, common_steps) in
    no_call (input_row c.args.selector) c.args.world.now c.args.state.now.flat c.args.room c.args.args.now none
