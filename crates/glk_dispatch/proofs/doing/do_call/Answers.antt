-- The rows that take a turn, one by one, and an answer as a turn.
use Rattle.std.proofs.Common.{◌≡◌, false, IsTrue, arith, sym, subst}
use Rattle.std.proofs.lemmas.Bool.Decides.{nat_tests}
use Rattle.std.proofs.lemmas.Grind.{common_steps}
use Rattle.glk_world.specs.World.{MakesCall, Outcome}
use Rattle.glk_replies.specs.declared.Turn.{Turn}
use Rattle.glk_object_calls.specs.References.{fileref_delete_file, fileref_does_file_exist}
use Rattle.glk_event_calls.specs.Events.{select}
use Rattle.glk_dispatch.specs.Calls.{answer_turn}
use Rattle.glk_dispatch.specs.Ready.{takes_turn, answer_by, wants_by}
use Rattle.glk_dispatch.specs.Table.{row_for}
use Rattle.glk_dispatch.proofs.Lists.{call_answers}
use Rattle.glk_dispatch.proofs.Turning.{exit_row, open_row, close_row, prompt_row, delete_row, exist_row, select_row}
use Rattle.glk_dispatch.proofs.Turning.{open_uni_row, makes_turn, turn_fits, never_wants, may_want}
use Rattle.glk_dispatch.proofs.doing.do_call.Goals as goal

pub stream_open_file-requires : goal.stream_open_file-requires
stream_open_file-requires g c = (rw (c.in-66.is, open_row) at c.requires).0

pub stream_close-requires : goal.stream_close-requires
stream_close-requires g c = (rw (c.in-68.is, close_row) at c.requires).0

pub fileref_delete_file-requires : goal.fileref_delete_file-requires
fileref_delete_file-requires g c = (rw (c.in-102.is, delete_row) at c.requires).0

pub fileref_does_file_exist-requires : goal.fileref_does_file_exist-requires
fileref_does_file_exist-requires g c = (rw (c.in-103.is, exist_row) at c.requires).0

pub stream_open_file-requires-in-312 : goal.stream_open_file-requires-in-312
stream_open_file-requires-in-312 g c = (rw (c.in-312.is, open_uni_row) at c.requires).0

pub returns-in-1-clause-value : goal.returns-in-1-clause-value
returns-in-1-clause-value g c = rw (c.in-1.is, exit_row) (grind (arith, common_steps))

pub returns-in-66-clause-value : goal.returns-in-66-clause-value
returns-in-66-clause-value g c = rw (c.in-66.is, open_row) c.stream_open_file.ensures.value

pub returns-in-66-clause-fits : goal.returns-in-66-clause-fits
returns-in-66-clause-fits g c = c.stream_open_file.ensures.fits c.args.state.now.flat c.args.room

pub returns-in-68-clause-value : goal.returns-in-68-clause-value
returns-in-68-clause-value g c = rw (c.in-68.is, close_row) c.stream_close.ensures.value

pub returns-in-98-clause-value : goal.returns-in-98-clause-value
returns-in-98-clause-value g c = rw (c.in-98.is, prompt_row) c.fileref_create_by_prompt.ensures.value

pub returns-in-98-clause-fits : goal.returns-in-98-clause-fits
returns-in-98-clause-fits g c = c.fileref_create_by_prompt.ensures.fits c.args.state.now.flat c.args.room

pub returns-in-102-clause-value : goal.returns-in-102-clause-value
returns-in-102-clause-value g c =
    rw (c.in-102.is, delete_row)
    (may_want c.fileref_delete_file.result c.args.world.now c.fileref_delete_file.new.world
    (fileref_delete_file c.args.world.now.scene c.args.args.now) c.fileref_delete_file.ensures.value)

pub returns-in-102-clause-fits : goal.returns-in-102-clause-fits
returns-in-102-clause-fits g c = c.fileref_delete_file.ensures.fits c.args.state.now.flat c.args.room

pub returns-in-103-clause-value : goal.returns-in-103-clause-value
returns-in-103-clause-value g c =
    rw (c.in-103.is, exist_row)
    (may_want c.fileref_does_file_exist.result c.args.world.now c.fileref_does_file_exist.new.world
    (fileref_does_file_exist c.args.world.now.scene c.args.args.now) c.fileref_does_file_exist.ensures.value)

pub returns-in-103-clause-fits : goal.returns-in-103-clause-fits
returns-in-103-clause-fits g c = c.fileref_does_file_exist.ensures.fits c.args.state.now.flat c.args.room

pub returns-in-192-clause-value : goal.returns-in-192-clause-value
returns-in-192-clause-value g c =
    rw (c.in-192.is, select_row)
    (never_wants c.select.result c.args.world.now c.select.new.world
    (select c.args.world.now.scene c.args.state.now.flat c.args.room c.args.args.now) c.select.ensures.value)

pub returns-in-312-clause-value : goal.returns-in-312-clause-value
returns-in-312-clause-value g c = rw (c.in-312.is, open_uni_row) c.stream_open_file-in-312.ensures.value

pub returns-in-312-clause-fits : goal.returns-in-312-clause-fits
returns-in-312-clause-fits g c = c.stream_open_file-in-312.ensures.fits c.args.state.now.flat c.args.room

pub returns-in_default-clause-value : goal.returns-in_default-clause-value
returns-in_default-clause-value g c =
    let old = c.args.world.now in
    let new = c.answer_call.new.world in
    let f = c.args.state.now.flat in
    let none : takes_turn c.args.selector ≡ false = grind (arith, common_steps, nat_tests) in
    let wants = IsTrue (wants_by (row_for c.args.selector) old.scene f c.args.args.now) in
    let answered = answer_by (row_for c.args.selector) old.scene f c.args.room c.args.args.now in
    rw c.answer_turn.ensures (subst (λ (o : Outcome Turn). MakesCall wants (answer_turn c.answer_call.result) old new o)
    (sym (call_answers c.args.selector old.scene f c.args.room c.args.args.now none))
    (makes_turn wants c.answer_call.result old new answered c.answer_call.ensures.value))

pub returns-in_default-clause-fits : goal.returns-in_default-clause-fits
returns-in_default-clause-fits g c = rw c.answer_turn.ensures
    (turn_fits c.args.state.now.flat c.args.room c.answer_call.result c.answer_call.ensures.fits)
