-- Each group of calls, by the lemma that finds its row.
use Rattle.glk_dispatch.proofs.Lists.{of_arranging, of_window, of_stream, of_reference, of_output, of_input, of_event}
use Rattle.glk_dispatch.proofs.Lists.{of_unicode_output, of_unicode_input}
use Rattle.glk_dispatch.proofs.doing.answer_call.Goals as goal

pub arranging_call-requires : goal.arranging_call-requires
arranging_call-requires g c =
    rw (of_arranging c.args.selector c.requires.at_once c.if-selector-lt-WINDOW_GET_TYPE.true) at
    c.requires.ready

pub returns-then-selector-lt-WINDOW_GET_TYPE-clause-value : goal.returns-then-selector-lt-WINDOW_GET_TYPE-clause-value
returns-then-selector-lt-WINDOW_GET_TYPE-clause-value g c =
    rw (of_arranging c.args.selector c.requires.at_once c.if-selector-lt-WINDOW_GET_TYPE.true)
    c.arranging_call.ensures.value

pub window_call-requires : goal.window_call-requires
window_call-requires g c =
    rw (of_window c.args.selector c.requires.at_once c.if-selector-lt-WINDOW_GET_TYPE.false
    c.if-selector-lt-STREAM_ITERATE.true) at
    c.requires.ready

pub returns-then-selector-lt-STREAM_ITERATE-clause-value : goal.returns-then-selector-lt-STREAM_ITERATE-clause-value
returns-then-selector-lt-STREAM_ITERATE-clause-value g c =
    rw (of_window c.args.selector c.requires.at_once c.if-selector-lt-WINDOW_GET_TYPE.false
    c.if-selector-lt-STREAM_ITERATE.true)
    c.window_call.ensures.value

pub stream_call-requires : goal.stream_call-requires
stream_call-requires g c =
    rw (of_stream c.args.selector c.requires.at_once c.if-selector-lt-STREAM_ITERATE.false
    c.if-selector-lt-FILEREF_CREATE_TEMP.true) at
    c.requires.ready

pub returns-then-selector-lt-FILEREF_CREATE_TEMP-clause-value : goal.returns-then-selector-lt-FILEREF_CREATE_TEMP-clause-value
returns-then-selector-lt-FILEREF_CREATE_TEMP-clause-value g c =
    rw (of_stream c.args.selector c.requires.at_once c.if-selector-lt-STREAM_ITERATE.false
    c.if-selector-lt-FILEREF_CREATE_TEMP.true)
    c.stream_call.ensures.value

pub reference_call-requires : goal.reference_call-requires
reference_call-requires g c =
    rw (of_reference c.args.selector c.requires.at_once c.if-selector-lt-FILEREF_CREATE_TEMP.false
    c.if-selector-lt-PUT_CHAR.true) at
    c.requires.ready

pub returns-then-selector-lt-PUT_CHAR-clause-value : goal.returns-then-selector-lt-PUT_CHAR-clause-value
returns-then-selector-lt-PUT_CHAR-clause-value g c =
    rw (of_reference c.args.selector c.requires.at_once c.if-selector-lt-FILEREF_CREATE_TEMP.false
    c.if-selector-lt-PUT_CHAR.true)
    c.reference_call.ensures.value

pub output_call-requires : goal.output_call-requires
output_call-requires g c =
    rw (of_output c.args.selector c.requires.at_once c.if-selector-lt-PUT_CHAR.false
    c.if-selector-lt-GET_CHAR_STREAM.true) at
    c.requires.ready

pub returns-then-selector-lt-GET_CHAR_STREAM-clause-value : goal.returns-then-selector-lt-GET_CHAR_STREAM-clause-value
returns-then-selector-lt-GET_CHAR_STREAM-clause-value g c =
    rw (of_output c.args.selector c.requires.at_once c.if-selector-lt-PUT_CHAR.false
    c.if-selector-lt-GET_CHAR_STREAM.true)
    c.output_call.ensures.value

pub input_call-requires : goal.input_call-requires
input_call-requires g c =
    rw (of_input c.args.selector c.requires.at_once c.if-selector-lt-GET_CHAR_STREAM.false
    c.if-selector-lt-SELECT.true) at
    c.requires.ready

pub returns-then-selector-lt-SELECT-clause-value : goal.returns-then-selector-lt-SELECT-clause-value
returns-then-selector-lt-SELECT-clause-value g c =
    rw (of_input c.args.selector c.requires.at_once c.if-selector-lt-GET_CHAR_STREAM.false c.if-selector-lt-SELECT.true)
    c.input_call.ensures.value

pub event_call-requires : goal.event_call-requires
event_call-requires g c =
    rw (of_event c.args.selector c.requires.at_once c.if-selector-lt-SELECT.false
    c.if-selector-lt-BUFFER_TO_LOWER_CASE_UNI.true) at
    c.requires.ready

pub returns-then-selector-lt-BUFFER_TO_LOWER_CASE_UNI-clause-value : goal.returns-then-selector-lt-BUFFER_TO_LOWER_CASE_UNI-clause-value
returns-then-selector-lt-BUFFER_TO_LOWER_CASE_UNI-clause-value g c =
    rw (of_event c.args.selector c.requires.at_once c.if-selector-lt-SELECT.false
    c.if-selector-lt-BUFFER_TO_LOWER_CASE_UNI.true)
    c.event_call.ensures.value

pub unicode_output_call-requires : goal.unicode_output_call-requires
unicode_output_call-requires g c =
    rw (of_unicode_output c.args.selector c.requires.at_once c.if-selector-lt-BUFFER_TO_LOWER_CASE_UNI.false
    c.if-selector-lt-GET_CHAR_STREAM_UNI.true) at
    c.requires.ready

pub returns-then-selector-lt-GET_CHAR_STREAM_UNI-clause-value : goal.returns-then-selector-lt-GET_CHAR_STREAM_UNI-clause-value
returns-then-selector-lt-GET_CHAR_STREAM_UNI-clause-value g c =
    rw (of_unicode_output c.args.selector c.requires.at_once c.if-selector-lt-BUFFER_TO_LOWER_CASE_UNI.false
    c.if-selector-lt-GET_CHAR_STREAM_UNI.true)
    c.unicode_output_call.ensures.value

pub unicode_input_call-requires : goal.unicode_input_call-requires
unicode_input_call-requires g c =
    rw (of_unicode_input c.args.selector c.requires.at_once c.if-selector-lt-GET_CHAR_STREAM_UNI.false) at
    c.requires.ready

pub returns-else-selector-lt-GET_CHAR_STREAM_UNI-clause-value : goal.returns-else-selector-lt-GET_CHAR_STREAM_UNI-clause-value
returns-else-selector-lt-GET_CHAR_STREAM_UNI-clause-value g c =
    rw (of_unicode_input c.args.selector c.requires.at_once c.if-selector-lt-GET_CHAR_STREAM_UNI.false)
    c.unicode_input_call.ensures.value
