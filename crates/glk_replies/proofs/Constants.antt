-- The constants of the code are the definitions' numbers.
use Rattle.std.proofs.Common.{◌≡◌, refl}
use Rattle.glk_replies.specs.declared.parts.TheConstants as part
use Rattle.glk_replies.specs.declared.selectors.TheConstants as selector
use Rattle.glk_replies.specs.Constants.{on_stack}
use Rattle.glk_replies.specs.Numbers as numbers
use Rattle.glk_replies.specs.TextNumbers as text_numbers

pub ON_STACK_is : part.ON_STACK ≡ on_stack
ON_STACK_is = refl

pub EXIT_is : selector.EXIT ≡ numbers.exit
EXIT_is = refl

pub TICK_is : selector.TICK ≡ numbers.tick
TICK_is = refl

pub GESTALT_is : selector.GESTALT ≡ numbers.gestalt
GESTALT_is = refl

pub GESTALT_EXT_is : selector.GESTALT_EXT ≡ numbers.gestalt_ext
GESTALT_EXT_is = refl

pub WINDOW_ITERATE_is : selector.WINDOW_ITERATE ≡ numbers.window_iterate
WINDOW_ITERATE_is = refl

pub WINDOW_GET_ROCK_is : selector.WINDOW_GET_ROCK ≡ numbers.window_get_rock
WINDOW_GET_ROCK_is = refl

pub WINDOW_GET_ROOT_is : selector.WINDOW_GET_ROOT ≡ numbers.window_get_root
WINDOW_GET_ROOT_is = refl

pub WINDOW_OPEN_is : selector.WINDOW_OPEN ≡ numbers.window_open
WINDOW_OPEN_is = refl

pub WINDOW_CLOSE_is : selector.WINDOW_CLOSE ≡ numbers.window_close
WINDOW_CLOSE_is = refl

pub WINDOW_GET_SIZE_is : selector.WINDOW_GET_SIZE ≡ numbers.window_get_size
WINDOW_GET_SIZE_is = refl

pub WINDOW_SET_ARRANGEMENT_is : selector.WINDOW_SET_ARRANGEMENT ≡ numbers.window_set_arrangement
WINDOW_SET_ARRANGEMENT_is = refl

pub WINDOW_GET_ARRANGEMENT_is : selector.WINDOW_GET_ARRANGEMENT ≡ numbers.window_get_arrangement
WINDOW_GET_ARRANGEMENT_is = refl

pub WINDOW_GET_TYPE_is : selector.WINDOW_GET_TYPE ≡ numbers.window_get_type
WINDOW_GET_TYPE_is = refl

pub WINDOW_GET_PARENT_is : selector.WINDOW_GET_PARENT ≡ numbers.window_get_parent
WINDOW_GET_PARENT_is = refl

pub WINDOW_CLEAR_is : selector.WINDOW_CLEAR ≡ numbers.window_clear
WINDOW_CLEAR_is = refl

pub WINDOW_MOVE_CURSOR_is : selector.WINDOW_MOVE_CURSOR ≡ numbers.window_move_cursor
WINDOW_MOVE_CURSOR_is = refl

pub WINDOW_GET_STREAM_is : selector.WINDOW_GET_STREAM ≡ numbers.window_get_stream
WINDOW_GET_STREAM_is = refl

pub WINDOW_SET_ECHO_STREAM_is : selector.WINDOW_SET_ECHO_STREAM ≡ numbers.window_set_echo_stream
WINDOW_SET_ECHO_STREAM_is = refl

pub WINDOW_GET_ECHO_STREAM_is : selector.WINDOW_GET_ECHO_STREAM ≡ numbers.window_get_echo_stream
WINDOW_GET_ECHO_STREAM_is = refl

pub SET_WINDOW_is : selector.SET_WINDOW ≡ numbers.set_window
SET_WINDOW_is = refl

pub WINDOW_GET_SIBLING_is : selector.WINDOW_GET_SIBLING ≡ numbers.window_get_sibling
WINDOW_GET_SIBLING_is = refl

pub STREAM_ITERATE_is : selector.STREAM_ITERATE ≡ numbers.stream_iterate
STREAM_ITERATE_is = refl

pub STREAM_GET_ROCK_is : selector.STREAM_GET_ROCK ≡ numbers.stream_get_rock
STREAM_GET_ROCK_is = refl

pub STREAM_OPEN_FILE_is : selector.STREAM_OPEN_FILE ≡ numbers.stream_open_file
STREAM_OPEN_FILE_is = refl

pub STREAM_OPEN_MEMORY_is : selector.STREAM_OPEN_MEMORY ≡ numbers.stream_open_memory
STREAM_OPEN_MEMORY_is = refl

pub STREAM_CLOSE_is : selector.STREAM_CLOSE ≡ numbers.stream_close
STREAM_CLOSE_is = refl

pub STREAM_SET_POSITION_is : selector.STREAM_SET_POSITION ≡ numbers.stream_set_position
STREAM_SET_POSITION_is = refl

pub STREAM_GET_POSITION_is : selector.STREAM_GET_POSITION ≡ numbers.stream_get_position
STREAM_GET_POSITION_is = refl

pub STREAM_SET_CURRENT_is : selector.STREAM_SET_CURRENT ≡ numbers.stream_set_current
STREAM_SET_CURRENT_is = refl

pub STREAM_GET_CURRENT_is : selector.STREAM_GET_CURRENT ≡ numbers.stream_get_current
STREAM_GET_CURRENT_is = refl

pub FILEREF_CREATE_TEMP_is : selector.FILEREF_CREATE_TEMP ≡ numbers.fileref_create_temp
FILEREF_CREATE_TEMP_is = refl

pub FILEREF_CREATE_BY_NAME_is : selector.FILEREF_CREATE_BY_NAME ≡ numbers.fileref_create_by_name
FILEREF_CREATE_BY_NAME_is = refl

pub FILEREF_CREATE_BY_PROMPT_is : selector.FILEREF_CREATE_BY_PROMPT ≡ numbers.fileref_create_by_prompt
FILEREF_CREATE_BY_PROMPT_is = refl

pub FILEREF_DESTROY_is : selector.FILEREF_DESTROY ≡ numbers.fileref_destroy
FILEREF_DESTROY_is = refl

pub FILEREF_ITERATE_is : selector.FILEREF_ITERATE ≡ numbers.fileref_iterate
FILEREF_ITERATE_is = refl

pub FILEREF_GET_ROCK_is : selector.FILEREF_GET_ROCK ≡ numbers.fileref_get_rock
FILEREF_GET_ROCK_is = refl

pub FILEREF_DELETE_FILE_is : selector.FILEREF_DELETE_FILE ≡ numbers.fileref_delete_file
FILEREF_DELETE_FILE_is = refl

pub FILEREF_DOES_FILE_EXIST_is : selector.FILEREF_DOES_FILE_EXIST ≡ numbers.fileref_does_file_exist
FILEREF_DOES_FILE_EXIST_is = refl

pub FILEREF_CREATE_FROM_FILEREF_is : selector.FILEREF_CREATE_FROM_FILEREF ≡ numbers.fileref_create_from_fileref
FILEREF_CREATE_FROM_FILEREF_is = refl

pub PUT_CHAR_is : selector.PUT_CHAR ≡ text_numbers.put_char
PUT_CHAR_is = refl

pub PUT_CHAR_STREAM_is : selector.PUT_CHAR_STREAM ≡ text_numbers.put_char_stream
PUT_CHAR_STREAM_is = refl

pub PUT_STRING_is : selector.PUT_STRING ≡ text_numbers.put_string
PUT_STRING_is = refl

pub PUT_STRING_STREAM_is : selector.PUT_STRING_STREAM ≡ text_numbers.put_string_stream
PUT_STRING_STREAM_is = refl

pub PUT_BUFFER_is : selector.PUT_BUFFER ≡ text_numbers.put_buffer
PUT_BUFFER_is = refl

pub PUT_BUFFER_STREAM_is : selector.PUT_BUFFER_STREAM ≡ text_numbers.put_buffer_stream
PUT_BUFFER_STREAM_is = refl

pub SET_STYLE_is : selector.SET_STYLE ≡ text_numbers.set_style
SET_STYLE_is = refl

pub SET_STYLE_STREAM_is : selector.SET_STYLE_STREAM ≡ text_numbers.set_style_stream
SET_STYLE_STREAM_is = refl

pub GET_CHAR_STREAM_is : selector.GET_CHAR_STREAM ≡ text_numbers.get_char_stream
GET_CHAR_STREAM_is = refl

pub GET_LINE_STREAM_is : selector.GET_LINE_STREAM ≡ text_numbers.get_line_stream
GET_LINE_STREAM_is = refl

pub GET_BUFFER_STREAM_is : selector.GET_BUFFER_STREAM ≡ text_numbers.get_buffer_stream
GET_BUFFER_STREAM_is = refl

pub CHAR_TO_LOWER_is : selector.CHAR_TO_LOWER ≡ text_numbers.char_to_lower
CHAR_TO_LOWER_is = refl

pub CHAR_TO_UPPER_is : selector.CHAR_TO_UPPER ≡ text_numbers.char_to_upper
CHAR_TO_UPPER_is = refl

pub STYLEHINT_SET_is : selector.STYLEHINT_SET ≡ text_numbers.stylehint_set
STYLEHINT_SET_is = refl

pub STYLEHINT_CLEAR_is : selector.STYLEHINT_CLEAR ≡ text_numbers.stylehint_clear
STYLEHINT_CLEAR_is = refl

pub STYLE_DISTINGUISH_is : selector.STYLE_DISTINGUISH ≡ text_numbers.style_distinguish
STYLE_DISTINGUISH_is = refl

pub STYLE_MEASURE_is : selector.STYLE_MEASURE ≡ text_numbers.style_measure
STYLE_MEASURE_is = refl

pub SELECT_is : selector.SELECT ≡ text_numbers.select
SELECT_is = refl

pub SELECT_POLL_is : selector.SELECT_POLL ≡ text_numbers.select_poll
SELECT_POLL_is = refl

pub REQUEST_LINE_EVENT_is : selector.REQUEST_LINE_EVENT ≡ text_numbers.request_line_event
REQUEST_LINE_EVENT_is = refl

pub CANCEL_LINE_EVENT_is : selector.CANCEL_LINE_EVENT ≡ text_numbers.cancel_line_event
CANCEL_LINE_EVENT_is = refl

pub REQUEST_CHAR_EVENT_is : selector.REQUEST_CHAR_EVENT ≡ text_numbers.request_char_event
REQUEST_CHAR_EVENT_is = refl

pub CANCEL_CHAR_EVENT_is : selector.CANCEL_CHAR_EVENT ≡ text_numbers.cancel_char_event
CANCEL_CHAR_EVENT_is = refl

pub BUFFER_TO_LOWER_CASE_UNI_is : selector.BUFFER_TO_LOWER_CASE_UNI ≡ text_numbers.buffer_to_lower_case_uni
BUFFER_TO_LOWER_CASE_UNI_is = refl

pub BUFFER_TO_UPPER_CASE_UNI_is : selector.BUFFER_TO_UPPER_CASE_UNI ≡ text_numbers.buffer_to_upper_case_uni
BUFFER_TO_UPPER_CASE_UNI_is = refl

pub BUFFER_TO_TITLE_CASE_UNI_is : selector.BUFFER_TO_TITLE_CASE_UNI ≡ text_numbers.buffer_to_title_case_uni
BUFFER_TO_TITLE_CASE_UNI_is = refl

pub PUT_CHAR_UNI_is : selector.PUT_CHAR_UNI ≡ text_numbers.put_char_uni
PUT_CHAR_UNI_is = refl

pub PUT_STRING_UNI_is : selector.PUT_STRING_UNI ≡ text_numbers.put_string_uni
PUT_STRING_UNI_is = refl

pub PUT_BUFFER_UNI_is : selector.PUT_BUFFER_UNI ≡ text_numbers.put_buffer_uni
PUT_BUFFER_UNI_is = refl

pub PUT_CHAR_STREAM_UNI_is : selector.PUT_CHAR_STREAM_UNI ≡ text_numbers.put_char_stream_uni
PUT_CHAR_STREAM_UNI_is = refl

pub PUT_STRING_STREAM_UNI_is : selector.PUT_STRING_STREAM_UNI ≡ text_numbers.put_string_stream_uni
PUT_STRING_STREAM_UNI_is = refl

pub PUT_BUFFER_STREAM_UNI_is : selector.PUT_BUFFER_STREAM_UNI ≡ text_numbers.put_buffer_stream_uni
PUT_BUFFER_STREAM_UNI_is = refl

pub GET_CHAR_STREAM_UNI_is : selector.GET_CHAR_STREAM_UNI ≡ text_numbers.get_char_stream_uni
GET_CHAR_STREAM_UNI_is = refl

pub GET_BUFFER_STREAM_UNI_is : selector.GET_BUFFER_STREAM_UNI ≡ text_numbers.get_buffer_stream_uni
GET_BUFFER_STREAM_UNI_is = refl

pub GET_LINE_STREAM_UNI_is : selector.GET_LINE_STREAM_UNI ≡ text_numbers.get_line_stream_uni
GET_LINE_STREAM_UNI_is = refl

pub STREAM_OPEN_FILE_UNI_is : selector.STREAM_OPEN_FILE_UNI ≡ numbers.stream_open_file_uni
STREAM_OPEN_FILE_UNI_is = refl

pub STREAM_OPEN_MEMORY_UNI_is : selector.STREAM_OPEN_MEMORY_UNI ≡ numbers.stream_open_memory_uni
STREAM_OPEN_MEMORY_UNI_is = refl

pub REQUEST_CHAR_EVENT_UNI_is : selector.REQUEST_CHAR_EVENT_UNI ≡ text_numbers.request_char_event_uni
REQUEST_CHAR_EVENT_UNI_is = refl

pub REQUEST_LINE_EVENT_UNI_is : selector.REQUEST_LINE_EVENT_UNI ≡ text_numbers.request_line_event_uni
REQUEST_LINE_EVENT_UNI_is = refl

pub SET_ECHO_LINE_EVENT_is : selector.SET_ECHO_LINE_EVENT ≡ text_numbers.set_echo_line_event
SET_ECHO_LINE_EVENT_is = refl
