-- The selectors of the calls of output, input, the case of characters, styles and events, each by its name in the
-- standard (Glk 0.7.5, "The Dispatch Layer"), in rising order. The constants of the same names in code are tied to
-- these.
use Rattle.std.specs.Prelude.{ℕ}

-- output ("How To Print", "Styles")
abbrev pub put_char : ℕ
put_char = 0x80

abbrev pub put_char_stream : ℕ
put_char_stream = 0x81

abbrev pub put_string : ℕ
put_string = 0x82

abbrev pub put_string_stream : ℕ
put_string_stream = 0x83

abbrev pub put_buffer : ℕ
put_buffer = 0x84

abbrev pub put_buffer_stream : ℕ
put_buffer_stream = 0x85

abbrev pub set_style : ℕ
set_style = 0x86

abbrev pub set_style_stream : ℕ
set_style_stream = 0x87

-- input ("How To Read")
abbrev pub get_char_stream : ℕ
get_char_stream = 0x90

abbrev pub get_line_stream : ℕ
get_line_stream = 0x91

abbrev pub get_buffer_stream : ℕ
get_buffer_stream = 0x92

-- the case of characters ("Upper and Lower Case")
abbrev pub char_to_lower : ℕ
char_to_lower = 0xA0

abbrev pub char_to_upper : ℕ
char_to_upper = 0xA1

-- styles ("Suggesting the Appearance of Styles", "Testing the Appearance of Styles")
abbrev pub stylehint_set : ℕ
stylehint_set = 0xB0

abbrev pub stylehint_clear : ℕ
stylehint_clear = 0xB1

abbrev pub style_distinguish : ℕ
style_distinguish = 0xB2

abbrev pub style_measure : ℕ
style_measure = 0xB3

-- events ("Events", "Line Input Events", "Character Input Events")
abbrev pub select : ℕ
select = 0xC0

abbrev pub select_poll : ℕ
select_poll = 0xC1

abbrev pub request_line_event : ℕ
request_line_event = 0xD0

abbrev pub cancel_line_event : ℕ
cancel_line_event = 0xD1

abbrev pub request_char_event : ℕ
request_char_event = 0xD2

abbrev pub cancel_char_event : ℕ
cancel_char_event = 0xD3

-- Unicode: the case of characters ("Upper and Lower Case")
abbrev pub buffer_to_lower_case_uni : ℕ
buffer_to_lower_case_uni = 0x120

abbrev pub buffer_to_upper_case_uni : ℕ
buffer_to_upper_case_uni = 0x121

abbrev pub buffer_to_title_case_uni : ℕ
buffer_to_title_case_uni = 0x122

-- Unicode: output ("How To Print")
abbrev pub put_char_uni : ℕ
put_char_uni = 0x128

abbrev pub put_string_uni : ℕ
put_string_uni = 0x129

abbrev pub put_buffer_uni : ℕ
put_buffer_uni = 0x12A

abbrev pub put_char_stream_uni : ℕ
put_char_stream_uni = 0x12B

abbrev pub put_string_stream_uni : ℕ
put_string_stream_uni = 0x12C

abbrev pub put_buffer_stream_uni : ℕ
put_buffer_stream_uni = 0x12D

-- Unicode: input ("How To Read")
abbrev pub get_char_stream_uni : ℕ
get_char_stream_uni = 0x130

abbrev pub get_buffer_stream_uni : ℕ
get_buffer_stream_uni = 0x131

abbrev pub get_line_stream_uni : ℕ
get_line_stream_uni = 0x132

-- Unicode: events ("Character Input Events", "Line Input Events")
abbrev pub request_char_event_uni : ℕ
request_char_event_uni = 0x140

abbrev pub request_line_event_uni : ℕ
request_line_event_uni = 0x141

-- the echo of line input ("Line Input Events")
abbrev pub set_echo_line_event : ℕ
set_echo_line_event = 0x150
