-- The selectors of the calls on the program, on windows, on streams and on file references, each by its name in the
-- standard (Glk 0.7.5, "The Dispatch Layer"), in rising order. The constants of the same names in code are tied to
-- these.
use Rattle.std.specs.Prelude.{ℕ}

-- the program ("Exiting Your Program", "The Tick Thing")
abbrev pub exit : ℕ
exit = 0x01

abbrev pub tick : ℕ
tick = 0x03

-- what the library can do ("The Gestalt System")
abbrev pub gestalt : ℕ
gestalt = 0x04

abbrev pub gestalt_ext : ℕ
gestalt_ext = 0x05

-- windows ("Windows")
abbrev pub window_iterate : ℕ
window_iterate = 0x20

abbrev pub window_get_rock : ℕ
window_get_rock = 0x21

abbrev pub window_get_root : ℕ
window_get_root = 0x22

abbrev pub window_open : ℕ
window_open = 0x23

abbrev pub window_close : ℕ
window_close = 0x24

abbrev pub window_get_size : ℕ
window_get_size = 0x25

abbrev pub window_set_arrangement : ℕ
window_set_arrangement = 0x26

abbrev pub window_get_arrangement : ℕ
window_get_arrangement = 0x27

abbrev pub window_get_type : ℕ
window_get_type = 0x28

abbrev pub window_get_parent : ℕ
window_get_parent = 0x29

abbrev pub window_clear : ℕ
window_clear = 0x2A

abbrev pub window_move_cursor : ℕ
window_move_cursor = 0x2B

abbrev pub window_get_stream : ℕ
window_get_stream = 0x2C

abbrev pub window_set_echo_stream : ℕ
window_set_echo_stream = 0x2D

abbrev pub window_get_echo_stream : ℕ
window_get_echo_stream = 0x2E

abbrev pub set_window : ℕ
set_window = 0x2F

abbrev pub window_get_sibling : ℕ
window_get_sibling = 0x30

-- streams ("Streams")
abbrev pub stream_iterate : ℕ
stream_iterate = 0x40

abbrev pub stream_get_rock : ℕ
stream_get_rock = 0x41

abbrev pub stream_open_file : ℕ
stream_open_file = 0x42

abbrev pub stream_open_memory : ℕ
stream_open_memory = 0x43

abbrev pub stream_close : ℕ
stream_close = 0x44

abbrev pub stream_set_position : ℕ
stream_set_position = 0x45

abbrev pub stream_get_position : ℕ
stream_get_position = 0x46

abbrev pub stream_set_current : ℕ
stream_set_current = 0x47

abbrev pub stream_get_current : ℕ
stream_get_current = 0x48

-- file references ("File References")
abbrev pub fileref_create_temp : ℕ
fileref_create_temp = 0x60

abbrev pub fileref_create_by_name : ℕ
fileref_create_by_name = 0x61

abbrev pub fileref_create_by_prompt : ℕ
fileref_create_by_prompt = 0x62

abbrev pub fileref_destroy : ℕ
fileref_destroy = 0x63

abbrev pub fileref_iterate : ℕ
fileref_iterate = 0x64

abbrev pub fileref_get_rock : ℕ
fileref_get_rock = 0x65

abbrev pub fileref_delete_file : ℕ
fileref_delete_file = 0x66

abbrev pub fileref_does_file_exist : ℕ
fileref_does_file_exist = 0x67

abbrev pub fileref_create_from_fileref : ℕ
fileref_create_from_fileref = 0x68

-- Unicode: streams ("File Streams", "Memory Streams")
abbrev pub stream_open_file_uni : ℕ
stream_open_file_uni = 0x138

abbrev pub stream_open_memory_uni : ℕ
stream_open_memory_uni = 0x139
