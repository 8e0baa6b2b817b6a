-- The numbers of the gestalts and of usages (Glk 0.7.5). The constants of code, VERSION for gestalt_version and so on,
-- are tied to these.
use Rattle.std.specs.Prelude.{ℕ}

-- what gestalt is asked: gestalt_Version ("The Version Number")
abbrev pub gestalt_version : ℕ
gestalt_version = 0

-- gestalt_CharInput ("Character Input")
abbrev pub gestalt_char_input : ℕ
gestalt_char_input = 1

-- gestalt_LineInput ("Line Input")
abbrev pub gestalt_line_input : ℕ
gestalt_line_input = 2

-- gestalt_CharOutput ("Output")
abbrev pub gestalt_char_output : ℕ
gestalt_char_output = 3

-- gestalt_Unicode ("Testing for Unicode Capabilities")
abbrev pub gestalt_unicode : ℕ
gestalt_unicode = 15

-- what gestalt_CharOutput is answered ("Output"): gestalt_CharOutput_CannotPrint, gestalt_CharOutput_ExactPrint
abbrev pub cannot_print : ℕ
cannot_print = 0

abbrev pub exact_print : ℕ
exact_print = 2

-- the bit of a usage that stands for a text ("The Types of File References"): fileusage_TextMode
abbrev pub text_mode : ℕ
text_mode = 0x100
