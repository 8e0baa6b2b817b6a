-- The constants of the code are the definitions' numbers.
use Rattle.std.proofs.Common.{◌≡◌, refl}
use Rattle.glk_streams.specs.declared.content.TheConstants as content
use Rattle.glk_streams.specs.declared.modes.TheConstants as mode
use Rattle.glk_streams.specs.Constants.{write_mode, read_mode, read_write_mode, write_append_mode, seek_start}
use Rattle.glk_streams.specs.Constants.{seek_current, seek_end, largest}

pub WRITE_is : mode.WRITE ≡ write_mode
WRITE_is = refl

pub READ_is : mode.READ ≡ read_mode
READ_is = refl

pub READ_WRITE_is : mode.READ_WRITE ≡ read_write_mode
READ_WRITE_is = refl

pub WRITE_APPEND_is : mode.WRITE_APPEND ≡ write_append_mode
WRITE_APPEND_is = refl

pub FROM_START_is : mode.FROM_START ≡ seek_start
FROM_START_is = refl

pub FROM_CURRENT_is : mode.FROM_CURRENT ≡ seek_current
FROM_CURRENT_is = refl

pub FROM_END_is : mode.FROM_END ≡ seek_end
FROM_END_is = refl

pub LARGEST_is : content.LARGEST ≡ largest
LARGEST_is = refl
