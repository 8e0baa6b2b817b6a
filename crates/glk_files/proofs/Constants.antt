-- The constants of the code are the definitions' numbers.
use Rattle.std.proofs.Common.{◌≡◌, refl}
use Rattle.glk_files.specs.declared.names.TheConstants as name
use Rattle.glk_files.specs.Constants.{saved_game, transcript, input_record, longest}

pub SAVED_GAME_is : name.SAVED_GAME ≡ saved_game
SAVED_GAME_is = refl

pub TRANSCRIPT_is : name.TRANSCRIPT ≡ transcript
TRANSCRIPT_is = refl

pub INPUT_RECORD_is : name.INPUT_RECORD ≡ input_record
INPUT_RECORD_is = refl

pub LONGEST_is : name.LONGEST ≡ longest
LONGEST_is = refl
