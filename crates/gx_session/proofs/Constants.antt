-- The constants of the code are the definitions' numbers.
use Rattle.std.proofs.Common.{◌≡◌, refl}
use Rattle.gx_session.specs.declared.lines.TheConstants as lines
use Rattle.gx_session.specs.declared.running.TheConstants as running
use Rattle.gx_session.specs.declared.saves.TheConstants as saves
use Rattle.gx_session.specs.declared.statuses.TheConstants as statuses
use Rattle.gx_session.specs.Constants.{status_ended, status_bad_words, status_bad_story, status_fault, status_spent}
use Rattle.gx_session.specs.Constants.{status_input_ended, status_stuck, status_line_too_long, status_shelf_fault}
use Rattle.gx_session.specs.Constants.{status_input_fault, status_output_fault, status_no_memory, status_bad_text}
use Rattle.gx_session.specs.Constants.{status_no_listing, longest_line, piece, enough, most_loaded, failed}

pub ENDED_is : statuses.ENDED ≡ status_ended
ENDED_is = refl

pub BAD_WORDS_is : statuses.BAD_WORDS ≡ status_bad_words
BAD_WORDS_is = refl

pub BAD_STORY_is : statuses.BAD_STORY ≡ status_bad_story
BAD_STORY_is = refl

pub FAULT_is : statuses.FAULT ≡ status_fault
FAULT_is = refl

pub SPENT_is : statuses.SPENT ≡ status_spent
SPENT_is = refl

pub INPUT_ENDED_is : statuses.INPUT_ENDED ≡ status_input_ended
INPUT_ENDED_is = refl

pub STUCK_is : statuses.STUCK ≡ status_stuck
STUCK_is = refl

pub LINE_TOO_LONG_is : statuses.LINE_TOO_LONG ≡ status_line_too_long
LINE_TOO_LONG_is = refl

pub SHELF_FAULT_is : statuses.SHELF_FAULT ≡ status_shelf_fault
SHELF_FAULT_is = refl

pub INPUT_FAULT_is : statuses.INPUT_FAULT ≡ status_input_fault
INPUT_FAULT_is = refl

pub OUTPUT_FAULT_is : statuses.OUTPUT_FAULT ≡ status_output_fault
OUTPUT_FAULT_is = refl

pub NO_MEMORY_is : statuses.NO_MEMORY ≡ status_no_memory
NO_MEMORY_is = refl

pub BAD_TEXT_is : statuses.BAD_TEXT ≡ status_bad_text
BAD_TEXT_is = refl

pub NO_LISTING_is : statuses.NO_LISTING ≡ status_no_listing
NO_LISTING_is = refl

pub LONGEST_is : lines.LONGEST ≡ longest_line
LONGEST_is = refl

pub PIECE_is : lines.PIECE ≡ piece
PIECE_is = refl

pub ENOUGH_is : running.ENOUGH ≡ enough
ENOUGH_is = refl

pub MOST_LOADED_is : running.MOST_LOADED ≡ most_loaded
MOST_LOADED_is = refl

pub FAILED_is : saves.FAILED ≡ failed
FAILED_is = refl
