-- The constants of the code are the definitions' numbers.
use Rattle.std.proofs.Common.{◌≡◌, refl}
use Rattle.glk_event_calls.specs.declared.events.TheConstants as event
use Rattle.glk_event_calls.specs.Constants.{no_event_type, char_event_type, line_event_type}

pub NO_EVENT_is : event.NO_EVENT ≡ no_event_type
NO_EVENT_is = refl

pub CHAR_EVENT_is : event.CHAR_EVENT ≡ char_event_type
CHAR_EVENT_is = refl

pub LINE_EVENT_is : event.LINE_EVENT ≡ line_event_type
LINE_EVENT_is = refl
