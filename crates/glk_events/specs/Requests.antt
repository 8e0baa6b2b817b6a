-- Requests for events (Glk 0.7.5, "Events"): what was asked for and not met yet, the oldest first, and what a
-- line that is taken gives.
use Rattle.std.specs.Prelude.{ℕ, ◌||◌, ◌==◌, nat_le, not, min, if◌then◌else◌, List, [], ◌∷◌, ◌++◌, length, Option}
use Rattle.std.specs.Prelude.{slice_get, find, filter}
use Rattle.glk_events.specs.declared.requests.Request.{Request}
use Rattle.glk_events.specs.Constants.{return_key, unknown_key}

-- the request of a window, which has at most one
abbrev pub of : List Request → ℕ → Option Request
of requests win = find (λ r. r.win == win) requests

-- the request that was made before all others
abbrev pub oldest : List Request → Option Request
oldest requests = slice_get requests 0

-- a request is made
abbrev pub with_request : List Request → Request → List Request
with_request requests r = requests ++ r ∷ []

-- the request of a window is met or cancelled
abbrev pub removed : List Request → ℕ → List Request
removed requests win = filter (λ r. not (r.win == win)) requests

-- "Line Input Events": how many characters of a line go into the buffer
abbrev pub line_length : Request → List ℕ → ℕ
line_length r line = min r.max (length line)

-- "Character Input Events": the character that a line gives, its first one; a line without one is the key
-- Return, and a character that isn't Latin-1 is an unknown key where Latin-1 was asked for
abbrev pub char_value : Request → List ℕ → ℕ
char_value r [] = return_key
char_value r (c ∷ _) = if r.wide || nat_le c 0xFF then c else unknown_key
