-- The case of characters (Glk 0.7.5, "Upper and Lower Case"): that of Latin-1 alone is changed.
use Rattle.std.specs.Prelude.{ℕ, ◌%◌, ◌*◌, min, List, [], ◌∷◌, map}
use Rattle.gx_words.specs.Results.{◌>>=◌}
use Rattle.gx_state.specs.Flat.{FlatState}
use Rattle.gx_state.specs.declared.effects.Reply.{Reply}
use Rattle.glk_streams.specs.declared.kinds.Places.{Places}
use Rattle.glk_text.specs.Characters.{lower_of, upper_of}
use Rattle.glk_world.specs.World.{Scene, Outcome, answered, arg}
use Rattle.glk_text_calls.specs.declared.characters.Case.{Case}
use Rattle.glk_text_calls.specs.declared.characters.Case.TheVariants.{Lower, Upper, Same}
use Rattle.glk_replies.specs.Parts.{replies, can_read, can_lay, reply_filling, numbers_in}

-- a character in lower or upper case, or as it is
abbrev pub changed : Case → ℕ → ℕ
changed Lower c = lower_of c
changed Upper c = upper_of c
changed Same c = c

-- a text whose first character gets one case, and all others another
abbrev pub recased : Case → Case → List ℕ → List ℕ
recased first others [] = []
recased first others (c ∷ cs) = changed first c ∷ map (changed others) cs

-- char_to_lower, char_to_upper: the low eight bits
unfoldable pub char_to_case : Scene → Case → List ℕ → Outcome Reply
char_to_case w case args = answered w (replies (changed case (arg args 0 % 256)))

-- the characters of a buffer: so many of its places as are filled, at most all
abbrev pub buffer_of : List ℕ → Places
buffer_of args = record { at = arg args 0; width = 4; count = min (arg args 2) (arg args 1) }

-- buffer_to_lower_case_uni, buffer_to_upper_case_uni, buffer_to_title_case_uni: each character becomes one, so that
-- the answer is their number before
unfoldable pub buffer_to_case : Scene → FlatState → Case → Case → List ℕ → Outcome Reply
buffer_to_case w f first others args = do
  there ← can_read f (arg args 0) (4 * (buffer_of args).count)
  writable ← can_lay f (buffer_of args)
  let chars = numbers_in 4 f.memory (arg args 0) (buffer_of args).count
  answered w (reply_filling (arg args 2) (buffer_of args) (recased first others chars))
