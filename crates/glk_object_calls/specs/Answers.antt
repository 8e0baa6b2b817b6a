-- What calls come to that add no text, and an answer as a turn.
use Rattle.std.specs.Prelude.{ℕ, Result, Ok}
use Rattle.gx_words.specs.declared.faults.Fault.{Fault}
use Rattle.gx_words.specs.Results.{◌>>=◌}
use Rattle.gx_state.specs.declared.effects.Reply.{Reply}
use Rattle.glk_world.specs.World.{Scene, Outcome, answered}
use Rattle.glk_replies.specs.declared.Turn.{Turn}
use Rattle.glk_replies.specs.declared.Turn.TheVariants.{Answer}
use Rattle.glk_replies.specs.Parts.{replies}

-- a call that only answers
abbrev pub tells : Scene → ℕ → Outcome Reply
tells w value = answered w (replies value)

-- a call that gives to references: the scene after it, where the looks found no fault
abbrev pub replying : Scene → Result Reply Fault → Outcome Reply
replying w given = given >>= λ reply. answered w reply

abbrev pub as_turn : Outcome Reply → Outcome Turn
as_turn outcome = outcome >>= λ done. Ok (done.0, Answer done.1)
