-- What a turn may ask of the machine, and what is given for it.
use Rattle.std.specs.Prelude.{ℕ, ◌≤◌, length}
use Rattle.gx_outside.specs.Outside.{IsBounded}
use Rattle.gx_state.specs.Flat.{FlatState}
use Rattle.gx_state.specs.Replies.{IsReply}
use Rattle.glk_streams.specs.Constants.{largest}
use Rattle.glk_replies.specs.declared.Turn.{Turn}
use Rattle.glk_replies.specs.declared.Turn.TheVariants as turn
use Rattle.glk_replies.specs.declared.Given.{Given}
use Rattle.glk_replies.specs.declared.Given.TheVariants as given

-- a turn fits the asking
abbrev pub IsTurnFor : FlatState → ℕ → Turn → Type 0
IsTurnFor f room (turn.Answer reply) = IsReply f room reply
IsTurnFor f room (turn.Store name bytes) = length bytes ≤ largest
IsTurnFor f room t = Unit {0}

abbrev pub IsAnswered : Turn → Type 0
IsAnswered (turn.Answer reply) = Unit {0}
IsAnswered t = ⊥

-- what is given for a turn
abbrev pub IsGivenFor : Turn → Given → Type 0
IsGivenFor turn.Wait (given.Line line) = Unit {0}
IsGivenFor turn.Prompt (given.Line line) = Unit {0}
IsGivenFor (turn.Load name) (given.Loaded load) = IsBounded largest load
IsGivenFor (turn.Store name bytes) given.Stored = Unit {0}
IsGivenFor (turn.Remove name) (given.Was was) = Unit {0}
IsGivenFor (turn.Has name) (given.Was was) = Unit {0}
IsGivenFor t g = ⊥
