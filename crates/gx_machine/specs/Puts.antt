-- Characters that are put behind the one that is asked, before anything else is done. What contracts say.
use Rattle.std.specs.Prelude.{◌≡◌, ◌≢◌, ℕ, ◌≤◌, List, [], ◌++◌, length, Option, None}
use Rattle.gx_state.specs.declared.modes.Mode.{Mode}
use Rattle.gx_state.specs.declared.effects.Reply.{Reply}
use Rattle.ops_print.specs.Puts.{PutsEach}
use Rattle.gx_machine.specs.Machine.{Whole}
use Rattle.gx_machine.specs.Log.{Log}
use Rattle.gx_machine.specs.Answer.{answered_whole}

-- the reply to a character, which has no value, pushes nothing and writes nothing
abbrev pub put_reply : Reply
put_reply = record { value = 0; pushes = []; writes = [] }

-- `after` is `before` with the characters behind it, so many at most, that are put once the one that is asked is
-- answered; behind them, if there are any, this is the mode. An engine that records gives none.
pub record PutsBehind (w : Whole) (log : Option Log) (most : ℕ) (before after : List ℕ) (mode : Mode) : Type 0 where
  pub chars : List ℕ
  pub added : after ≡ before ++ chars
  pub few : length chars ≤ most
  pub unrecorded : chars ≢ [] → log ≡ None
  pub puts : chars ≢ [] → PutsEach chars (answered_whole w put_reply).machine.flat mode

-- the one that is asked is answered, and this is the mode behind it
abbrev pub put_on : Whole → Mode → Whole
put_on w mode = let m = (answered_whole w put_reply).machine in
    record { machine = record m { flat = record m.flat { mode = mode } }; asking = None }
