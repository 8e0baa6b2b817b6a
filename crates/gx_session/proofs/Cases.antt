-- What the parts of a move come to, case by case: a fact that holds of each case holds of the whole.
use Rattle.std.proofs.Common.{ℕ, List, Some, Result, Ok, Err}
use Rattle.gx_words.specs.declared.faults.Fault.{Fault}
use Rattle.gx_outside.specs.Shelves.{Request}
use Rattle.gx_state.specs.declared.effects.Reply.{Reply}
use Rattle.glk_world.specs.World.{Said, after}
use Rattle.glk_world.specs.Shown.{show_grids}
use Rattle.glk_replies.specs.declared.Turn.{Turn}
use Rattle.glk_replies.specs.declared.Turn.TheVariants as turn
use Rattle.gx_session.specs.declared.ends.Stop.TheVariants as stop
use Rattle.gx_session.specs.declared.running.GlkWait.{GlkWait}
use Rattle.gx_session.specs.Input.{NextLine, too_long, none, line, next_line}
use Rattle.gx_session.specs.Configurations.{Configuration, Verdict, asks as asks-for, stops}
use Rattle.gx_session.specs.Moves.{after_reply, asking_for, after_turn, after_given, after_line}
use Rattle.gx_session.specs.Moves.{shelf_gives, act_by}

module _ (P : Verdict → Type 0) (m : Configuration) where
  -- a turn
  pub turn-cases : (w : GlkWait) (r : Result (Said × Turn) Fault)
      → ((said : Said) (reply : Reply) → P (after_reply m w.left (Ok (said, reply))))
      → ((said : Said) (t : Turn) → P (asking_for m w (after m.world said) t))
      → ((said : Said) (t : Turn) → P (asking_for m w (after (after m.world said) (show_grids said.0)) t))
      → ((said : Said) → P (stops stop.Stuck (record m { world = after m.world said })))
      → ((said : Said) → P (stops stop.Exited (record m { world = after m.world said; left = w.left })))
      → ((f : Fault) → P (stops (stop.Faulted f) m)) → P (after_turn m w r)
  turn-cases w (Ok (said, turn.Answer reply)) answers asks waits stuck exits faults = answers said reply
  turn-cases w (Ok (said, turn.Wait)) answers asks waits stuck exits faults = waits said turn.Wait
  turn-cases w (Ok (said, turn.Stuck)) answers asks waits stuck exits faults = stuck said
  turn-cases w (Ok (said, turn.Prompt)) answers asks waits stuck exits faults = waits said turn.Prompt
  turn-cases w (Ok (said, turn.Load name)) answers asks waits stuck exits faults = asks said (turn.Load name)
  turn-cases w (Ok (said, turn.Store name bytes)) answers asks waits stuck exits faults =
      asks said (turn.Store name bytes)
  turn-cases w (Ok (said, turn.Remove name)) answers asks waits stuck exits faults = asks said (turn.Remove name)
  turn-cases w (Ok (said, turn.Has name)) answers asks waits stuck exits faults = asks said (turn.Has name)
  turn-cases w (Ok (said, turn.Exit)) answers asks waits stuck exits faults = exits said
  turn-cases w (Err f) answers asks waits stuck exits faults = faults f

  -- what a call comes to that goes on
  pub given-cases : (w : GlkWait) (r : Result (Said × Turn) Fault)
      → ((said : Said) (reply : Reply) → P (after_reply m w.left (Ok (said, reply)))) → P (stops stop.Stuck m)
      → ((f : Fault) → P (stops (stop.Faulted f) m)) → P (after_given m w r)
  given-cases w (Ok (said, turn.Answer reply)) answers stuck faults = answers said reply
  given-cases w (Ok (said, turn.Wait)) answers stuck faults = stuck
  given-cases w (Ok (said, turn.Stuck)) answers stuck faults = stuck
  given-cases w (Ok (said, turn.Prompt)) answers stuck faults = stuck
  given-cases w (Ok (said, turn.Load name)) answers stuck faults = stuck
  given-cases w (Ok (said, turn.Store name bytes)) answers stuck faults = stuck
  given-cases w (Ok (said, turn.Remove name)) answers stuck faults = stuck
  given-cases w (Ok (said, turn.Has name)) answers stuck faults = stuck
  given-cases w (Ok (said, turn.Exit)) answers stuck faults = stuck
  given-cases w (Err f) answers stuck faults = faults f

  -- a line
  pub line-cases : (w : GlkWait) (l : NextLine) → P (stops stop.LineTooLong m) → P (stops stop.InputEnded m)
      → ((chars rest : List ℕ) → P (after_line m w (line chars rest))) → P (after_line m w l)
  line-cases w too_long long ended taken = long
  line-cases w none long ended taken = ended
  line-cases w (line chars rest) long ended taken = taken chars rest

  -- what a device gives
  pub asking-cases : (w : GlkWait) (t : Turn) → P (after_line m w (next_line m.input))
      → ((r : Request) → P (shelf_gives m w (Some r))) → P (stops stop.Stuck m) → P (act_by (asks-for t w) m)
  asking-cases w (turn.Answer reply) lines gives stuck = stuck
  asking-cases w turn.Wait lines gives stuck = lines
  asking-cases w turn.Stuck lines gives stuck = stuck
  asking-cases w turn.Prompt lines gives stuck = lines
  asking-cases w (turn.Load name) lines gives stuck = gives _
  asking-cases w (turn.Store name bytes) lines gives stuck = gives _
  asking-cases w (turn.Remove name) lines gives stuck = gives _
  asking-cases w (turn.Has name) lines gives stuck = gives _
  asking-cases w turn.Exit lines gives stuck = stuck
