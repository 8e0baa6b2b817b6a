-- A tape answers a character alone.
use Rattle.std.proofs.Common.{◌≡◌, ◌⊎◌, inl, inr, Some, None, ap, sym, ◌∙◌}
use Rattle.gx_state.specs.declared.modes.Mode.{Mode}
use Rattle.gx_machine.specs.Answer.{answered_whole}
use Rattle.gx_machine.specs.Log.{Log}
use Rattle.gx_machine.specs.Machine.{Whole}
use Rattle.gx_machine.specs.Puts.{put_reply, put_on}

-- the mode up to which it is asked to answer is the one behind that character
pub answered_alone : (w new : Whole) (log : Log) (mode : Mode)
    → (Some log ≡ None ⊎ (mode ≡ (answered_whole w put_reply).machine.flat.mode)) → new ≡ answered_whole w put_reply
    → new ≡ put_on w mode
answered_alone w new log mode (inl none) is = absurd cc
answered_alone w new log mode (inr alone) is = is ∙ ap (λ (m : Mode). put_on w m) (sym alone)
