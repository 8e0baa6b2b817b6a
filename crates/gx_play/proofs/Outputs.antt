-- What one call of the sink comes to.
use Rattle.std.proofs.Common.{ℕ, List, [], ◌∷◌, ◌⊎◌, Ok, Err, refl}
use Rattle.std.specs.Prelude.{unwrap_or}
use Rattle.gx_machine.specs.Log.{no_events}
use Rattle.gx_outside.specs.Outside.{FlatSink}
use Rattle.gx_outside.specs.Sends.{Send, SinkCall}
use Rattle.gx_outside.specs.declared.devices.SendFault.{SendFault}
use Rattle.gx_session.specs.declared.ended.Ended.{Ended}
use Rattle.gx_session.specs.Constants.{status_no_memory}
use Rattle.gx_session.specs.Runs.{Report}
use Rattle.gx_play.specs.Answers.{HasNoMachine, AnswersSend, SendsNothing, SendsOutput}
use Rattle.gx_play.specs.Rewinding.{rewind_line}

module _ {A : Type 0} (ended : Ended A) (status : ℕ) (output : List ℕ) (before now : FlatSink) where
  -- it took the output whole
  pub sends-whole : HasNoMachine ended status 0 0 0 → SinkCall before (output, Ok tt) now
      → SendsOutput status 0 0 0 output before now ((output, Ok tt) ∷ []) ended
  sends-whole absent call = (Ok tt, absent, refl, call)

  -- it was refused
  pub sends-front : (fault : SendFault) → AnswersSend (Err fault) status 0 0 0 ended
      → SinkCall before (output, Err fault) now
      → SendsOutput status 0 0 0 output before now ((output, Err fault) ∷ []) ended
  sends-front fault told call = (Err fault, told, refl, call)

-- the line of a run in job rewind
abbrev pub line_of : ℕ → Report → List ℕ
line_of back r = rewind_line back (record { whole = r.machine; log = unwrap_or r.log no_events })

-- it was sent, or a front of it, or memory ran out before
abbrev pub SendsLine : {A : Type 0} → List ℕ → Report → FlatSink → FlatSink → List Send → Ended A → Type 0
SendsLine line r before now sends ended =
    SendsOutput r.status r.fault r.at r.steps line before now sends ended
    ⊎ SendsNothing status_no_memory 0 0 r.steps before now sends ended
