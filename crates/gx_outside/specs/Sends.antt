-- What a sink is handed and what it answers, call by call.
use Rattle.std.specs.Prelude.{◌≡◌, ℕ, List, Result}
use Rattle.gx_outside.specs.declared.devices.SendFault.{SendFault}
use Rattle.gx_outside.specs.Outside.{FlatSink, HasCause, Sends, send_cause}

-- A send: the bytes that were handed over, and the answer.
abbrev pub Send : Type 0
Send = List ℕ × Result (Unit {0}) SendFault

-- ONE CALL of a sink.
pub record SinkCall (before : FlatSink) (s : Send) (now : FlatSink) : Type 0 where
  pub cause : HasCause before.calls now.calls (send_cause s.1).0 (send_cause s.1).1
  pub tells : now.tells ≡ before.tells
  pub bytes : Sends before.tells before.taken now.taken s.0 s.1
