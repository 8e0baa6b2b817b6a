use Rattle.std.proofs.Common.{Ok, Err}
use Rattle.gx_outside.specs.declared.devices.SendFault.TheVariants as of_send
use Rattle.gx_session.proofs.Calling.{called-one}
use Rattle.gx_play.proofs.Outputs.{sends-whole, sends-front}
use Rattle.gx_play.proofs.telling.send_output.Goals as goal

pub returns-in-Ok-clause-sends : goal.returns-in-Ok-clause-sends
returns-in-Ok-clause-sends g c =
    called-one g.K.Sink.called c.args.output.now c.send.new.self (c.args.bytes.now, Ok tt) _ c.in-Ok.ensures
    (sends-whole c.without_machine.result c.args.status c.args.bytes.now (g.K.Sink.seen c.args.output.now)
    (g.K.Sink.seen c.send.new.self) c.without_machine.ensures
    (g.met.K.Sink.called_so _ _ _ c.in-Ok.ensures))

pub returns-in-Err-Failed-clause-sends : goal.returns-in-Err-Failed-clause-sends
returns-in-Err-Failed-clause-sends g c =
    let call = rw c.in-Err-Failed.field-0-is at c.in-Err-Failed.ensures in
    called-one g.K.Sink.called c.args.output.now c.send.new.self (c.args.bytes.now, Err of_send.Failed) _ call
    (sends-front c.without_machine-in-Err-Failed.result c.args.status c.args.bytes.now
    (g.K.Sink.seen c.args.output.now) (g.K.Sink.seen c.send.new.self) of_send.Failed
    c.without_machine-in-Err-Failed.ensures
    (g.met.K.Sink.called_so _ _ _ call))

pub returns-in-Err-NoMemory-clause-sends : goal.returns-in-Err-NoMemory-clause-sends
returns-in-Err-NoMemory-clause-sends g c =
    let call = rw c.in-Err-NoMemory.field-0-is at c.in-Err-NoMemory.ensures in
    let so = g.met.K.Sink.called_so _ _ _ call in
    called-one g.K.Sink.called c.args.output.now c.send.new.self (c.args.bytes.now, Err of_send.NoMemory) _ call
    (sends-front c.without_machine-in-Err-NoMemory.result c.args.status c.args.bytes.now
    (g.K.Sink.seen c.args.output.now) (g.K.Sink.seen c.send.new.self) of_send.NoMemory
    c.without_machine-in-Err-NoMemory.ensures so)
