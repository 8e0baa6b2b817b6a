use Rattle.gx_session.specs.Devices.{Devices}
use Rattle.gx_session.proofs.Calling.{called-none, called-as}
use Rattle.gx_play.proofs.Dones.{work-unmade, work-told}
use Rattle.gx_play.proofs.working.work.Goals as goal

pub returns-in-Err : goal.returns-in-Err
returns-in-Err g c =
    called-none g.K.Sink.called c.args.output.now _
    (λ command d. let e : Devices = record d { sink = g.K.Sink.seen c.args.output.now } in
    work-unmade c.without_machine.result c.args.number command e c.without_machine.ensures)

pub returns-in-Ok : goal.returns-in-Ok
returns-in-Ok g c =
    called-as g.K.Sink.called c.args.output.now c.send_output.new.output _ _ c.send_output.ensures.sends
    (λ sends told command d.
    work-told c.send_output.result c.args.number command d (g.K.Sink.seen c.args.output.now)
    (g.K.Sink.seen c.send_output.new.output) sends
    (rw (c.as_bytes.ensures.value, c.in-Ok.ensures) at told) c.send_output.ensures.blames)
