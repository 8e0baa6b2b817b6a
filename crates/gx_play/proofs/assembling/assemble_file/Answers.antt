use Rattle.std.proofs.Common.{refl, ap}
use Rattle.gx_play.specs.Constants.{most_text}
use Rattle.gx_session.specs.Devices.{Devices}
use Rattle.gx_session.proofs.Calling.{called-none, called-as}
use Rattle.gx_play.specs.declared.command.Job.TheVariants.{Asm}
use Rattle.gx_play.proofs.Outcomes.{text_in_file, outcome_of_text}
use Rattle.gx_play.specs.Reading.{command_seen}
use Rattle.gx_play.proofs.Dones.{refused-done, asm-told}
use Rattle.gx_play.proofs.assembling.assemble_file.Goals as goal

pub returns-in-Err : goal.returns-in-Err
returns-in-Err g c =
    called-none g.K.Sink.called c.args.output.now _
    (called-as g.F.Shelf.called c.args.shelf.now c.load_text.new.shelf _ _ c.in-Err.ensures.value
    (λ asked l d.
    let e : Devices = record d { sink = g.K.Sink.seen c.args.output.now } in
    refused-done c.without_story.result most_text text_in_file (command_seen c.args.command) e
    (g.F.Shelf.seen c.args.shelf.now) (g.F.Shelf.seen c.load_text.new.shelf) asked Asm c.in-Err.refusal l
    c.in-Err.ensures.count c.in-Err.ensures.fault c.without_story.ensures
    (λ fault bad. ap outcome_of_text bad) (λ x. x) (refl, l.handed)))

pub returns-in-Ok : goal.returns-in-Ok
returns-in-Ok g c =
    let t = rw c.as_slice.ensures at c.send_story.ensures in
    called-as g.K.Sink.called c.args.output.now c.send_story.new.output _ _ t.tells
    (λ sends told.
    called-as g.F.Shelf.called c.args.shelf.now c.load_text.new.shelf _ _ c.in-Ok.ensures.value
    (λ asked l d.
    asm-told c.send_story.result (command_seen c.args.command) d (g.F.Shelf.seen c.args.shelf.now)
    (g.F.Shelf.seen c.load_text.new.shelf) (g.K.Sink.seen c.args.output.now)
    (g.K.Sink.seen c.send_story.new.output) sends asked
    t.blames c.in-Ok.text l c.in-Ok.ensures.count t.number told))
