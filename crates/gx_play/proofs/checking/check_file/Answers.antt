use Rattle.std.proofs.Common.{refl, ap}
use Rattle.gx_words.specs.Constants.{ceiling}
use Rattle.gx_session.specs.Devices.{Devices}
use Rattle.gx_session.proofs.Calling.{called-none, called-as}
use Rattle.gx_play.specs.declared.command.Job.TheVariants.{Check}
use Rattle.gx_play.proofs.Outcomes.{story_in_file, outcome_of_check}
use Rattle.gx_play.specs.Reading.{command_seen}
use Rattle.gx_play.proofs.Dones.{refused-done, check-told}
use Rattle.gx_play.proofs.checking.check_file.Goals as goal

pub returns-in-Err : goal.returns-in-Err
returns-in-Err g c =
    called-none g.K.Sink.called c.args.output.now _
    (called-as g.F.Shelf.called c.args.shelf.now c.load_story.new.shelf _ _ c.in-Err.ensures.value
    (λ asked l d.
    let e : Devices = record d { sink = g.K.Sink.seen c.args.output.now } in
    refused-done c.without_story.result ceiling story_in_file (command_seen c.args.command) e
    (g.F.Shelf.seen c.args.shelf.now) (g.F.Shelf.seen c.load_story.new.shelf) asked Check c.in-Err.refusal l
    c.in-Err.ensures.count c.in-Err.ensures.fault c.without_story.ensures
    (λ fault bad. ap outcome_of_check bad) (λ x. x) (refl, l.handed)))

pub returns-in-Ok : goal.returns-in-Ok
returns-in-Ok g c =
    let t = c.tell_checksum.ensures in
    called-as g.K.Sink.called c.args.output.now c.tell_checksum.new.output _ _ t.sends
    (λ sends told.
    called-as g.F.Shelf.called c.args.shelf.now c.load_story.new.shelf _ _ c.in-Ok.ensures.value
    (λ asked l d.
    check-told c.tell_checksum.result (command_seen c.args.command) d (g.F.Shelf.seen c.args.shelf.now)
    (g.F.Shelf.seen c.load_story.new.shelf) (g.K.Sink.seen c.args.output.now)
    (g.K.Sink.seen c.tell_checksum.new.output) sends asked
    t.blames c.in-Ok.story l c.in-Ok.ensures.count (rw c.checksum_ok.ensures at told)))
