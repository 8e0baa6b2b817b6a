use Rattle.std.proofs.Common.{[]}
use Rattle.gx_session.specs.Devices.{Devices, devices}
use Rattle.gx_session.proofs.Calling.{none-called, all-as}
use Rattle.gx_play.specs.Reading.{command_seen}
use Rattle.gx_play.proofs.Plays.{plays-unstarted, plays-rewound, plays-run}
use Rattle.gx_play.proofs.playing.play_story.Goals as goal

pub returns-in-Err-clause-plays : goal.returns-in-Err-clause-plays
returns-in-Err-clause-plays g c =
    let entry : Devices = devices (g.S.Source.seen c.args.input.now) (g.K.Sink.seen c.args.output.now)
    (g.F.Shelf.seen c.args.shelf.now) (g.R.Rng.stream c.args.dice.now) [] [] [] in
    none-called g.S.Source.called g.K.Sink.called g.F.Shelf.called c.args.input.now c.args.output.now c.args.shelf.now _
    (plays-unstarted c.unstarted.result c.args.command.job (command_seen c.args.command) c.args.story entry _
    c.in-Err.fault c.in-Err.ensures.value.0 c.unstarted.ensures.memory
    (rw c.start_function-start.ensures at c.unstarted.ensures.fault))

pub returns-in-Rewind-clause-plays : goal.returns-in-Rewind-clause-plays
returns-in-Rewind-clause-plays g c =
    let m = c.rewind_machine in
    let entry : Devices = devices (g.S.Source.seen c.args.input.now) (g.K.Sink.seen c.args.output.now)
    (g.F.Shelf.seen c.args.shelf.now) (g.R.Rng.stream c.args.dice.now) [] [] [] in
    all-as g.S.Source.called g.K.Sink.called g.F.Shelf.called c.args.input.now m.new.input c.args.output.now
    m.new.output c.args.shelf.now m.new.shelf _ _ m.ensures.rewinds
    (λ reads sends asked run.
    plays-rewound m.result c.args.command.job (command_seen c.args.command) c.args.story entry _ _ c.in-Ok.machine
    c.in-Rewind.is c.in-Ok.ensures.value run)

pub returns-in_default-clause-plays : goal.returns-in_default-clause-plays
returns-in_default-clause-plays g c =
    let m = c.run_machine in
    let entry : Devices = devices (g.S.Source.seen c.args.input.now) (g.K.Sink.seen c.args.output.now)
    (g.F.Shelf.seen c.args.shelf.now) (g.R.Rng.stream c.args.dice.now) [] [] [] in
    all-as g.S.Source.called g.K.Sink.called g.F.Shelf.called c.args.input.now m.new.input c.args.output.now
    m.new.output c.args.shelf.now m.new.shelf _ _ m.ensures.runs
    (λ reads sends asked run.
    plays-run m.result c.args.command.job (command_seen c.args.command) c.args.story entry _ _ c.in-Ok.machine
    c.in_default.not-Rewind c.in-Ok.ensures.value run)
