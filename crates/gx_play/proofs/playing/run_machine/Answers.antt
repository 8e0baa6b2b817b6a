use Rattle.std.proofs.Common.{arith}
use Rattle.gx_session.proofs.Calling.{all-as}
use Rattle.gx_play.proofs.playing.run_machine.Goals as goal

pub run_command-ended-requires-clause-room : goal.run_command-ended-requires-clause-room
run_command-ended-requires-clause-room g c = let fits = c.requires.range.steps in omega (arith, fits)

pub returns-clause-runs : goal.returns-clause-runs
returns-clause-runs g c =
    all-as g.S.Source.called g.K.Sink.called g.F.Shelf.called c.args.input.now c.run_command-ended.new.input
    c.args.output.now c.run_command-ended.new.output c.args.shelf.now c.run_command-ended.new.shelf _ _
    c.run_command-ended.ensures
    (λ reads sends asked run. (run.0, run.1, run.2))
