use Rattle.std.proofs.Common.{[], ap, refl}
use Rattle.gx_session.specs.Devices.{Devices, devices}
use Rattle.gx_session.proofs.Calling.{all-as}
use Rattle.gx_play.specs.Reading.{command_seen}
use Rattle.gx_play.proofs.Seeds.{run-drawn, run-seeded}
use Rattle.gx_play.proofs.running.run_command.Goals as goal
use Rattle.rand_core.specs.Steps.{stream_of, steps_u32}
use Rattle.rand_pcg.specs.Lcg.{Lcg}
use Rattle.rand_pcg.specs.Pcg.{pcg32}

pub returns-in-None : goal.returns-in-None
returns-in-None g c =
    all-as g.S.Source.called g.K.Sink.called g.F.Shelf.called c.args.input.now c.run_on.new.input c.args.output.now
    c.run_on.new.output c.args.shelf.now c.run_on.new.shelf _ _ c.run_on.ensures
    (λ reads sends asked run.
    let entry : Devices = devices (g.S.Source.seen c.args.input.now) (g.K.Sink.seen c.args.output.now)
    (g.F.Shelf.seen c.args.shelf.now) (g.R.Rng.stream c.args.dice.now) [] [] [] in
    let exit : Devices = devices (g.S.Source.seen c.run_on.new.input) (g.K.Sink.seen c.run_on.new.output)
    (g.F.Shelf.seen c.run_on.new.shelf) (g.R.Rng.stream c.run_on.new.dice) reads sends asked in
    run-drawn entry exit (command_seen c.args.command) (g.E.Engine.whole c.args.engine)
    (g.E.Engine.log c.args.engine) _ c.in-None.is
    (rw c.world-world.ensures at run))

pub returns-in-Some : goal.returns-in-Some
returns-in-Some g c =
    let r = c.run_on-in-Some in
    all-as g.S.Source.called g.K.Sink.called g.F.Shelf.called c.args.input.now r.new.input c.args.output.now
    r.new.output c.args.shelf.now r.new.shelf _ _ r.ensures
    (λ reads sends asked run.
    let entry : Devices = devices (g.S.Source.seen c.args.input.now) (g.K.Sink.seen c.args.output.now)
    (g.F.Shelf.seen c.args.shelf.now) (g.R.Rng.stream c.args.dice.now) [] [] [] in
    let exit : Devices = devices (g.S.Source.seen r.new.input) (g.K.Sink.seen r.new.output)
    (g.F.Shelf.seen r.new.shelf) (g.R.Rng.stream c.args.dice.now) reads sends asked in
    run-seeded entry exit (command_seen c.args.command) (g.E.Engine.whole c.args.engine)
    (g.E.Engine.log c.args.engine) _ c.in-Some.seed (stream_of (steps_u32 pcg32) c.seed_from_u64-words.result)
    (stream_of (steps_u32 pcg32) r.new.dice)
    c.in-Some.is (ap (λ (l : Lcg). stream_of (steps_u32 pcg32) l) c.seed_from_u64-words.ensures) refl
    (rw c.world-world.ensures at run))
