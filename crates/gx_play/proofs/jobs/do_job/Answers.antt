use Rattle.std.proofs.Common.{[], subst, sym}
use Rattle.gx_session.specs.Devices.{Devices, devices}
use Rattle.gx_session.proofs.Calling.{called-none, called-as, both-as}
use Rattle.gx_play.specs.declared.command.Job.{Job}
use Rattle.gx_play.specs.Commands.{Command}
use Rattle.gx_play.specs.Loading.{IsJobDone}
use Rattle.gx_play.specs.Reading.{command_seen}
use Rattle.gx_play.proofs.jobs.do_job.Goals as goal

pub returns-in-Check : goal.returns-in-Check
returns-in-Check g c =
    called-none g.S.Source.called c.args.input.now _
    (both-as g.K.Sink.called g.F.Shelf.called c.args.output.now c.check_file.new.output c.args.shelf.now
    c.check_file.new.shelf _ _ c.check_file.ensures
    (λ sends asked done.
    let entry : Devices = devices (g.S.Source.seen c.args.input.now) (g.K.Sink.seen c.args.output.now)
    (g.F.Shelf.seen c.args.shelf.now) (g.R.Rng.stream c.args.dice.now) [] [] [] in
    let exit : Devices = record entry {
      sink = g.K.Sink.seen c.check_file.new.output;
      shelf = g.F.Shelf.seen c.check_file.new.shelf;
      sends = sends;
      asked = asked;
    } in
    let command : Command = command_seen c.args.command in
    subst (λ (job : Job). IsJobDone job command entry exit c.check_file.result) (sym c.in-Check.is) (done entry)))

pub returns-in-Work : goal.returns-in-Work
returns-in-Work g c =
    let entry : Devices = devices (g.S.Source.seen c.args.input.now) (g.K.Sink.seen c.args.output.now)
    (g.F.Shelf.seen c.args.shelf.now) (g.R.Rng.stream c.args.dice.now) [] [] [] in
    let command : Command = command_seen c.args.command in
    called-none g.S.Source.called c.args.input.now _
    (called-as g.K.Sink.called c.args.output.now c.work.new.output _ _ c.work.ensures
    (λ sends done.
    let exit : Devices = record entry { sink = g.K.Sink.seen c.work.new.output; sends = sends } in
    called-none g.F.Shelf.called c.args.shelf.now _
    (subst (λ (job : Job). IsJobDone job command entry exit c.work.result) (sym c.in-Work.is) (done command entry))))

pub returns-in-Asm : goal.returns-in-Asm
returns-in-Asm g c =
    called-none g.S.Source.called c.args.input.now _
    (both-as g.K.Sink.called g.F.Shelf.called c.args.output.now c.assemble_file.new.output c.args.shelf.now
    c.assemble_file.new.shelf _ _ c.assemble_file.ensures
    (λ sends asked done.
    let entry : Devices = devices (g.S.Source.seen c.args.input.now) (g.K.Sink.seen c.args.output.now)
    (g.F.Shelf.seen c.args.shelf.now) (g.R.Rng.stream c.args.dice.now) [] [] [] in
    let exit : Devices = record entry {
      sink = g.K.Sink.seen c.assemble_file.new.output;
      shelf = g.F.Shelf.seen c.assemble_file.new.shelf;
      sends = sends;
      asked = asked;
    } in
    let command : Command = command_seen c.args.command in
    subst (λ (job : Job). IsJobDone job command entry exit c.assemble_file.result) (sym c.in-Asm.is) (done entry)))

pub returns-in-List : goal.returns-in-List
returns-in-List g c =
    called-none g.S.Source.called c.args.input.now _
    (both-as g.K.Sink.called g.F.Shelf.called c.args.output.now c.list_file.new.output c.args.shelf.now
    c.list_file.new.shelf _ _ c.list_file.ensures
    (λ sends asked done.
    let entry : Devices = devices (g.S.Source.seen c.args.input.now) (g.K.Sink.seen c.args.output.now)
    (g.F.Shelf.seen c.args.shelf.now) (g.R.Rng.stream c.args.dice.now) [] [] [] in
    let exit : Devices = record entry {
      sink = g.K.Sink.seen c.list_file.new.output;
      shelf = g.F.Shelf.seen c.list_file.new.shelf;
      sends = sends;
      asked = asked;
    } in
    let command : Command = command_seen c.args.command in
    subst (λ (job : Job). IsJobDone job command entry exit c.list_file.result) (sym c.in-List.is) (done entry)))
