use Rattle.std.proofs.Common.{[], refl, map, ℕ, List}
use Rattle.gx_outside.specs.Reads.{SourceCall}
use Rattle.gx_outside.specs.Sends.{SinkCall}
use Rattle.gx_outside.specs.Shelves.{ShelfCall}
use Rattle.gx_session.specs.Devices.{Devices, devices}
use Rattle.gx_session.proofs.Calling.{chain-map, none-called, all-chained}
use Rattle.gx_play.specs.Reading.{command_seen}
use Rattle.gx_play.proofs.Dones.{played-done, played-none, played-unread}
use Rattle.gx_play.proofs.entry.play.Goals as goal

pub returns-in-Err-BadWords : goal.returns-in-Err-BadWords
returns-in-Err-BadWords g c =
    let words : List (List ℕ) = map (λ word. word.now) c.args.words.now in
    let entry : Devices = devices (g.S.Source.seen c.args.input.now) (g.K.Sink.seen c.args.output.now)
    (g.F.Shelf.seen c.args.shelf.now) (g.R.Rng.stream c.args.dice.now) [] [] [] in
    none-called g.S.Source.called g.K.Sink.called g.F.Shelf.called c.args.input.now c.args.output.now c.args.shelf.now _
    (played-none c.without_machine.result words entry refl refl refl
    (rw c.in-Err-BadWords.field-0-is at c.in-Err-BadWords.ensures.command) c.without_machine.ensures)

pub returns-in-Err-NoMemory : goal.returns-in-Err-NoMemory
returns-in-Err-NoMemory g c =
    let words : List (List ℕ) = map (λ word. word.now) c.args.words.now in
    let entry : Devices = devices (g.S.Source.seen c.args.input.now) (g.K.Sink.seen c.args.output.now)
    (g.F.Shelf.seen c.args.shelf.now) (g.R.Rng.stream c.args.dice.now) [] [] [] in
    none-called g.S.Source.called g.K.Sink.called g.F.Shelf.called c.args.input.now c.args.output.now c.args.shelf.now _
    (played-unread c.without_machine-in-Err-NoMemory.result words entry refl refl refl
    c.without_machine-in-Err-NoMemory.ensures)

pub returns : goal.returns
returns g c =
    let words : List (List ℕ) = map (λ word. word.now) c.args.words.now in
    let entry : Devices = devices (g.S.Source.seen c.args.input.now) (g.K.Sink.seen c.args.output.now)
    (g.F.Shelf.seen c.args.shelf.now) (g.R.Rng.stream c.args.dice.now) [] [] [] in
    all-chained g.S.Source.called g.K.Sink.called g.F.Shelf.called c.args.input.now c.do_job.new.input
    c.args.output.now c.do_job.new.output c.args.shelf.now c.do_job.new.shelf _ _ c.do_job.ensures
    (λ reads sends asked read sent called done.
    let exit : Devices = devices (g.S.Source.seen c.do_job.new.input) (g.K.Sink.seen c.do_job.new.output)
    (g.F.Shelf.seen c.do_job.new.shelf) (g.R.Rng.stream c.do_job.new.dice) reads sends asked in
    played-done c.do_job.result words entry (command_seen c.in-Ok.command) exit c.in-Ok.ensures.command
    (chain-map g.S.Source.seen g.S.Source.called SourceCall g.met.S.Source.called_so c.args.input.now
    c.do_job.new.input reads read)
    (chain-map g.K.Sink.seen g.K.Sink.called SinkCall g.met.K.Sink.called_so c.args.output.now c.do_job.new.output
    sends sent)
    (chain-map g.F.Shelf.seen g.F.Shelf.called ShelfCall g.met.F.Shelf.called_so c.args.shelf.now c.do_job.new.shelf
    asked called) done)
