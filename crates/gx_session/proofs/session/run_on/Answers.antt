use Rattle.std.proofs.Common.{[], ◌++◌, List, ℕ, None, inr, refl, ap, subst}
use Rattle.gx_outside.specs.Chains.{Chain}
use Rattle.gx_outside.specs.Reads.{SourceCall}
use Rattle.gx_outside.specs.Sends.{SinkCall}
use Rattle.gx_outside.specs.Shelves.{Trace, ShelfCall}
use Rattle.gx_session.specs.Runs.{IsRun}
use Rattle.gx_session.specs.Configurations.{Configuration, start_of}
use Rattle.gx_session.specs.Lines.{HeldLines}
use Rattle.gx_session.specs.Holding.{Handed, handed, devices_of, HeldRun, held_by, asking_in}
use Rattle.gx_session.specs.Standing.{Going}
use Rattle.gx_session.proofs.Calling.{chain-map, some-answers}
use Rattle.gx_session.proofs.Ending.{session-of-stop, session-of-halt, report-of-stop, report-of-halt, counts-of-stop}
use Rattle.gx_session.proofs.Ending.{counts-of-halt}
use Rattle.gx_session.proofs.Feeding.{some-coming, first-over, says-there}
use Rattle.gx_session.proofs.Playing.{starts}
use Rattle.gx_session.proofs.Recording.{records_places}
use Rattle.gx_session.proofs.Undoing.{lasts_undo}
use Rattle.gx_session.proofs.Finals.{stops-by-move}
use Rattle.gx_session.proofs.session.run_on.Goals as goal

pub returns-in-Ok : goal.returns-in-Ok
returns-in-Ok g c =
    rw (c.status.ensures, c.fault.ensures, c.fault_address.ensures)
    (let plays = c.in-Ok.ensures.plays in
    let asked : Trace = plays.trace in
    let fed = plays.holds in
    let entry : Handed g.K.Sink.called = handed (g.S.Source.seen c.args.input.now) c.args.output.now
    (g.F.Shelf.seen c.args.shelf.now) (g.R.Rng.stream c.args.dice.now) [] in
    let exit : Handed g.K.Sink.called = handed (g.S.Source.seen c.play_out-ended.new.input)
    c.play_out-ended.new.output (g.F.Shelf.seen c.play_out-ended.new.shelf)
    (g.R.Rng.stream c.play_out-ended.new.dice) asked in
    let start : Configuration = start_of (g.E.Engine.whole c.args.engine).machine c.args.world
    (devices_of entry (g.K.Sink.seen c.args.output.now) [] []) c.args.echo c.args.steps
    (g.E.Engine.log c.args.engine) in
    let chain : Chain ShelfCall entry.shelf asked exit.shelf =
    chain-map g.F.Shelf.seen g.F.Shelf.called ShelfCall g.met.F.Shelf.called_so c.args.shelf.now
    c.play_out-ended.new.shelf asked plays.chain in
    let told = some-answers entry.shelf exit.shelf asked chain in
    let nothing = ap (λ (l : HeldLines). l.held) c.new.ensures in
    let after = some-coming c.play_out-ended.new.run.lines exit.source
    (fed.over (first-over c.new.result entry.source c.new.ensures)) in
    let before = fed.comes after.0 after.1 in
    let first : HeldRun = record {
      machine = (g.E.Engine.whole c.args.engine).machine;
      world = c.args.world;
      ahead = c.new.result.held;
      coming = before.0;
      over = c.new.result.ended;
      echo = c.args.echo;
      word = None;
      left = c.args.steps;
      log = g.E.Engine.log c.args.engine;
    } in
    let from : Configuration = record start { input = before.0; answers = told.0 } in
    let going : Going from entry first entry =
    subst (λ (x : List ℕ). Going (record from { input = x ++ before.0 }) entry first entry) nothing
    (starts told.0 entry first refl refl nothing
    (ap (λ (l : HeldLines). l.ended) c.new.ensures) c.requires.no_text before.1.told) in
    let last : HeldRun = held_by g.E.Engine.whole g.E.Engine.log c.play_out-ended.new.run after.0 in
    let keeps = c.in-Ok.ensures.keeps in
    let done = session-of-stop g.K.Sink.seen g.met.K.Sink.called_so fed.reads from entry last
    (asking_in g.E.Engine.whole c.play_out-ended.new.run) exit c.in-Ok.ensures.no_more c.in-Ok.stop
    (before.2 from entry [] told.2 going) in
    let counts = counts-of-stop (devices_of entry (g.K.Sink.seen entry.sink) [] [])
    (devices_of exit (g.K.Sink.seen exit.sink) [] []) c.in-Ok.stop
    (record {
      sink = keeps.sink;
      sink_tells = keeps.sink_tells;
      source = keeps.source;
      source_tells = keeps.source_tells;
      shelf = keeps.shelf;
      shelf_tells = keeps.shelf_tells;
    }) in
    let run : IsRun start (devices_of entry (g.K.Sink.seen entry.sink) [] [])
    (devices_of exit (g.K.Sink.seen exit.sink) fed.reads done.0) _ = record {
      input = before.0;
      input_is = before.1.told;
      coming = after.0;
      read = record {
        pieces = fed.pieces;
        given = fed.given after.0 after.1;
        end = λ room front rest e. after.1.over (fed.said (inr (says-there fed.reads room front rest e)));
      };
      answers = told.0;
      answers_are = told.1;
      session = done.2;
      source_calls = chain-map g.S.Source.seen g.S.Source.called SourceCall g.met.S.Source.called_so c.args.input.now
          c.play_out-ended.new.input fed.reads fed.chain;
      sink_calls = chain-map g.K.Sink.seen g.K.Sink.called SinkCall g.met.K.Sink.called_so entry.sink exit.sink done.0
          done.1;
      shelf_calls = chain;
      counts = record { shelf = counts.shelf; source = counts.source; sink = counts.sink };
      source_tells = keeps.source_tells;
      sink_tells = keeps.sink_tells;
      shelf_tells = keeps.shelf_tells;
      report = report-of-stop c.in-Ok.stop last.machine c.in-Ok.ensures.stop;
      undo = λ input answers. lasts_undo (record start { input = input; answers = answers });
      records = λ input answers. records_places (record start { input = input; answers = answers });
      stops = λ input answers. stops-by-move (record start { input = input; answers = answers });
      saves = c.saves_read_back.ensures;
    } in
    record {
      trace = fed.reads;
      chain = fed.chain;
      holds = record {
        trace = done.0;
        chain = done.1;
        holds = record { trace = asked; chain = plays.chain; holds = run };
      };
    })

pub returns-in-Err : goal.returns-in-Err
returns-in-Err g c =
    rw c.status-in-Err.ensures
    (let plays = c.in-Err.ensures.plays in
    let asked : Trace = plays.trace in
    let fed = plays.holds in
    let entry : Handed g.K.Sink.called = handed (g.S.Source.seen c.args.input.now) c.args.output.now
    (g.F.Shelf.seen c.args.shelf.now) (g.R.Rng.stream c.args.dice.now) [] in
    let exit : Handed g.K.Sink.called = handed (g.S.Source.seen c.play_out-ended.new.input)
    c.play_out-ended.new.output (g.F.Shelf.seen c.play_out-ended.new.shelf)
    (g.R.Rng.stream c.play_out-ended.new.dice) asked in
    let start : Configuration = start_of (g.E.Engine.whole c.args.engine).machine c.args.world
    (devices_of entry (g.K.Sink.seen c.args.output.now) [] []) c.args.echo c.args.steps
    (g.E.Engine.log c.args.engine) in
    let chain : Chain ShelfCall entry.shelf asked exit.shelf =
    chain-map g.F.Shelf.seen g.F.Shelf.called ShelfCall g.met.F.Shelf.called_so c.args.shelf.now
    c.play_out-ended.new.shelf asked plays.chain in
    let told = some-answers entry.shelf exit.shelf asked chain in
    let nothing = ap (λ (l : HeldLines). l.held) c.new.ensures in
    let after = some-coming c.play_out-ended.new.run.lines exit.source
    (fed.over (first-over c.new.result entry.source c.new.ensures)) in
    let before = fed.comes after.0 after.1 in
    let first : HeldRun = record {
      machine = (g.E.Engine.whole c.args.engine).machine;
      world = c.args.world;
      ahead = c.new.result.held;
      coming = before.0;
      over = c.new.result.ended;
      echo = c.args.echo;
      word = None;
      left = c.args.steps;
      log = g.E.Engine.log c.args.engine;
    } in
    let from : Configuration = record start { input = before.0; answers = told.0 } in
    let going : Going from entry first entry =
    subst (λ (x : List ℕ). Going (record from { input = x ++ before.0 }) entry first entry) nothing
    (starts told.0 entry first refl refl nothing
    (ap (λ (l : HeldLines). l.ended) c.new.ensures) c.requires.no_text before.1.told) in
    let last : HeldRun = held_by g.E.Engine.whole g.E.Engine.log c.play_out-ended.new.run after.0 in
    let keeps = c.in-Err.ensures.keeps in
    let done = session-of-halt g.K.Sink.seen g.met.K.Sink.called_so fed.reads from entry last
    (asking_in g.E.Engine.whole c.play_out-ended.new.run) exit c.in-Err.ensures.no_more c.in-Err.halt
    (before.2 from entry [] told.2 going) in
    let counts = counts-of-halt (devices_of entry (g.K.Sink.seen entry.sink) [] [])
    (devices_of exit (g.K.Sink.seen exit.sink) [] []) c.in-Err.halt
    (record {
      sink = keeps.sink;
      sink_tells = keeps.sink_tells;
      source = keeps.source;
      source_tells = keeps.source_tells;
      shelf = keeps.shelf;
      shelf_tells = keeps.shelf_tells;
    }) in
    let run : IsRun start (devices_of entry (g.K.Sink.seen entry.sink) [] [])
    (devices_of exit (g.K.Sink.seen exit.sink) fed.reads done.0) _ = record {
      input = before.0;
      input_is = before.1.told;
      coming = after.0;
      read = record {
        pieces = fed.pieces;
        given = fed.given after.0 after.1;
        end = λ room front rest e. after.1.over (fed.said (inr (says-there fed.reads room front rest e)));
      };
      answers = told.0;
      answers_are = told.1;
      session = done.2;
      source_calls = chain-map g.S.Source.seen g.S.Source.called SourceCall g.met.S.Source.called_so c.args.input.now
          c.play_out-ended.new.input fed.reads fed.chain;
      sink_calls = chain-map g.K.Sink.seen g.K.Sink.called SinkCall g.met.K.Sink.called_so entry.sink exit.sink done.0
          done.1;
      shelf_calls = chain;
      counts = record { shelf = counts.shelf; source = counts.source; sink = counts.sink };
      source_tells = keeps.source_tells;
      sink_tells = keeps.sink_tells;
      shelf_tells = keeps.shelf_tells;
      report = report-of-halt c.in-Err.halt;
      undo = λ input answers. lasts_undo (record start { input = input; answers = answers });
      records = λ input answers. records_places (record start { input = input; answers = answers });
      stops = λ input answers. stops-by-move (record start { input = input; answers = answers });
      saves = c.saves_read_back.ensures;
    } in
    record {
      trace = fed.reads;
      chain = fed.chain;
      holds = record {
        trace = done.0;
        chain = done.1;
        holds = record { trace = asked; chain = plays.chain; holds = run };
      };
    })
