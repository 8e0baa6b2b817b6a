use Rattle.std.proofs.Common.{◌≡◌, ◌≤◌, [], ◌++◌, None}
use Rattle.gx_machine.specs.Advancing.{units_left}
use Rattle.gx_outside.specs.Chains.{IsCalled}
use Rattle.gx_outside.specs.Shelves.{Trace}
use Rattle.gx_session.specs.Devices.{devices}
use Rattle.gx_session.specs.Configurations.{Configuration}
use Rattle.gx_session.specs.Holding.{Handed, handed, held_by}
use Rattle.gx_session.specs.Standing.{Going}
use Rattle.gx_session.specs.Questions.{AreTold}
use Rattle.gx_session.specs.Reading.{Fed}
use Rattle.gx_session.proofs.Keeping.{Stays}
use Rattle.gx_session.proofs.events.play_events.Given as goal

abbrev pub invariant-loop-stop : goal.invariant-loop-stop
invariant-loop-stop g l = record {
  none : (g.E.Engine.whole l.run.engine).asking ≡ None;
  room : l.run.left ≤ units_left (g.E.Engine.log l.run.engine);
  no_more : l.run.left ≤ l.initial.run.left;
  stays : Stays (devices (g.S.Source.seen l.initial.input) (g.K.Sink.seen l.initial.output)
      (g.F.Shelf.seen l.initial.shelf) (g.R.Rng.stream l.initial.dice) [] [] [])
      (devices (g.S.Source.seen l.input) (g.K.Sink.seen l.output) (g.F.Shelf.seen l.shelf) (g.R.Rng.stream l.dice) []
      [] []);
  going : IsCalled g.F.Shelf.called l.initial.shelf l.shelf
      (λ asked. Fed g.S.Source.called g.S.Source.seen l.initial.run.lines l.run.lines l.initial.input l.input
      (λ coming after. (start : Configuration) (entry : Handed g.K.Sink.called) (before : Trace)
      → AreTold start.answers before asked → Going start entry
      (held_by g.E.Engine.whole g.E.Engine.log l.initial.run coming)
      (handed (g.S.Source.seen l.initial.input) l.initial.output (g.F.Shelf.seen l.initial.shelf)
      (g.R.Rng.stream l.initial.dice) before)
      → Going start entry (held_by g.E.Engine.whole g.E.Engine.log l.run after)
      (handed (g.S.Source.seen l.input) l.output (g.F.Shelf.seen l.shelf) (g.R.Rng.stream l.dice) (before ++ asked))));
}

abbrev pub decreases-loop-stop : goal.decreases-loop-stop
decreases-loop-stop g l = l.run.left
