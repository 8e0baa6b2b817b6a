use Rattle.std.proofs.Common.{◌≡◌, [], Some, inl, inr, refl, subst, arith}
use Rattle.gx_machine.specs.Log.{units_of}
use Rattle.gx_rewind.specs.Tape.{FlatTape}
use Rattle.gx_session.specs.Devices.{Devices, devices}
use Rattle.gx_session.proofs.Calling.{none-called, all-sent}
use Rattle.gx_session.specs.Runs.{Report, report_on}
use Rattle.gx_play.specs.Outcomes.{start_for}
use Rattle.gx_play.specs.Answers.{IsRunTo}
use Rattle.gx_play.specs.Reading.{command_seen}
use Rattle.gx_play.proofs.Rewound.{rewound-counts, rewound-parts}
use Rattle.gx_play.proofs.rewinding.rewind_machine.Goals as goal

none : units_of [] ≡ 0
unfolding units_of
none = refl

pub run_command-ended-requires-clause-room : goal.run_command-ended-requires-clause-room
run_command-ended-requires-clause-room g c = let fits = c.requires.range.steps in
    rw (c.in-Ok.ensures, none) (omega (arith, fits))

pub returns-in-Err-clause-rewinds : goal.returns-in-Err-clause-rewinds
returns-in-Err-clause-rewinds g c =
    none-called g.S.Source.called g.K.Sink.called g.F.Shelf.called c.args.input.now c.args.output.now c.args.shelf.now
    _ (inr (c.without_machine.ensures, refl))

pub returns-in-Ok-clause-rewinds : goal.returns-in-Ok-clause-rewinds
returns-in-Ok-clause-rewinds g c =
    all-sent g.S.Source.called g.K.Sink.called g.F.Shelf.called c.args.input.now c.run_command-ended.new.input
    c.args.output.now c.run_command-ended.new.output c.tell_rewound.new.output c.args.shelf.now
    c.run_command-ended.new.shelf _ _ _
    c.run_command-ended.ensures c.tell_rewound.ensures.rewound
    (λ reads ran more asked run line.
    let entry : Devices = devices (g.S.Source.seen c.args.input.now) (g.K.Sink.seen c.args.output.now)
    (g.F.Shelf.seen c.args.shelf.now) (g.R.Rng.stream c.args.dice.now) [] [] [] in
    let mid : Devices = devices (g.S.Source.seen c.run_command-ended.new.input)
    (g.K.Sink.seen c.run_command-ended.new.output) (g.F.Shelf.seen c.run_command-ended.new.shelf)
    (g.R.Rng.stream c.run_command-ended.new.dice) reads ran asked in
    let r : Report = report_on (λ tape. tape.whole) (λ tape. Some tape.log) c.run_command-ended.result in
    let command = c.args.command in
    inl (record {
      report = r;
      sink = g.K.Sink.seen c.run_command-ended.new.output;
      sends = ran;
      more = more;
      sends_are = refl;
      run = subst (λ (t : FlatTape). IsRunTo command.seed
          (start_for (command_seen command) t.whole (Some t.log) entry) entry mid r) c.in-Ok.ensures run;
      rewound = line;
    }))

pub returns-in-Ok-clause-counts : goal.returns-in-Ok-clause-counts
returns-in-Ok-clause-counts g c =
    let entry : Devices = devices (g.S.Source.seen c.args.input.now) (g.K.Sink.seen c.args.output.now)
    (g.F.Shelf.seen c.args.shelf.now) (g.R.Rng.stream c.args.dice.now) [] [] [] in
    let mid : Devices = devices (g.S.Source.seen c.run_command-ended.new.input)
    (g.K.Sink.seen c.run_command-ended.new.output) (g.F.Shelf.seen c.run_command-ended.new.shelf)
    (g.R.Rng.stream c.run_command-ended.new.dice) [] [] [] in
    let exit : Devices = record mid { sink = g.K.Sink.seen c.tell_rewound.new.output } in
    let r : Report = report_on (λ tape. tape.whole) (λ tape. Some tape.log) c.run_command-ended.result in
    let counts = c.run_command-ended.ensures.holds.holds.holds.2.counts in
    rewound-counts c.tell_rewound.result c.args.command.back r entry mid exit
    (record { shelf = counts.shelf; source = counts.source; sink = counts.sink })
    c.tell_rewound.ensures.rewound.trace c.tell_rewound.ensures.rewound.holds c.tell_rewound.ensures.blames

pub returns-in-Ok-clause-parts : goal.returns-in-Ok-clause-parts
returns-in-Ok-clause-parts g c =
    let r : Report = report_on (λ tape. tape.whole) (λ tape. Some tape.log) c.run_command-ended.result in
    let before = g.K.Sink.seen c.run_command-ended.new.output in
    let now = g.K.Sink.seen c.tell_rewound.new.output in
    rewound-parts c.tell_rewound.result c.args.command.back r before now c.tell_rewound.ensures.rewound.trace
    c.tell_rewound.ensures.rewound.holds c.run_command-ended.ensures.holds.holds.holds.2.report
