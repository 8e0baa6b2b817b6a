use Rattle.std.proofs.Common.{Some, inr, refl, arith}
use Rattle.gx_session.specs.Runs.{Report, report_on}
use Rattle.gx_session.proofs.Calling.{called-none, called-as}
use Rattle.gx_play.proofs.Outputs.{line_of}
use Rattle.gx_play.proofs.Rewound.{line-unsent, line-whole, rewound-told}
use Rattle.gx_play.proofs.rewinding.tell_rewound.Goals as goal

pub returns-clause-rewound : goal.returns-clause-rewound
returns-clause-rewound g c =
    let r : Report = report_on (λ tape. tape.whole) (λ tape. Some tape.log) c.args.ended in
    let before = g.K.Sink.seen c.args.output.now in
    let now = g.K.Sink.seen c.send_output-sent.new.output in
    let early = c.if-status-ge-SHELF_FAULT.false in
    called-as g.K.Sink.called c.args.output.now c.send_output-sent.new.output _ _ c.send_output-sent.ensures.sends
    (λ sends told.
    rewound-told c.after_run-else-sent-eq-ENDED.result c.args.back r before now sends (omega (arith, early))
    (line-unsent c.after_run-else-sent-eq-ENDED.result c.send_output-sent.result
    (line_of c.args.back r) r before now sends
    (rw (c.as_bytes.ensures.value, c.in-Ok.ensures) at told) c.if-sent-eq-ENDED.false
    c.after_run-else-sent-eq-ENDED.ensures))

pub returns-then-status-ge-SHELF_FAULT-clause-rewound : goal.returns-then-status-ge-SHELF_FAULT-clause-rewound
returns-then-status-ge-SHELF_FAULT-clause-rewound g c =
    let late = c.if-status-ge-SHELF_FAULT.true in
    called-none g.K.Sink.called c.args.output.now _
    (record { told = λ early. absurd (omega (arith, early, late)); early = λ _. (c.after_run.ensures, refl, refl) })

pub returns-in_default-clause-rewound : goal.returns-in_default-clause-rewound
returns-in_default-clause-rewound g c =
    let below = c.if-status-ge-SHELF_FAULT.false in
    called-none g.K.Sink.called c.args.output.now _
    (record {
      told = λ _. inr (c.after_run-in_default.ensures, refl, refl);
      early = λ late. absurd (omega (arith, below, late));
    })

pub returns-then-sent-eq-ENDED-clause-rewound : goal.returns-then-sent-eq-ENDED-clause-rewound
returns-then-sent-eq-ENDED-clause-rewound g c =
    let r : Report = report_on (λ tape. tape.whole) (λ tape. Some tape.log) c.args.ended in
    let before = g.K.Sink.seen c.args.output.now in
    let now = g.K.Sink.seen c.send_output-sent.new.output in
    let early = c.if-status-ge-SHELF_FAULT.false in
    called-as g.K.Sink.called c.args.output.now c.send_output-sent.new.output _ _ c.send_output-sent.ensures.sends
    (λ sends told.
    rewound-told c.after_run-then-sent-eq-ENDED.result c.args.back r before now sends (omega (arith, early))
    (line-whole c.after_run-then-sent-eq-ENDED.result c.send_output-sent.result
    (line_of c.args.back r) r before now sends
    (rw (c.as_bytes.ensures.value, c.in-Ok.ensures) at told) c.if-sent-eq-ENDED.true
    c.after_run-then-sent-eq-ENDED.ensures))
