use Rattle.std.proofs.Common.{None, ◌∙◌}
use Rattle.std.proofs.lemmas.Result.{IfOk-weaker}
use Rattle.gx_session.specs.Runs.{Report, report_on}
use Rattle.gx_play.proofs.Tellings.{tells-of, line-is}
use Rattle.gx_play.proofs.working.work_line.Goals as goal

pub returns : goal.returns
returns g c =
    let run = c.run_on-ended.ensures in
    let w = c.in_ok-machine.machine in
    let r : Report = report_on (λ machine. machine) (λ machine. None) c.run_on-ended.result in
    let before = c.new-sink.result.text in
    let told = tells-of w c.new-source.result.reads c.new-source.result.offered c.new-sink.result.sends
    c.new-shelf.result.calls c.run_on-ended.new.input.reads c.run_on-ended.new.input.offered
    c.run_on-ended.new.output.sends c.run_on-ended.new.shelf.calls
    c.new-sink.result.wanting c.new-shelf.result.wanting c.run_on-ended.new.output.wanting
    c.run_on-ended.new.shelf.wanting run.trace run.holds.trace run.holds.holds.trace
    c.run_on-ended.new.output.text r before c.new-sink.ensures
    (rw c.new-world.ensures at run.holds.holds.holds) c.if-ended-eq-NO_MEMORY.false in
    let same = line-is w c.new-source.result.reads c.new-source.result.offered c.new-sink.result.sends
    c.new-shelf.result.calls c.run_on-ended.new.input.reads c.run_on-ended.new.input.offered
    c.run_on-ended.new.output.sends c.run_on-ended.new.shelf.calls
    c.new-sink.result.wanting c.new-shelf.result.wanting c.run_on-ended.new.output.wanting
    c.run_on-ended.new.shelf.wanting run.trace run.holds.trace run.holds.holds.trace
    c.run_on-ended.new.output.text r c.args.number c.state.result.now.flat c.ram_sum.result
    c.in_ok-machine.ensures.value told c.state.ensures c.ram_sum.ensures in
    IfOk-weaker c.tell_end.result _ _ (λ line h. (rw c.len.ensures at h) ∙ same) c.tell_end.ensures
