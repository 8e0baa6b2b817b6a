use Rattle.std.proofs.Common.{arith}
use Rattle.gx_asm.proofs.Lengths.{not-longer}
use Rattle.gx_asm.specs.Texts.{assembled}
use Rattle.gx_session.proofs.Calling.{called-none, called-as}
use Rattle.gx_play.proofs.Told.{code-refused, code-unwrapped, code-sent}
use Rattle.gx_play.proofs.assembling.send_story.Goals as goal

pub wrap_code-requires : goal.wrap_code-requires
wrap_code-requires g c =
    let code = c.in-Ok.code in
    let short = not-longer c.args.text.now code ((c.in-Ok.ensures.spelled code).0 c.in-Ok.ensures.value) in
    let fits = c.requires in
    rw c.as_slice.ensures (omega (arith, short, fits))

pub returns-in-Err-clause-tells : goal.returns-in-Err-clause-tells
returns-in-Err-clause-tells g c =
    called-none g.K.Sink.called c.args.output.now _
    (code-refused c.without_code.result (assembled c.args.text.now) (g.K.Sink.seen c.args.output.now) c.in-Err.fault
    c.in-Err.ensures.value.0 c.in-Err.ensures.value.1 c.without_code.ensures.memory c.without_code.ensures.fault)

pub returns-in-Err-wrap_code-clause-tells : goal.returns-in-Err-wrap_code-clause-tells
returns-in-Err-wrap_code-clause-tells g c =
    called-none g.K.Sink.called c.args.output.now _
    (code-unwrapped c.without_machine.result (assembled c.args.text.now)
    (g.K.Sink.seen c.args.output.now) c.in-Ok.code c.in-Ok.ensures.value c.without_machine.ensures)

pub returns-clause-tells : goal.returns-clause-tells
returns-clause-tells g c =
    called-as g.K.Sink.called c.args.output.now c.send_output.new.output _ _ c.send_output.ensures.sends
    (λ sends told.
    code-sent c.send_output.result (assembled c.args.text.now) (g.K.Sink.seen c.args.output.now)
    (g.K.Sink.seen c.send_output.new.output) sends c.in-Ok.code c.in-Ok-wrap_code.story c.in-Ok.ensures.value
    (rw c.as_slice.ensures at c.in-Ok-wrap_code.ensures.value) (rw c.as_slice-in-Ok-wrap_code.ensures at told))
