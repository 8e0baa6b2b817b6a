-- the first bad instruction decides, and else the text is whole or wants memory
use Rattle.std.proofs.Common.{sym, ◌∙◌, arith}
use Rattle.std.proofs.lemmas.Result.{err_from_is_err_and}
use Rattle.gx_asm.specs.Views.{seen_instruction}
use Rattle.gx_asm.proofs.CodesRead.{bytes_some}
use Rattle.gx_asm.proofs.CodesLoops.{cut_given, fault_given, instruction_wants, listing_bad, listing_cut}
use Rattle.gx_asm.proofs.CodesLoops.{listing_last, listing_more, whole_rest}
use Rattle.gx_asm.proofs.codes.list_from.Goals as goal

pub returns-in_err-instruction-clause-value : goal.returns-in_err-instruction-clause-value
returns-in_err-instruction-clause-value c =
    let p = err_from_is_err_and c.from_residual.result c.from_residual.ensures.1 in
    let bad = rw (whole_rest c.args.code.now c.loop-here.here) at c.in_err-instruction.ensures.value in
    rw (p.1, p.2) (fault_given _ _ (instruction_wants _ _ _ bad)
    (listing_bad c.args.code.now c.args.ends c.args.at c.loop-here.here c.loop-here.whole c.loop-here.text _
    c.loop-here.invariant c.loop-here-test.true bad))

pub returns-then-is_last-clause-value : goal.returns-then-is_last-clause-value
returns-then-is_last-clause-value c =
    let read = rw (whole_rest c.args.code.now c.loop-here.here) at c.in_ok-instruction.ensures.value in
    let w = seen_instruction c.in_ok-instruction.instruction in
    rw c.text_in_memory.ensures (listing_last c.args.code.now c.args.ends c.args.at c.loop-here.here c.loop-here.whole
    c.add_line-whole.result c.loop-here.text c.add_line-whole.new.text w
    c.loop-here.invariant c.loop-here-test.true read
    (sym c.is_last.ensures ∙ c.if-is_last.true) c.add_line-whole.ensures)

pub overflow_add-here : goal.overflow_add-here
overflow_add-here c =
    let read = rw (whole_rest c.args.code.now c.loop-here.here) at c.in_ok-instruction.ensures.value in
    let next = listing_more c.args.code.now c.args.ends c.args.at c.loop-here.here c.loop-here.whole
    c.add_line-whole.result c.loop-here.text c.add_line-whole.new.text
    (seen_instruction c.in_ok-instruction.instruction)
    c.loop-here.invariant c.loop-here-test.true c.are_bytes.ensures read
    (sym c.is_last.ensures ∙ c.if-is_last.false) c.add_line-whole.ensures in
    omega (arith, next.so_far.within, c.requires.short, c.len-here.ensures)

pub loop-here-smaller : goal.loop-here-smaller
loop-here-smaller c =
    let w = seen_instruction c.in_ok-instruction.instruction in
    omega (arith, bytes_some w, c.loop-here-test.true, c.len-here.ensures)

pub loop-here-preserved : goal.loop-here-preserved
loop-here-preserved c =
    let read = rw (whole_rest c.args.code.now c.loop-here.here) at c.in_ok-instruction.ensures.value in
    rw c.len-here.ensures (listing_more c.args.code.now c.args.ends c.args.at c.loop-here.here c.loop-here.whole
    c.add_line-whole.result c.loop-here.text c.add_line-whole.new.text
    (seen_instruction c.in_ok-instruction.instruction)
    c.loop-here.invariant c.loop-here-test.true c.are_bytes.ensures read
    (sym c.is_last.ensures ∙ c.if-is_last.false) c.add_line-whole.ensures)

pub returns-then-ends-clause-value : goal.returns-then-ends-clause-value
returns-then-ends-clause-value c =
    cut_given _ _ (listing_cut c.args.code.now c.args.ends c.args.at c.loop-here.here c.loop-here.whole
    c.loop-here.text c.loop-here.invariant c.if-ends.true c.loop-here-test.false)
