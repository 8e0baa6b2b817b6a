use Rattle.std.proofs.Common.{ap, length, arith, length-append}
use Rattle.std.proofs.lemmas.Result.{err_from_is_err_and}
use Rattle.gx_asm.proofs.ReadingTurns.{word_is, operand_pushed, operand_last, operand_fault}
use Rattle.gx_asm.proofs.texts.read_operands.Goals as goal

pub returns-in_err-mode-clause-value : goal.returns-in_err-mode-clause-value
returns-in_err-mode-clause-value c =
    let p = err_from_is_err_and c.from_residual.result c.from_residual.ensures.1 in
    rw (p.1, p.2)
    (operand_fault _ _ _ _ _ _ _ c.in_err-mode.field-0.0 _ c.in-Some.ensures.found
    (word_is _ _ _ _ _ _ _ c.row_at-row.ensures.row c.len.ensures.value c.kind_of.ensures c.in_err-mode.ensures)
    c.loop-word.invariant.said)

pub loop-word-preserved : goal.loop-word-preserved
loop-word-preserved c = record {
  said =
      operand_pushed _ _ _ _ _ _ _ c.push.new.self.items _ _ _ c.push_all.new.operand_data.items c.in_ok-mode.mode _
      c.in-Some.ensures.found
      (word_is _ _ _ _ _ _ _ c.row_at-row.ensures.row c.len.ensures.value c.kind_of.ensures c.in_ok-mode.ensures)
      c.push.ensures.items c.push.ensures.len c.as_slice.ensures.value c.push_all.ensures c.loop-word.invariant.said;
  room = omega (arith, c.loop-word.invariant.room, ap length c.in-Some.ensures.found, c.push.ensures.len);
  few =
      omega (
        arith,
        c.loop-word.invariant.few,
        ap length c.push_all.ensures,
        length-append c.loop-word.operand_data.items c.as_slice.result.now,
        c.as_slice.ensures.fits,
        c.push.ensures.len,
      );
}

pub returns-in_err-mode-2-clause-value : goal.returns-in_err-mode-2-clause-value
returns-in_err-mode-2-clause-value c =
    let p = err_from_is_err_and c.from_residual-in_err-mode-2.result c.from_residual-in_err-mode-2.ensures.1 in
    rw (p.1, p.2)
    (operand_fault _ _ _ _ _ _ _ c.in_err-mode-2.field-0.0 _ c.in_default.ensures.missing
    (word_is _ _ _ _ _ _ _ c.row_at-row.ensures.row c.len-2.ensures.value c.kind_of-2.ensures c.in_err-mode-2.ensures)
    c.loop-word.invariant.said)

pub returns-clause-value : goal.returns-clause-value
returns-clause-value c =
    operand_last _ _ _ _ _ c.push-2.new.self.items _ _ _ c.push_all-2.new.operand_data.items c.in_ok-mode-2.mode _
    c.in_default.ensures.missing
    (word_is _ _ _ _ _ _ _ c.row_at-row.ensures.row c.len-2.ensures.value c.kind_of-2.ensures c.in_ok-mode-2.ensures)
    c.push-2.ensures.items c.as_slice-2.ensures.value c.push_all-2.ensures c.loop-word.invariant.said
