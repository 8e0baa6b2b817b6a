use Rattle.std.proofs.Common.{◌≡◌, refl, ◌++◌}
use Rattle.std.proofs.lemmas.Result.{on_ok_weaker}
use Rattle.gx_asm.specs.Views.{seen_instruction}
use Rattle.gx_asm.proofs.LineTurns.{data_left, data_there, line_written, word_written}
use Rattle.gx_asm.proofs.instruction.Instruction.push_line.Goals as goal

pub loop-mode-init : goal.loop-mode-init
loop-mode-init c = record {
  room = rw (c.as_slice-rest.ensures.value, c.as_slice-modes.ensures.value)
      c.requires.operand_data;
  whole = refl;
}

pub split_at-requires : goal.split_at-requires
split_at-requires c = data_there c.as_slice-modes.result.now c.loop-mode.mode-index _ _ c.loop-mode.rest.now
    c.loop-mode-test.true c.loop-mode.invariant.room c.data_len.ensures.value

pub loop-mode-preserved : goal.loop-mode-preserved
loop-mode-preserved c = record {
  room = data_left c.as_slice-modes.result.now c.loop-mode.mode-index _ _ c.loop-mode.rest.now _ c.loop-mode-test.true
      c.loop-mode.invariant.room c.data_len.ensures.value c.split_at.ensures.back_len;
  whole = word_written c.as_slice-modes.result.now c.loop-mode.mode-index _ _ c.loop-mode.text c.loop-mode.rest.now _
      _ _ _ c.loop-mode-test.true c.loop-mode.invariant.whole c.data_len.ensures.value c.split_at.ensures.front
      c.split_at.ensures.back c.in_ok-push_word.ensures;
}

pub returns : goal.returns
returns c =
    let w = seen_instruction c.args.self.now in
    let named : c.extend_from_slice.new.self ≡ c.args.text.now ++ c.name_at.result.now =
    rw c.as_bytes.ensures.value at c.in_ok-extend_from_slice.ensures.ok in
    on_ok_weaker c.push.result
    (λ pushed. line_written w c.loop-mode.mode-index c.args.text.now c.extend_from_slice.new.self c.loop-mode.text
    c.loop-mode.rest.now c.push.new.self
    (rw c.name_at.ensures at named)
    (rw c.as_slice-modes.ensures.value at c.loop-mode-test.false)
    (rw (c.as_slice-modes.ensures.value, c.as_slice-rest.ensures.value) at c.loop-mode.invariant.whole)
    pushed)
    c.push.ensures.ok
