use Rattle.std.proofs.Common.{◌≡◌, ◌≤◌, ◌*◌, ◌+◌, length}
use Rattle.std.specs.List.{slice_split}
use Rattle.gx_rows.specs.Table.{row_at}
use Rattle.gx_asm.specs.Instructions.{operand_count}
use Rattle.gx_asm.specs.Texts.{is_blank, operands_in}
use Rattle.gx_asm.proofs.ReadingTurns.{behind_operands}
use Rattle.gx_asm.proofs.texts.read_operands.Given as goal

abbrev pub invariant-loop-word : goal.invariant-loop-word
invariant-loop-word l = record {
  said :
      behind_operands l.modes.items l.operand_data.items
      (operands_in (row_at l.place) (length l.modes.items) (slice_split is_blank l.rest))
      ≡ operands_in (row_at l.place) 0 (slice_split is_blank l.words);
  room : length l.modes.items + length (slice_split is_blank l.rest) ≡ operand_count (row_at l.place);
  few : length l.operand_data.items ≤ 4 * length l.modes.items;
}

abbrev pub decreases-loop-word : goal.decreases-loop-word
decreases-loop-word l = length l.rest
