-- What contracts see of the code's instructions.
use Rattle.gx_asm.specs.declared.instruction.Instruction.{Instruction}
use Rattle.gx_asm.specs.Instructions.{WrittenInstruction}

abbrev pub seen_instruction : Instruction → WrittenInstruction
seen_instruction i = record { place = i.place; modes = i.modes.items; operand_data = i.operand_data.items }
