-- The numbers of the faults, and where they stand: the line of a text, the place in a code.
use Rattle.std.specs.Prelude.{ℕ}
use Rattle.gx_asm.specs.declared.faults.AsmFault.{AsmFault}
use Rattle.gx_asm.specs.declared.faults.AsmFault.TheVariants as of_text
use Rattle.gx_asm.specs.declared.faults.ListFault.{ListFault}
use Rattle.gx_asm.specs.declared.faults.ListFault.TheVariants as of_code

abbrev pub number_in_text : AsmFault → ℕ
number_in_text of_text.Cut = 1
number_in_text (of_text.BadName line) = 2
number_in_text (of_text.Count line) = 3
number_in_text (of_text.BadOperand line) = 4
number_in_text of_text.NoMemory = 5

-- 0 where no line is to blame
abbrev pub line_in_text : AsmFault → ℕ
line_in_text of_text.Cut = 0
line_in_text (of_text.BadName line) = line
line_in_text (of_text.Count line) = line
line_in_text (of_text.BadOperand line) = line
line_in_text of_text.NoMemory = 0

abbrev pub number_in_code : ListFault → ℕ
number_in_code (of_code.BadFunction at) = 1
number_in_code (of_code.Cut at) = 2
number_in_code (of_code.Spelling at) = 3
number_in_code (of_code.BadOpcode at) = 4
number_in_code (of_code.BadMode at) = 5
number_in_code of_code.NoMemory = 6

abbrev pub place_in_code : ListFault → ℕ
place_in_code (of_code.BadFunction at) = at
place_in_code (of_code.Cut at) = at
place_in_code (of_code.Spelling at) = at
place_in_code (of_code.BadOpcode at) = at
place_in_code (of_code.BadMode at) = at
place_in_code of_code.NoMemory = 0
