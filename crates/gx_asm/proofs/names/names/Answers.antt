use Rattle.std.proofs.Common.{refl}
use Rattle.gx_rows.specs.Table.{table}
use Rattle.gx_asm.specs.Names.{instruction_names}
use Rattle.gx_asm.proofs.names.names.Goals as goal

pub returns-clause-names : goal.returns-clause-names
unfolding instruction_names
returns-clause-names c = refl

pub returns-clause-order : goal.returns-clause-order
unfolding instruction_names table
returns-clause-order c = refl
