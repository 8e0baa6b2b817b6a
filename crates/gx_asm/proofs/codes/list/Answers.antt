-- a text is listed where it spells the code
use Rattle.gx_asm.proofs.CodesText.{listing}
use Rattle.gx_asm.proofs.codes.list.Goals as goal

pub returns-clause-spelled : goal.returns-clause-spelled
returns-clause-spelled c = listing c.args.code.now c.are_bytes.ensures
