-- an instruction that is read is one
use Rattle.gx_asm.proofs.CodesLoops.{are_written}
use Rattle.gx_asm.proofs.codes.read_code.Goals as goal

pub returns-clause-whole : goal.returns-clause-whole
returns-clause-whole c = are_written c.args.at c.args.code.now c.read_parts.result c.are_bytes.ensures
    c.read_parts.ensures
