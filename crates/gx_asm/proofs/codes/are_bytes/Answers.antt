-- each byte fits its type
use Rattle.std.proofs.Common.{arith}
use Rattle.gx_asm.proofs.CodesLoops.{below_256}
use Rattle.gx_asm.proofs.codes.are_bytes.Goals as goal

pub returns : goal.returns
returns c = below_256 c.args._code.now (λ k less. omega (arith, c.type_inv._code k))
