-- no mode has no data
use Rattle.std.proofs.Common.{arith}
use Rattle.gx_asm.proofs.CodesLoops.{data_begun}
use Rattle.gx_asm.proofs.codes.all_data_len.Goals as goal

pub loop-i-init : goal.loop-i-init
loop-i-init c = record { counted = data_begun; fits = omega arith }
