use Rattle.std.proofs.Common.{arith}
use Rattle.glk_text_calls.proofs.Rests.{bytes_pass}
use Rattle.glk_text_calls.proofs.saves.each_fits.Goals as goal

pub returns : goal.returns
returns c = bytes_pass c.args._bytes.now (λ k less. omega (arith, c.type_inv._bytes k))
