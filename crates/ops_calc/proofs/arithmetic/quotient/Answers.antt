use Rattle.std.proofs.Common.{◌≡◌, rules, false}
use Rattle.std.specs.Prelude.{int_div}
use Rattle.std.specs.Int.{w32, cast_unsigned}
use Rattle.ops_calc.specs.Arithmetic.{has_no_quotient, signed}
use Rattle.ops_calc.proofs.Dividing.{quotient_law}
use Rattle.ops_calc.proofs.arithmetic.quotient.Goals as goal

pub returns-clause-law : goal.returns-clause-law
returns-clause-law c =
    let test : has_no_quotient c.args.a c.args.b ≡ false = search rules in
    let is : c.cast_unsigned.result ≡ cast_unsigned w32 (int_div (signed c.args.a) (signed c.args.b)) = search rules in
    quotient_law c.args.a c.args.b c.cast_unsigned.result (search rules) (search rules) test is
