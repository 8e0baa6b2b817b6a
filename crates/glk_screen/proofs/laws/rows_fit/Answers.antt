use Rattle.glk_screen.proofs.Holding.{rows_fit}
use Rattle.glk_screen.proofs.laws.rows_fit.Goals as goal

pub returns : goal.returns
returns c = rows_fit
