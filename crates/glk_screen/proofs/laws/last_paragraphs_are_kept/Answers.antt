use Rattle.glk_screen.proofs.Holding.{keeps_last}
use Rattle.glk_screen.proofs.laws.last_paragraphs_are_kept.Goals as goal

pub returns : goal.returns
returns c = keeps_last
