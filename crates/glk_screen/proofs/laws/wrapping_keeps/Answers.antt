use Rattle.glk_screen.proofs.WrapLaws.{wrapping_keeps}
use Rattle.glk_screen.proofs.laws.wrapping_keeps.Goals as goal

pub returns : goal.returns
returns c = wrapping_keeps
