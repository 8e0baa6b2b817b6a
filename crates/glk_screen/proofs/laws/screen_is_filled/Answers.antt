use Rattle.glk_screen.proofs.Sizes.{screen_is_filled}
use Rattle.glk_screen.proofs.laws.screen_is_filled.Goals as goal

pub returns : goal.returns
returns c = screen_is_filled
