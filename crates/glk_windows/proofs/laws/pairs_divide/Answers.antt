use Rattle.glk_windows.proofs.Tiling.{pairs_divide}
use Rattle.glk_windows.proofs.laws.pairs_divide.Goals as goal

pub returns : goal.returns
returns c = pairs_divide
