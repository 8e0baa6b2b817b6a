use Rattle.glk_windows.proofs.Tiling.{leaves_tile}
use Rattle.glk_windows.proofs.laws.leaves_tile.Goals as goal

pub returns : goal.returns
returns c = leaves_tile
