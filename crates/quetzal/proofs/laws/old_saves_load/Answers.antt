use Rattle.quetzal.proofs.OldSaves.{old_saves_load}
use Rattle.quetzal.proofs.laws.old_saves_load.Goals as goal

pub returns : goal.returns
returns c = old_saves_load
