use Rattle.quetzal.proofs.ReadingBack.{reads_back}
use Rattle.quetzal.proofs.laws.written_saves_are_read.Goals as goal

pub returns : goal.returns
returns c = reads_back
