use Rattle.iff_chunks.proofs.ReadingBack.{reads_back}
use Rattle.iff_chunks.proofs.laws.written_forms_are_read.Goals as goal

pub returns : goal.returns
returns c = reads_back
