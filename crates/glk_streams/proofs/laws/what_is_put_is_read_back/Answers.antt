use Rattle.glk_streams.proofs.ReadingBack.{reads_back}
use Rattle.glk_streams.proofs.laws.what_is_put_is_read_back.Goals as goal

pub returns : goal.returns
returns c = reads_back
