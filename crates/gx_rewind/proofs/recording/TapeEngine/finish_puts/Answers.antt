use Rattle.gx_rewind.proofs.Puts.{answered_alone}
use Rattle.gx_rewind.proofs.recording.TapeEngine.finish_puts.Goals as goal

pub returns-clause-value : goal.returns-clause-value
returns-clause-value g c = answered_alone c.args.self.now.whole _ c.args.self.now.log c.args._mode c.requires.alone
    c.finish_put.ensures.value
