-- what save and restore ask, whatever the copies are
use Rattle.ops_game.proofs.act.Goals as goal

pub returns-in-291-by_row-clause-asks : goal.returns-in-291-by_row-clause-asks
returns-in-291-by_row-clause-asks g c = c.save.ensures.asks c.args.undo.now

pub returns-in-292-by_row-clause-asks : goal.returns-in-292-by_row-clause-asks
returns-in-292-by_row-clause-asks g c = c.restore.ensures.asks c.args.undo.now
