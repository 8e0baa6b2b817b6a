use Rattle.zero_runs.proofs.PackingTurns.{last_turn}
use Rattle.zero_runs.proofs.packing.push_packed.Goals as goal

pub returns-clause-ok : goal.returns-clause-ok
returns-clause-ok c = last_turn _ _ _ _ _ _ c.loop-at-test.false c.loop-at.invariant.rest
