use Rattle.zero_runs.proofs.UnpackingTurns.{length-onto, onto-none}
use Rattle.zero_runs.proofs.unpacking.unpack_onto.Goals as goal

pub returns-then-size-eq0-clause-value : goal.returns-then-size-eq0-clause-value
returns-then-size-eq0-clause-value c = onto-none c.args.out.now c.args.packed.now c.args.old.now c.args.size
    c.in_ok-check.ensures.ok c.if-size-eq0.true

pub returns-in-Ok-clause-len : goal.returns-in-Ok-clause-len
returns-in-Ok-clause-len c = length-onto c.args.out.now c.args.packed.now c.args.old.now c.push_unpacked.new.out
    c.args.size c.in-Ok.ensures.ok
