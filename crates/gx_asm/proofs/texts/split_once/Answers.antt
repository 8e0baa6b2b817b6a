use Rattle.gx_asm.proofs.ReadingTurns.{first_part, one_part, at_most}
use Rattle.gx_asm.proofs.texts.split_once.Goals as goal

pub split_at-requires : goal.split_at-requires
split_at-requires c = at_most c.args.mark c.position_or_len.result c.args.bytes.now c.position_or_len.ensures

pub returns-in-Some-clause-found : goal.returns-in-Some-clause-found
returns-in-Some-clause-found c =
    first_part c.args.mark c.position_or_len.result c.args.bytes.now _ _ _ _ c.position_or_len.ensures
    c.split_at.ensures.front c.split_at.ensures.back c.in-Some.ensures.cases.0

pub returns-in-None-clause-missing : goal.returns-in-None-clause-missing
returns-in-None-clause-missing c = one_part c.args.mark c.position_or_len.result c.args.bytes.now _
    c.position_or_len.ensures c.split_at.ensures.back c.in-None.ensures.cases
