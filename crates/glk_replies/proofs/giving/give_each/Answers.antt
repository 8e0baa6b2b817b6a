-- What is given was looked at.
use Rattle.glk_replies.proofs.Ram.{each_fits}
use Rattle.glk_replies.proofs.giving.give_each.Goals as goal

pub returns-clause-fits : goal.returns-clause-fits
returns-clause-fits g c = each_fits _ _ _ _ _ _ _ _ c.in_ok-can_give_each.ensures c.pushes_each.ensures.value
    c.in_ok-fitting.ensures c.reply-reply.ensures c.in_ok-add_each.ensures.ok
