-- What is given was looked at.
use Rattle.glk_replies.proofs.Ram.{given_fits}
use Rattle.glk_replies.proofs.giving.give.Goals as goal

pub returns-clause-fits : goal.returns-clause-fits
returns-clause-fits g c = given_fits _ _ _ _ _ _ _ _ c.in_ok-can_give.ensures c.pushes.ensures.value
    c.in_ok-fitting.ensures c.reply-reply.ensures c.in_ok-add_given.ensures.ok
