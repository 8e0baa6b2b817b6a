use Rattle.gx_session.proofs.running.answer_puts.Goals as goal

pub returns-in-Running-clause-plays : goal.returns-in-Running-clause-plays
returns-in-Running-clause-plays g c coming start entry d word drawn live backs r =
    c.answer_put.ensures.plays coming start entry d r

pub returns-then-most-eq0-clause-plays : goal.returns-then-most-eq0-clause-plays
returns-then-most-eq0-clause-plays g c coming start entry d word drawn live backs r =
    c.answer_put-then-most-eq0.ensures.plays coming start entry d r
