-- Each look was good.
use Rattle.glk_event_calls.proofs.Lines.{all_looked}
use Rattle.glk_event_calls.proofs.events.looked_at_line.Goals as goal

pub returns-clause-value : goal.returns-clause-value
returns-clause-value g c = all_looked _ _ _ _ _ _ _ _ _ c.line_places-places.ensures.value
    c.in_ok-can_lay.ensures.value c.in_ok-can_give.ensures c.pushes.ensures.value c.in_ok-fitting.ensures
    c.echo_places-echo.ensures.value c.in_ok-can_lay-2.ensures.value
