use Rattle.gx_play.proofs.Works.{started-by}
use Rattle.gx_play.proofs.working.start_work.Goals as goal

pub returns-in-Ok-start-clause-value : goal.returns-in-Ok-start-clause-value
returns-in-Ok-start-clause-value g c = started-by c.args.number c.in_ok-bytes.bytes c.in-Ok.story
    c.in-Ok-start.machine c.in_ok-bytes.ensures.story
    (rw c.as_slice.ensures at c.in-Ok.ensures.value) c.in-Ok-start.ensures.value
