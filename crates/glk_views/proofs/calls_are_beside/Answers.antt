use Rattle.glk_views.proofs.Calls.{calls_beside}
use Rattle.glk_views.proofs.calls_are_beside.Goals as goal

pub returns : goal.returns
returns c = calls_beside
