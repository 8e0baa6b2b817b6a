use Rattle.std.proofs.Common.{◌≡◌, drop}
use Rattle.glk_events.specs.Requests as requests
use Rattle.glk_world.specs.Calls.{without_each}
use Rattle.glk_world.proofs.objects.drop_requests.Given as goal

abbrev pub invariant-loop-win : goal.invariant-loop-win
invariant-loop-win l =
    without_each requests.removed l.asked (drop l.win-index l.gone) ≡ without_each requests.removed l.fn.asked l.gone
