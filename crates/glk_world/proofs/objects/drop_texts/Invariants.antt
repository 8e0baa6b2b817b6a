use Rattle.std.proofs.Common.{◌≡◌, drop}
use Rattle.glk_screen.specs.Texts.{screen_gone}
use Rattle.glk_world.specs.Calls.{without_each}
use Rattle.glk_world.proofs.objects.drop_texts.Given as goal

abbrev pub invariant-loop-win : goal.invariant-loop-win
invariant-loop-win l = without_each screen_gone l.screen (drop l.win-index l.gone)
    ≡ without_each screen_gone l.fn.screen l.gone
