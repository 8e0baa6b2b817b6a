use Rattle.std.proofs.Common.{◌≡◌, drop}
use Rattle.glk_world.specs.World.{after, said_each}
use Rattle.glk_world.specs.Shown.{said_grid}
use Rattle.glk_world.proofs.world.World.say_grids.Given as goal

abbrev pub invariant-loop-grid : goal.invariant-loop-grid
invariant-loop-grid l =
    after l.self (said_each said_grid l.self.scene (drop l.grid-index l.grids))
    ≡ after l.fn.self (said_each said_grid l.fn.self.scene l.grids)
