use Rattle.std.proofs.Common.{◌≡◌, drop}
use Rattle.glk_world.specs.World.{after, said_each}
use Rattle.glk_world.specs.Shown.{said_row}
use Rattle.glk_world.proofs.world.World.say_rows.Given as goal

abbrev pub invariant-loop-row : goal.invariant-loop-row
invariant-loop-row l =
    after l.self (said_each said_row l.self.scene (drop l.row-index l.rows))
    ≡ after l.fn.self (said_each said_row l.fn.self.scene l.rows)
