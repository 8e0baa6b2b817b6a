use Rattle.std.proofs.Common.{◌≡◌, drop}
use Rattle.glk_world.specs.World.{after}
use Rattle.glk_world.specs.Putting.{put_chars}
use Rattle.glk_world.proofs.world.World.puts.Given as goal

abbrev pub invariant-loop-c : goal.invariant-loop-c
invariant-loop-c l =
    after l.self (put_chars l.self.scene l.stream (drop l.c-index l.chars))
    ≡ after l.fn.self (put_chars l.fn.self.scene l.stream l.chars)
