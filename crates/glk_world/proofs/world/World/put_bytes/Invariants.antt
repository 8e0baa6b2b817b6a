use Rattle.std.proofs.Common.{◌≡◌, drop}
use Rattle.glk_world.specs.World.{after}
use Rattle.glk_world.specs.Putting.{put_chars}
use Rattle.glk_world.proofs.world.World.put_bytes.Given as goal

abbrev pub invariant-loop-byte : goal.invariant-loop-byte
invariant-loop-byte l =
    after l.self (put_chars l.self.scene l.stream (drop l.byte-index l.bytes))
    ≡ after l.fn.self (put_chars l.fn.self.scene l.stream l.bytes)
