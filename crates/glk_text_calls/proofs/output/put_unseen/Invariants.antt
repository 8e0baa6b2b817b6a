use Rattle.std.proofs.Common.{◌≡◌, not, IsTrue}
use Rattle.glk_world.specs.World.{after}
use Rattle.glk_world.specs.Putting.{put_chars, takes_chars}
use Rattle.glk_replies.specs.Parts.{numbers_in}
use Rattle.glk_text_calls.proofs.output.put_unseen.Given as goal

abbrev pub invariant-loop-i : goal.invariant-loop-i
invariant-loop-i g l = record {
  made : l.world ≡ after l.fn.world (put_chars l.fn.world.scene l.stream (numbers_in l.width l.memory l.at l.i));
  unseen : IsTrue (not (takes_chars l.world.scene l.stream));
}
