use Rattle.std.proofs.Common.{◌≡◌, drop, true}
use Rattle.glk_objects.specs.Objects.{object_place}
use Rattle.glk_streams.specs.Streams as streams
use Rattle.glk_world.specs.World.{after}
use Rattle.glk_world.specs.Putting.{put_chars, is_plain_text, window_of_stream}
use Rattle.glk_world.proofs.world.World.puts_found.Given as goal

abbrev pub invariant-loop-c : goal.invariant-loop-c
invariant-loop-c l = record {
  same : after l.self (put_chars l.self.scene l.stream (drop l.c-index l.chars))
      ≡ after l.fn.self (put_chars l.fn.self.scene l.stream l.chars);
  text : is_plain_text l.self.scene l.stream ≡ true;
  at : l.at ≡ object_place streams.id_of l.self.scene.streams l.stream;
  window : l.win ≡ window_of_stream l.self.scene l.stream;
}
