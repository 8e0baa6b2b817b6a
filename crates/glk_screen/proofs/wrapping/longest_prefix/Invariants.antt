use Rattle.std.proofs.Common.{◌≡◌, ◌+◌, drop, take}
use Rattle.glk_screen.specs.Wrapping.{paragraph, fitting, last_blank}
use Rattle.glk_screen.proofs.wrapping.longest_prefix.Given as goal

abbrev pub invariant-loop-c : goal.invariant-loop-c
invariant-loop-c l = record {
  at : l.at ≡ l.c-index;
  prefix : fitting l.width l.width (paragraph l.text)
      ≡ l.at + fitting l.width l.room (paragraph (drop l.c-index l.text));
  blank : l.blank ≡ last_blank (take l.c-index l.text);
}
