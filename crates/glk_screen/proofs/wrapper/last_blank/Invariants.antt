use Rattle.std.proofs.Common.{◌≡◌, take}
use Rattle.glk_screen.specs.Wrapping.{last_blank}
use Rattle.glk_screen.proofs.wrapper.last_blank.Given as goal

abbrev pub invariant-loop-c : goal.invariant-loop-c
invariant-loop-c l = record {
  at : l.at ≡ l.c-index;
  blank : l.blank ≡ last_blank (take l.c-index l.chars);
}
