use Rattle.std.proofs.Common.{◌≡◌, ◌++◌, drop, map}
use Rattle.std.specs.String.{string_bytes}
use Rattle.std.specs.Str.{encode_utf8_all}
use Rattle.glk_text.specs.Characters.{shown}
use Rattle.glk_world.specs.Putting.{fresh_after}
use Rattle.glk_world.proofs.putting.push_text.Given as goal

abbrev pub invariant-loop-c : goal.invariant-loop-c
invariant-loop-c l = record {
  text : string_bytes l.text ++ encode_utf8_all (map shown (drop l.c-index l.chars)) ≡ string_bytes l.fn.text
      ++ encode_utf8_all (map shown l.chars);
  fresh : fresh_after l.fresh (drop l.c-index l.chars) ≡ fresh_after l.fn.fresh l.chars;
}
