use Rattle.std.proofs.Common.{◌≡◌, ◌++◌, drop, map}
use Rattle.std.specs.String.{string_bytes}
use Rattle.std.specs.Str.{encode_utf8_all}
use Rattle.glk_text.specs.Characters.{shown}
use Rattle.glk_world.proofs.showing.push_shown.Given as goal

abbrev pub invariant-loop-c : goal.invariant-loop-c
invariant-loop-c l =
    string_bytes l.text ++ encode_utf8_all (map shown (drop l.c-index l.chars)) ≡ string_bytes l.fn.text
    ++ encode_utf8_all (map shown l.chars)
