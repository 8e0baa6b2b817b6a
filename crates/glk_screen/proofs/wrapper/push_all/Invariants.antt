use Rattle.std.proofs.Common.{◌≡◌, ◌++◌, drop}
use Rattle.std.specs.String.{string_bytes}
use Rattle.std.specs.Str.{encode_utf8_all}
use Rattle.glk_screen.proofs.wrapper.push_all.Given as goal

abbrev pub invariant-loop-c : goal.invariant-loop-c
invariant-loop-c l = string_bytes l.text ++ encode_utf8_all (drop l.c-index l.chars) ≡ string_bytes l.fn.text
    ++ encode_utf8_all l.chars
