use Rattle.std.proofs.Common.{◌≡◌, ◌++◌, drop, map}
use Rattle.std.specs.String.{string_bytes}
use Rattle.std.specs.Str.{encode_utf8_all}
use Rattle.glk_text.specs.Utf8.{as_scalar}
use Rattle.glk_screen.proofs.drawing.push_line.Given as goal

abbrev pub invariant-loop-c : goal.invariant-loop-c
invariant-loop-c l =
    string_bytes l.text ++ encode_utf8_all (map as_scalar (drop l.c-index l.shown)) ≡ string_bytes l.fn.text
    ++ encode_utf8_all (map as_scalar l.shown)
