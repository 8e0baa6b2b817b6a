use Rattle.std.proofs.Common.{◌≡◌, ◌++◌, drop}
use Rattle.std.specs.String.{string_bytes}
use Rattle.std.specs.Str.{encode_utf8_all}
use Rattle.glk_screen.specs.Wrapper.{wrapped_chars}
use Rattle.glk_world.proofs.Texts.{with_line}
use Rattle.glk_world.proofs.showing.wrap_line.Given as goal

abbrev pub invariant-loop-c : goal.invariant-loop-c
invariant-loop-c l = record {
  row : (wrapped_chars l.row (with_line (drop l.c-index l.chars))).1 ≡ (wrapped_chars l.fn.row (with_line l.chars)).1;
  text : string_bytes l.text ++ encode_utf8_all (wrapped_chars l.row (with_line (drop l.c-index l.chars))).0
      ≡ string_bytes l.fn.text ++ encode_utf8_all (wrapped_chars l.fn.row (with_line l.chars)).0;
}
