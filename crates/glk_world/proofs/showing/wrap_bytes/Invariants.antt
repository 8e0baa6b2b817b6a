use Rattle.std.proofs.Common.{◌≡◌, ◌++◌, drop}
use Rattle.std.specs.String.{string_bytes}
use Rattle.std.specs.Str.{encode_utf8_all}
use Rattle.glk_screen.specs.Wrapper.{wrapped_chars}
use Rattle.glk_world.proofs.showing.wrap_bytes.Given as goal

abbrev pub invariant-loop-byte : goal.invariant-loop-byte
invariant-loop-byte l = record {
  row : (wrapped_chars l.row (drop l.byte-index l.bytes)).1 ≡ (wrapped_chars l.fn.row l.bytes).1;
  text : string_bytes l.text ++ encode_utf8_all (wrapped_chars l.row (drop l.byte-index l.bytes)).0
      ≡ string_bytes l.fn.text ++ encode_utf8_all (wrapped_chars l.fn.row l.bytes).0;
}
