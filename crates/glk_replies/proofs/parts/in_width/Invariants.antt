use Rattle.std.proofs.Common.{◌≡◌, ◌++◌, drop}
use Rattle.glk_replies.specs.Parts.{chars_bytes}
use Rattle.glk_replies.proofs.parts.in_width.Given as goal

abbrev pub invariant-loop-byte : goal.invariant-loop-byte
invariant-loop-byte l = l.all ++ chars_bytes l.width (drop l.byte-index l.bytes) ≡ chars_bytes l.width l.bytes
