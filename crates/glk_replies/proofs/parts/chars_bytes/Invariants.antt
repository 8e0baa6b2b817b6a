use Rattle.std.proofs.Common.{◌≡◌, ◌++◌, drop}
use Rattle.glk_replies.specs.Parts.{chars_bytes}
use Rattle.glk_replies.proofs.parts.chars_bytes.Given as goal

abbrev pub invariant-loop-c : goal.invariant-loop-c
invariant-loop-c l = l.bytes ++ chars_bytes l.width (drop l.c-index l.chars) ≡ chars_bytes l.width l.chars
