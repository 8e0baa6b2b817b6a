use Rattle.std.proofs.Common.{arith}
use Rattle.glk_text_calls.proofs.Saving.{no_bytes}
use Rattle.glk_text_calls.proofs.saves.bytes_of.Goals as goal

pub returns-then-c-gt-LAST_BYTE : goal.returns-then-c-gt-LAST_BYTE
returns-then-c-gt-LAST_BYTE c =
    cc (no_bytes c.args.chars.now c.loop-c.c-index 0 c.loop-c-test.true (omega arith))
