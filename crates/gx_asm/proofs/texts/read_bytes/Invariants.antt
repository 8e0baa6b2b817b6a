use Rattle.std.proofs.Common.{◌≡◌, ◌*◌, ◌+◌, ◌++◌, Ok, length}
use Rattle.gx_words.specs.Results.{◌>>=◌}
use Rattle.gx_asm.specs.Texts.{bytes_spelled}
use Rattle.gx_asm.proofs.texts.read_bytes.Given as goal

abbrev pub invariant-loop-high : goal.invariant-loop-high
invariant-loop-high l = record {
  said : (bytes_spelled l.rest >>= λ more. Ok (l.bytes.items ++ more)) ≡ bytes_spelled l.digits;
  few : 2 * length l.bytes.items + length l.rest ≡ length l.digits;
}

abbrev pub decreases-loop-high : goal.decreases-loop-high
decreases-loop-high l = length l.rest
