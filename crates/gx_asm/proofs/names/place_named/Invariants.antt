use Rattle.std.proofs.Common.{◌≡◌, ℕ, ◌<◌, [], false, get_or}
use Rattle.std.specs.Str.{bytes_eq}
use Rattle.gx_asm.specs.Names.{names}
use Rattle.gx_asm.proofs.names.place_named.Given as goal

abbrev pub invariant-loop-place : goal.invariant-loop-place
invariant-loop-place l = (k : ℕ) → k < l.place → bytes_eq (get_or names k []) l.name ≡ false
