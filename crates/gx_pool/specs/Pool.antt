-- What contracts see of a pool.
use Rattle.std.specs.Prelude.{ℕ}
use Rattle.gx_pool.specs.declared.Pool.{Pool}

-- how many of its blocks may be out at a time
abbrev pub most_out : {B : Type 0} → Pool B → ℕ
most_out pool = pool.tally.most
