-- Lists that wait for what goes.
use Rattle.std.specs.Prelude.{ℕ, ◌+◌, ◌<◌, List, [], ◌∷◌, vec_capacity}
use Rattle.std.specs.declared.vec.Vec.{Vec}

-- each list has room for one number more than there are lists before it
abbrev pub HaveRoom : {X Z : Type 0} → ℕ → List (Vec X Z) → Type 0
HaveRoom before [] = Unit {0}
HaveRoom before (list ∷ more) = (before < vec_capacity list) × HaveRoom (before + 1) more
