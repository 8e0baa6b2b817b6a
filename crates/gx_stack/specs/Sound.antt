-- What holds of every stack.
use Rattle.std.specs.Prelude.{◌≡◌, ◌%◌, ◌≤◌, length, vec_capacity}
use Rattle.gx_words.specs.Constants.{stack_limit}
use Rattle.gx_stack.specs.Flat.{FlatStack}
use Rattle.gx_stack.specs.declared.Stack.TheInside.{Inside}

abbrev pub flat_of : Inside → FlatStack
flat_of s = record { bytes = s.bytes.items; limit = s.limit }

-- all that the limit allows has its room already, so nothing that is pushed wants memory
pub record IsSound (s : Inside) : Type 0 where
  pub size : length s.bytes.items ≤ s.limit
  pub aligned : length s.bytes.items % 4 ≡ 0
  pub limit : s.limit ≤ stack_limit
  pub room : s.limit ≤ vec_capacity s.bytes
