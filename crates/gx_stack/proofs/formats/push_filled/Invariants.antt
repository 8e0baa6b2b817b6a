use Rattle.std.proofs.Common.{◌≡◌, ◌≤◌, ◌+◌, ◌-◌, ◌*◌, ◌++◌, drop, vec_len, vec_capacity}
use Rattle.gx_stack.specs.Formats.{pair_locals}
use Rattle.gx_stack.proofs.formats.push_filled.Given as goal

-- what is pushed and what is left are all of the locals
abbrev pub invariant-loop-i : goal.invariant-loop-i
invariant-loop-i l = record {
  pushed : l.out.items ++ pair_locals l.width (l.count - l.i) (drop l.i l.args)
      ≡ l.initial.out.items ++ pair_locals l.width l.count l.args;
  len : vec_len l.out ≡ vec_len l.initial.out + l.width * l.i;
  room : vec_capacity l.initial.out ≤ vec_capacity l.out;
}
