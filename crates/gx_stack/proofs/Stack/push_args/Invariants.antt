use Rattle.std.proofs.Common.{◌≡◌, ◌≤◌, ◌+◌, ◌-◌, ◌*◌, ◌++◌, length, drop, vec_len, vec_capacity}
use Rattle.gx_stack.proofs.Turns.{topmost_first}
use Rattle.gx_stack.proofs.Stack.push_args.Given as goal

-- the last arguments are pushed, the last of all deepest
abbrev pub invariant-loop-i : goal.invariant-loop-i
invariant-loop-i l = record {
  pushed : l.self-inside.bytes.items ≡ l.initial.self-inside.bytes.items ++ topmost_first
      (drop (length l.args - l.i) l.args);
  len : vec_len l.self-inside.bytes ≡ vec_len l.initial.self-inside.bytes + 4 * l.i;
  room : vec_capacity l.initial.self-inside.bytes ≤ vec_capacity l.self-inside.bytes;
  limit : l.self-inside.limit ≡ l.initial.self-inside.limit;
}
