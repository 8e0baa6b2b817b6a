use Rattle.std.proofs.Common.{◌≡◌, ◌≤◌, ◌+◌, ◌*◌, ◌++◌, drop, vec_len, vec_capacity}
use Rattle.std.specs.List.{flat_map}
use Rattle.gx_stack.specs.Stubs.{stub_bytes}
use Rattle.gx_stack.proofs.Stack.push_stubs.Given as goal

-- what is pushed and what is left are all stubs
abbrev pub invariant-loop-stub : goal.invariant-loop-stub
invariant-loop-stub l = record {
  pushed : l.self-inside.bytes.items ++ flat_map stub_bytes (drop l.stub-index l.stubs)
      ≡ l.initial.self-inside.bytes.items ++ flat_map stub_bytes l.stubs;
  len : vec_len l.self-inside.bytes ≡ vec_len l.initial.self-inside.bytes + 16 * l.stub-index;
  room : vec_capacity l.initial.self-inside.bytes ≤ vec_capacity l.self-inside.bytes;
  limit : l.self-inside.limit ≡ l.initial.self-inside.limit;
}
