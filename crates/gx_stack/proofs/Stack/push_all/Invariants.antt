use Rattle.std.proofs.Common.{◌≡◌, ◌≤◌, ◌+◌, ◌*◌, ◌++◌, drop, vec_len, vec_capacity}
use Rattle.std.specs.List.{flat_map}
use Rattle.gx_words.specs.Numbers.{bytes_of_word}
use Rattle.gx_stack.proofs.Stack.push_all.Given as goal

-- what is pushed and what is left are all.values
abbrev pub invariant-loop-value : goal.invariant-loop-value
invariant-loop-value l = record {
  pushed : l.self-inside.bytes.items ++ flat_map bytes_of_word (drop l.value-index l.values)
      ≡ l.initial.self-inside.bytes.items ++ flat_map bytes_of_word l.values;
  len : vec_len l.self-inside.bytes ≡ vec_len l.initial.self-inside.bytes + 4 * l.value-index;
  room : vec_capacity l.initial.self-inside.bytes ≤ vec_capacity l.self-inside.bytes;
  limit : l.self-inside.limit ≡ l.initial.self-inside.limit;
}
