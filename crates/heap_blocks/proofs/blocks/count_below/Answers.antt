use Rattle.std.proofs.Common.{ltb as nat_lt, ltb-true, ltb-false, arith, rules}
use Rattle.std.proofs.lemmas.List.Sorted.{IsPartitionPoint-from_clause, IsPartitionedBy-ltb}
use Rattle.heap_blocks.proofs.Changing.{IsRising-IsNonDecreasingBy}
use Rattle.heap_blocks.proofs.blocks.count_below.Goals as goal

pub returns : goal.returns
returns c =
    let parted = IsPartitionedBy-ltb (λ b. b.0) _ c.args.at (IsRising-IsNonDecreasingBy _ 0 c.requires) in
    let point = IsPartitionPoint-from_clause (λ b. nat_lt b.0 c.args.at) _ _ c.partition_point.ensures.partitioned
    parted (λ a r q k. search rules) in
    record {
      bound = c.partition_point.ensures.bound;
      below = λ k h. ltb-true _ _ (point.0 k (0, 0) (omega arith) h);
      above = λ h. ltb-false _ _ (point.1 c.partition_point.result (0, 0) (omega arith) h);
    }
