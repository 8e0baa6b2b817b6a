use Rattle.std.proofs.Common.{◌∙◌, sym, arith}
use Rattle.gx_asm.proofs.StoryFormats.{pair_ends, pair_missing, pair_passed, pair_wrong, pairs_begun, pairs_done}
use Rattle.gx_asm.proofs.stories.format_len.Goals as goal

pub loop-pairs-init : goal.loop-pairs-init
loop-pairs-init c = pairs_begun c.args.bytes.now

pub returns-then-bytes-end-clause-value : goal.returns-then-bytes-end-clause-value
returns-then-bytes-end-clause-value c = pair_missing c.args.bytes.now c.loop-pairs.pairs
    (omega arith) c.loop-pairs.invariant (omega arith)

pub returns-then-kind-eq0-clause-value : goal.returns-then-kind-eq0-clause-value
returns-then-kind-eq0-clause-value c = pair_ends c.args.bytes.now c.loop-pairs.pairs
    (omega arith) c.loop-pairs.invariant (omega arith) c.if-kind-eq0.true

pub returns-then-not-is_type-clause-value : goal.returns-then-not-is_type-clause-value
returns-then-not-is_type-clause-value c =
    pair_wrong c.args.bytes.now c.loop-pairs.pairs (omega arith) c.loop-pairs.invariant
    (omega arith) c.if-kind-eq0.false (sym c.is_type.ensures ∙ c.if-not-is_type.true)

pub loop-pairs-preserved : goal.loop-pairs-preserved
loop-pairs-preserved c = pair_passed c.args.bytes.now c.loop-pairs.pairs (omega arith) c.loop-pairs.invariant
    (omega arith) c.if-kind-eq0.false (sym c.is_type.ensures ∙ c.if-not-is_type.false)

pub returns-clause-value : goal.returns-clause-value
returns-clause-value c = pairs_done c.args.bytes.now c.loop-pairs.pairs (omega arith) c.loop-pairs.invariant
