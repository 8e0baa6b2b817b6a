-- the exits, and a heap that is taken lies in its memory
use Rattle.std.proofs.Common.{◌∙◌, sym}
use Rattle.std.proofs.lemmas.Result.{err_from_is_err_and}
use Rattle.quetzal.proofs.SaveReading.{heap_given, heap_wanted, heap_within, no_count, no_heap, no_start, none_within}
use Rattle.quetzal.proofs.SaveReading.{none_without, order_fault}
use Rattle.quetzal.proofs.blocks.heap_of.Goals as goal

pub returns-then-has_no_heap-clause-value : goal.returns-then-has_no_heap-clause-value
returns-then-has_no_heap-clause-value c =
    rw c.new.ensures (no_heap c.args.story.now c.args.size c.args.body.now
    (sym c.has_no_heap.ensures ∙ c.if-has_no_heap.true))

pub returns-then-has_no_heap-clause-within : goal.returns-then-has_no_heap-clause-within
returns-then-has_no_heap-clause-within c capped =
    rw c.new.ensures (none_within c.args.story.now.header.endmem c.args.size)

pub returns-then-not-has_count-clause-value : goal.returns-then-not-has_count-clause-value
returns-then-not-has_count-clause-value c = (
  (λ _. no_count c.args.story.now c.args.size c.args.body.now (sym c.has_no_heap.ensures ∙ c.if-has_no_heap.false)
      (sym c.has_count.ensures ∙ c.if-not-has_count.true)),
  (λ same. absurd cc),
)

pub returns-then-not-is_start-clause-value : goal.returns-then-not-is_start-clause-value
returns-then-not-is_start-clause-value c = (
  (λ _. no_start c.args.story.now c.args.size c.word_at-start.result c.args.body.now c.word_at-start.ensures
      (sym c.has_no_heap.ensures ∙ c.if-has_no_heap.false) (sym c.has_count.ensures ∙ c.if-not-has_count.false)
      (sym c.is_start.ensures ∙ c.if-not-is_start.true)),
  (λ same. absurd cc),
)

pub returns-then-not-are_within-clause-value : goal.returns-then-not-are_within-clause-value
returns-then-not-are_within-clause-value c = (
  (λ _. none_without c.args.story.now c.args.size c.word_at-start.result c.args.body.now c.word_at-start.ensures
      (sym c.has_no_heap.ensures ∙ c.if-has_no_heap.false) (sym c.has_count.ensures ∙ c.if-not-has_count.false)
      (sym c.is_start.ensures ∙ c.if-not-is_start.false) (sym c.are_within.ensures ∙ c.if-not-are_within.true)),
  (λ same. absurd cc),
)

pub returns-in_err-blocks-clause-value : goal.returns-in_err-blocks-clause-value
returns-in_err-blocks-clause-value c =
    let p = err_from_is_err_and c.from_residual.result c.from_residual.ensures.1 in
    let some = sym c.has_no_heap.ensures ∙ c.if-has_no_heap.false in
    let counted = sym c.has_count.ensures ∙ c.if-not-has_count.false in
    let begins = sym c.is_start.ensures ∙ c.if-not-is_start.false in
    let within = sym c.are_within.ensures ∙ c.if-not-are_within.false in
    rw (p.1, p.2) (
      λ other. order_fault c.args.story.now c.args.size c.word_at-start.result c.args.body.now c.word_at-start.ensures
          some counted begins c.in_err-blocks.field-0.0 (c.in_err-blocks.ensures.0 other),
      λ memory. heap_wanted c.args.story.now c.args.size c.word_at-start.result c.args.body.now
          c.word_at-start.ensures some counted begins within (c.in_err-blocks.ensures.1 memory),
    )

pub returns-in_err-blocks-clause-memory : goal.returns-in_err-blocks-clause-memory
returns-in_err-blocks-clause-memory c =
    let p = err_from_is_err_and c.from_residual.result c.from_residual.ensures.1 in
    rw p.1 (λ memory. sym c.has_count.ensures ∙ c.if-not-has_count.false)

pub returns-clause-value : goal.returns-clause-value
returns-clause-value c =
    heap_given c.args.story.now c.args.size c.word_at-start.result c.args.body.now c.word_at-start.ensures
    (sym c.has_no_heap.ensures ∙ c.if-has_no_heap.false) (sym c.has_count.ensures ∙ c.if-not-has_count.false)
    (sym c.is_start.ensures ∙ c.if-not-is_start.false) c.in_ok-blocks.blocks c.in_ok-blocks.ensures

pub returns-clause-within : goal.returns-clause-within
returns-clause-within c capped = heap_within c.args.story.now c.args.size c.args.body.now _ capped
    (returns-clause-value c)
