-- each exit has the fault of the definition, and what is read is the copy of the definition, fit for the story
use Rattle.std.proofs.Common.{◌∙◌, sym, subst, inl, IsOk, refl}
use Rattle.std.proofs.lemmas.Result.{err_from_is_err_and}
use Rattle.quetzal.specs.declared.faults.SaveFault.TheVariants as fault
use Rattle.quetzal.specs.Views.{parts_of}
use Rattle.quetzal.proofs.SaveReading.{copy_fits, heap_refused, meet_by, memory_refused, not_allowed, parts_refused}
use Rattle.quetzal.proofs.SaveReading.{save_by, save_taken, save_there, save_wanted, size_parts, size_refused}
use Rattle.quetzal.proofs.SaveReading.{stack_refused}
use Rattle.quetzal.proofs.reading.read_save.Goals as goal

pub returns-in_err-parts-clause-value : goal.returns-in_err-parts-clause-value
returns-in_err-parts-clause-value c =
    let p = err_from_is_err_and c.from_residual.result c.from_residual.ensures.1 in
    rw (p.1, p.2) (
      λ _. parts_refused c.args.bytes.now c.args.story.now c.in_err-parts.field-0.0
          c.in_err-parts.ensures.value,
      λ same. absurd (c.in_err-parts.ensures.memory same),
    )

pub returns-in_err-allowed-clause-value : goal.returns-in_err-allowed-clause-value
returns-in_err-allowed-clause-value c =
    let p = err_from_is_err_and c.from_residual-in_err-allowed.result c.from_residual-in_err-allowed.ensures.1 in
    let not = not_allowed c.is_memory_size.result fault.Size c.in_err-allowed.field-0.0
    c.in_err-allowed.ensures.value in
    rw (p.1, p.2, not.1) (
      λ _. size_refused c.args.bytes.now c.args.story.now (parts_of c.in_ok-parts.parts) c.size-size.result
          c.in_ok-parts.ensures.value c.size-size.ensures (sym c.is_memory_size.ensures ∙ not.0),
      λ same. absurd cc,
    )

pub returns-in_err-check-clause-value : goal.returns-in_err-check-clause-value
returns-in_err-check-clause-value c =
    let p = err_from_is_err_and c.from_residual-in_err-check.result c.from_residual-in_err-check.ensures.1 in
    let fits = sym c.is_memory_size.ensures ∙ c.in_ok-allowed.ensures.passes in
    rw (p.1, p.2) (
      λ _. memory_refused c.args.bytes.now c.args.story.now (parts_of c.in_ok-parts.parts) c.size-size.result
          c.in_err-check.field-0.0 c.in_ok-parts.ensures.value c.size-size.ensures fits c.in_err-check.ensures.fault,
      λ same. absurd (c.in_err-check.ensures.memory same),
    )

pub returns-in_err-allowed-2-clause-value : goal.returns-in_err-allowed-2-clause-value
returns-in_err-allowed-2-clause-value c =
    let p = err_from_is_err_and c.from_residual-in_err-allowed-2.result c.from_residual-in_err-allowed-2.ensures.1 in
    let not = not_allowed c.is_stack.result fault.Stack c.in_err-allowed-2.field-0.0 c.in_err-allowed-2.ensures.value in
    let fits = sym c.is_memory_size.ensures ∙ c.in_ok-allowed.ensures.passes in
    let all = save_by c.args.bytes.now c.args.story.now
    (parts_of c.in_ok-parts.parts) c.size-size.result c.in_ok-parts.ensures.value c.size-size.ensures fits in
    rw (p.1, p.2, not.1) (
      λ _. all ∙ stack_refused _ _ _ _ c.in_ok-check.ensures.ok (sym c.is_stack.ensures ∙ not.0),
      λ same. absurd cc,
    )

pub returns-in_err-heap-clause-value : goal.returns-in_err-heap-clause-value
returns-in_err-heap-clause-value c =
    let p = err_from_is_err_and c.from_residual-in_err-heap.result c.from_residual-in_err-heap.ensures.1 in
    let fits = sym c.is_memory_size.ensures ∙ c.in_ok-allowed.ensures.passes in
    let stack = sym c.is_stack.ensures ∙ c.in_ok-allowed-2.ensures.passes in
    let all = save_by c.args.bytes.now c.args.story.now
    (parts_of c.in_ok-parts.parts) c.size-size.result c.in_ok-parts.ensures.value c.size-size.ensures fits in
    rw (p.1, p.2, all) (
      λ some. heap_refused _ _ _ _ _ c.in_ok-check.ensures.ok stack (c.in_err-heap.ensures.value.0 some),
      λ none. save_wanted _ _ _ _ _ _ c.in_ok-check.ensures.ok stack
          (λ meet. meet_by c.args.bytes.now c.args.story.now (parts_of c.in_ok-parts.parts) c.size-size.result
          c.in_ok-parts.ensures.value c.size-size.ensures meet) (c.in_err-heap.ensures.value.1 none),
    )

pub returns-in_err-memory-clause-value : goal.returns-in_err-memory-clause-value
returns-in_err-memory-clause-value c =
    let p = err_from_is_err_and c.from_residual-in_err-memory.result c.from_residual-in_err-memory.ensures.1 in
    let fits = sym c.is_memory_size.ensures ∙ c.in_ok-allowed.ensures.passes in
    let stack = sym c.is_stack.ensures ∙ c.in_ok-allowed-2.ensures.passes in
    let heap = subst IsOk (sym c.in_ok-heap.ensures.value) refl in
    let all = save_by c.args.bytes.now c.args.story.now
    (parts_of c.in_ok-parts.parts) c.size-size.result c.in_ok-parts.ensures.value c.size-size.ensures fits in
    rw (p.1, p.2) (
      λ some. memory_refused c.args.bytes.now c.args.story.now (parts_of c.in_ok-parts.parts) c.size-size.result
          c.in_err-memory.field-0.0 c.in_ok-parts.ensures.value c.size-size.ensures fits
          (c.in_err-memory.ensures.value.0 some),
      λ none. inl (subst IsOk (sym all) (save_there _ _ _ _ c.in_ok-check.ensures.ok stack heap)),
    )

pub returns-in_err-stack-clause-value : goal.returns-in_err-stack-clause-value
returns-in_err-stack-clause-value c =
    let p = err_from_is_err_and c.from_residual-in_err-stack.result c.from_residual-in_err-stack.ensures.1 in
    let fits = sym c.is_memory_size.ensures ∙ c.in_ok-allowed.ensures.passes in
    let stack = sym c.is_stack.ensures ∙ c.in_ok-allowed-2.ensures.passes in
    let heap = subst IsOk (sym c.in_ok-heap.ensures.value) refl in
    let all = save_by c.args.bytes.now c.args.story.now
    (parts_of c.in_ok-parts.parts) c.size-size.result c.in_ok-parts.ensures.value c.size-size.ensures fits in
    rw (p.1, p.2) (
      λ some. absurd (some refl),
      λ none. inl (subst IsOk (sym all) (save_there _ _ _ _ c.in_ok-check.ensures.ok stack heap)),
    )

pub returns-clause-value : goal.returns-clause-value
returns-clause-value c =
    let fits = sym c.is_memory_size.ensures ∙ c.in_ok-allowed.ensures.passes in
    let stack = sym c.is_stack.ensures ∙ c.in_ok-allowed-2.ensures.passes in
    rw c.in_ok-stack.ensures.value (save_taken c.args.bytes.now c.args.story.now
    (parts_of c.in_ok-parts.parts) c.size-size.result c.in_ok-memory.memory _ c.in_ok-parts.ensures.value
    c.size-size.ensures fits c.in_ok-memory.ensures.value stack c.in_ok-heap.ensures.value)

pub returns-clause-sound : goal.returns-clause-sound
returns-clause-sound c =
    let fits = sym c.is_memory_size.ensures ∙ c.in_ok-allowed.ensures.passes in
    let stack = sym c.is_stack.ensures ∙ c.in_ok-allowed-2.ensures.passes in
    let capped = (size_parts c.args.story.now c.size-size.result fits).capped in
    rw c.in_ok-stack.ensures.value (copy_fits c.args.story.now c.size-size.result _
    (c.in_ok-memory.ensures.len ∙ sym c.size-size.ensures) c.in_ok-memory.ensures.rom fits stack
    (c.in_ok-heap.ensures.within capped))
