-- what a copy that is fit for its story keeps to, and the form as its parts are added
use Rattle.std.proofs.Common.{◌≡◌, ◌∙◌, ap, refl, sym, subst, arith, length}
use Rattle.std.proofs.lemmas.List.{length-take}
use Rattle.gx_words.specs.Constants.{ceiling}
use Rattle.gx_state.specs.Copies.{Copy}
use Rattle.quetzal.specs.Memory.{memory_bytes}
use Rattle.quetzal.specs.ReadingSaves.{copy_in_save}
use Rattle.quetzal.specs.Writing.{save_bytes}
use Rattle.quetzal.proofs.ReadingBack.{Small, small, reads_back}
use Rattle.quetzal.proofs.SaveWriting.{form_written, len_fits}
use Rattle.quetzal.proofs.writing.write_save.Goals as goal

pub form_len-len-requires-clause-memory : goal.form_len-len-requires-clause-memory
form_len-len-requires-clause-memory c =
    let s = subst (Small c.args.story.now) (sym c.copy.view_is)
    (small c.args.story.now c.args.copy.now c.bytes-stored.ensures.sound c.requires) in
    let memory = c.in_ok-memory.ensures ∙ ap (memory_bytes c.args.story.now) c.as_slice.ensures in
    omega (arith, c.len.ensures, ap length memory, s.packed)

pub form_len-len-requires-clause-blocks : goal.form_len-len-requires-clause-blocks
form_len-len-requires-clause-blocks c =
    let s = subst (Small c.args.story.now) (sym c.copy.view_is)
    (small c.args.story.now c.args.copy.now c.bytes-stored.ensures.sound c.requires) in
    omega (arith, ap length c.as_slice-blocks.ensures, s.blocks)

pub overflow_add-len : goal.overflow_add-len
overflow_add-len c =
    let s = subst (Small c.args.story.now) (sym c.copy.view_is)
    (small c.args.story.now c.args.copy.now c.bytes-stored.ensures.sound c.requires) in
    let memory = c.in_ok-memory.ensures ∙ ap (memory_bytes c.args.story.now) c.as_slice.ensures in
    omega (
      arith,
      len_fits c.args.story.now _ _ _ _ c.form_len-len.result s (c.len.ensures ∙ ap length memory)
          c.len-2.ensures (ap length c.as_slice-blocks.ensures) c.form_len-len.ensures,
    )

pub overflow_cast-len : goal.overflow_cast-len
overflow_cast-len c =
    let s = subst (Small c.args.story.now) (sym c.copy.view_is)
    (small c.args.story.now c.args.copy.now c.bytes-stored.ensures.sound c.requires) in
    let memory = c.in_ok-memory.ensures ∙ ap (memory_bytes c.args.story.now) c.as_slice.ensures in
    omega (
      arith,
      len_fits c.args.story.now _ _ _ _ c.form_len-len.result s (c.len.ensures ∙ ap length memory)
          c.len-2.ensures (ap length c.as_slice-blocks.ensures) c.form_len-len.ensures,
    )

pub slice_bounds-push_chunk-end : goal.slice_bounds-push_chunk-end
slice_bounds-push_chunk-end c =
    let s = small c.args.story.now c.args.copy.now c.bytes-stored.ensures.sound c.requires in
    omega (arith, length-take 128 c.bytes-stored.result.now, ap length c.bytes-stored.ensures.value, s.header)

pub push_chunk-requires : goal.push_chunk-requires
push_chunk-requires c = omega (arith, length-take 128 c.bytes-stored.result.now)

pub push_heap-requires : goal.push_heap-requires
push_heap-requires c =
    let s = subst (Small c.args.story.now) (sym c.copy.view_is)
    (small c.args.story.now c.args.copy.now c.bytes-stored.ensures.sound c.requires) in
    omega (arith, ap length c.as_slice-blocks.ensures, s.blocks)

pub returns-clause-value : goal.returns-clause-value
returns-clause-value c =
    let s = subst (Small c.args.story.now) (sym c.copy.view_is)
    (small c.args.story.now c.args.copy.now c.bytes-stored.ensures.sound c.requires) in
    let memory = c.in_ok-memory.ensures ∙ ap (memory_bytes c.args.story.now) c.as_slice.ensures in
    subst (λ (x : Copy). c.push_heap.new.out ≡ save_bytes c.args.story.now x) c.copy.view_is
    (form_written c.args.story.now _ c.extend_from_slice-3.new.self c.push_heap.new.out s
    (rw (
      c.in_ok-extend_from_slice-3.ensures.ok,
      c.in_ok-extend_from_slice-2.ensures.ok,
      c.in_ok-extend_from_slice.ensures.ok,
      c.in_ok-save.ensures.value,
      c.word_bytes.ensures.bytes,
      c.form_len-len.ensures,
      c.len.ensures,
      c.len-2.ensures,
      memory,
      c.as_slice-blocks.ensures,
    ) refl)
    (rw (
      c.in_ok-push_heap.ensures.ok,
      c.in_ok-push_chunk-3.ensures.ok,
      c.in_ok-push_chunk-2.ensures.ok,
      c.in_ok-push_chunk.ensures.ok,
      c.as_slice-3.ensures,
      c.as_slice-2.ensures,
      memory,
      c.as_slice-blocks.ensures,
      c.bytes-stored.ensures.value,
    ) refl))

pub returns-clause-read_back : goal.returns-clause-read_back
returns-clause-read_back c = ap (λ save. copy_in_save ceiling save c.args.story.now) (returns-clause-value c)
    ∙ reads_back c.args.story.now c.args.copy.now c.bytes-stored.ensures.sound c.requires
