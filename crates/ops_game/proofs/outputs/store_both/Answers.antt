-- once both faults were looked for, only the write to memory may be refused
use Rattle.std.proofs.Common.{is_ok, ap, subst, arith, ◌<◌}
use Rattle.gx_state.specs.Flat.{FlatState, HeldState, sp_of}
use Rattle.gx_operands.specs.Plans.{instruction_of}
use Rattle.ops_game.proofs.Pairs.{both_made, both_failed, first_in_ram, second_in_ram, wants_both, none_beside}
use Rattle.ops_game.proofs.Pairs.{never_refused, first_sure, first_live, second_sure, is_one}
use Rattle.ops_game.proofs.outputs.store_both.Goals as goal

pub returns-in_err-can_store_both : goal.returns-in_err-can_store_both
returns-in_err-can_store_both g c =
    let fails = both_failed c.args.state.now.flat (instruction_of c.args.plan.now) _ c.can_store_both.ensures.sound
    c.requires c.in_err-can_store_both.ensures.value.0 in
    grind (arith, fails)

pub write_words-requires-clause-first : goal.write_words-requires-clause-first
write_words-requires-clause-first g c =
    rw c.memory_word.ensures (first_in_ram c.args.state.now.flat
    (instruction_of c.args.plan.now) c.iosys-system.result.0 c.in_ok-can_store_both.ensures.value)

pub write_words-requires-clause-second : goal.write_words-requires-clause-second
write_words-requires-clause-second g c =
    rw c.memory_word-2.ensures (second_in_ram c.args.state.now.flat
    (instruction_of c.args.plan.now) c.iosys-system.result.1 c.in_ok-can_store_both.ensures.value)

pub returns-in_err-write_words : goal.returns-in_err-write_words
returns-in_err-write_words g c =
    let wants = wants_both c.args.plan.now.dest c.args.plan.now.second _ _ _ _ c.memory_word.ensures
    c.memory_word-2.ensures c.in_err-write_words.ensures.memory in
    let fine = ap is_ok (both_made c.args.state.now.flat (instruction_of c.args.plan.now)
    c.can_store_both.ensures.sound c.requires c.in_ok-can_store_both.ensures.value) in
    grind (arith, wants, fine)

pub returns-in_err-settle : goal.returns-in_err-settle
returns-in_err-settle g c =
    let made = first_sure c.args.state.now.flat _ (instruction_of c.args.plan.now) _ _ _ _
    c.in_ok-can_store_both.ensures.value c.iosys-system.ensures c.memory_word.ensures c.memory_word-2.ensures
    (ap (λ (s : HeldState). s.flat) c.in_ok-write_words.ensures.ok) c.beside_memory.ensures in
    absurd (never_refused _ _ _ _ _ _ c.in_err-settle.ensures (none_beside _ _ c.beside_memory.ensures) made)

pub store-requires-clause-live : goal.store-requires-clause-live
store-requires-clause-live g c =
    let made = first_sure c.args.state.now.flat _ (instruction_of c.args.plan.now) _ _ _ _
    c.in_ok-can_store_both.ensures.value c.iosys-system.ensures c.memory_word.ensures c.memory_word-2.ensures
    (ap (λ (s : HeldState). s.flat) c.in_ok-write_words.ensures.ok) c.beside_memory.ensures in
    subst (λ (f : FlatState). 0 < sp_of f) (is_one _ _ _ made c.in_ok-settle.ensures.0)
    (first_live c.args.state.now.flat (instruction_of c.args.plan.now) c.can_store_both.ensures.sound c.requires
    c.in_ok-can_store_both.ensures.value)

pub returns-in_err-store : goal.returns-in_err-store
returns-in_err-store g c =
    let made = first_sure c.args.state.now.flat _ (instruction_of c.args.plan.now) _ _ _ _
    c.in_ok-can_store_both.ensures.value c.iosys-system.ensures c.memory_word.ensures c.memory_word-2.ensures
    (ap (λ (s : HeldState). s.flat) c.in_ok-write_words.ensures.ok) c.beside_memory.ensures in
    let both = second_sure c.args.state.now.flat _ (instruction_of c.args.plan.now) _ _ c.can_store_both.ensures.sound
    c.requires c.in_ok-can_store_both.ensures.value c.iosys-system.ensures
    (is_one _ _ _ c.in_ok-settle.ensures.0 made) c.beside_memory-2.ensures in
    absurd (never_refused _ _ _ _ _ _ c.in_err-store.ensures (none_beside _ _ c.beside_memory-2.ensures) both)

pub returns : goal.returns
returns g c =
    let made = first_sure c.args.state.now.flat _ (instruction_of c.args.plan.now) _ _ _ _
    c.in_ok-can_store_both.ensures.value c.iosys-system.ensures c.memory_word.ensures c.memory_word-2.ensures
    (ap (λ (s : HeldState). s.flat) c.in_ok-write_words.ensures.ok) c.beside_memory.ensures in
    let both = second_sure c.args.state.now.flat _ (instruction_of c.args.plan.now) _ _ c.can_store_both.ensures.sound
    c.requires c.in_ok-can_store_both.ensures.value c.iosys-system.ensures
    (is_one _ _ _ c.in_ok-settle.ensures.0 made) c.beside_memory-2.ensures in
    let whole = both_made c.args.state.now.flat (instruction_of c.args.plan.now) c.can_store_both.ensures.sound
    c.requires c.in_ok-can_store_both.ensures.value in
    let spare = ap (λ (s : HeldState). s.spare) c.in_ok-write_words.ensures.ok in
    let story = ap (λ (s : HeldState). s.flat.story) c.in_ok-write_words.ensures.ok in (
      cc (whole, both, c.in_ok-store.ensures.0),
      cc (spare, c.in_ok-settle.ensures.1, c.in_ok-store.ensures.1),
      cc (story, c.in_ok-settle.ensures.2, c.in_ok-store.ensures.2),
    )
