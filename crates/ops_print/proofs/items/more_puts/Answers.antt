use Rattle.std.proofs.Common.{refl, ap, ◌∙◌, sym}
use Rattle.ops_print.proofs.Runs.{run_none, run_ends, run_on}
use Rattle.ops_print.proofs.items.more_puts.Goals as goal

-- another I/O system
pub returns-then-system-ne-GLK_SYSTEM : goal.returns-then-system-ne-GLK_SYSTEM
returns-then-system-ne-GLK_SYSTEM g c = run_none _ _ _ _ refl
    (λ same. c.if-system-ne-GLK_SYSTEM.true (ap (λ s. s.0) c.iosys-system.ensures ∙ same))

-- no character is there
pub returns-in_default : goal.returns-in_default
returns-in_default g c =
    run_ends _ c.memory-memory.result.now _ _ _ c.table-table.result _ _ c.loop-taken.invariant c.loop-taken-test.true
    c.memory-memory.ensures.value c.table-table.ensures c.in_default.ensures

-- one more
pub loop-taken-preserved : goal.loop-taken-preserved
loop-taken-preserved g c =
    run_on _ c.memory-memory.result.now _ _ _ c.table-table.result _ _ _ _ c.loop-taken.invariant
    (sym (ap (λ s. s.0) c.iosys-system.ensures) ∙ c.if-system-ne-GLK_SYSTEM.false) c.memory-memory.ensures.value
    c.table-table.ensures c.in-Some.ensures c.push.ensures.items
