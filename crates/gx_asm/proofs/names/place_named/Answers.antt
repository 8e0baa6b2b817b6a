use Rattle.std.proofs.Common.{ℕ, List, sym, ap, ◌∙◌, below_more, arith}
use Rattle.std.specs.Str.{bytes_eq}
use Rattle.gx_asm.proofs.ReadingTurns.{name_here, name_nowhere}
use Rattle.gx_asm.proofs.names.place_named.Goals as goal

pub returns-then-eq-clause-place : goal.returns-then-eq-clause-place
returns-then-eq-clause-place c =
    name_here c.args.name.now c.loop-place.place (omega arith) c.loop-place.invariant
    (ap (λ (n : List ℕ). bytes_eq n c.args.name.now) (sym (c.as_bytes.ensures.value ∙ c.name_at.ensures))
    ∙ sym c.eq.ensures ∙ c.if-eq.true)

pub loop-place-preserved : goal.loop-place-preserved
loop-place-preserved c =
    below_more _ _ c.loop-place.invariant
    (ap (λ (n : List ℕ). bytes_eq n c.args.name.now) (sym (c.as_bytes.ensures.value ∙ c.name_at.ensures))
    ∙ sym c.eq.ensures ∙ c.if-eq.false)

pub returns-clause-place : goal.returns-clause-place
returns-clause-place c = name_nowhere c.args.name.now
    (λ k less. c.loop-place.invariant k (omega (arith, c.loop-place-test.false)))
