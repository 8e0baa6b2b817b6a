use Rattle.std.proofs.Common.{◌≤◌, ◌++◌, false, length, take, drop, ap, refl, subst, ◌∙◌, arith}
use Rattle.std.proofs.lemmas.Grind.{common_steps}
use Rattle.gx_outside.specs.Fakes.{HeldSource}
use Rattle.gx_outside.specs.Outside.{HasCause, raised_by}
use Rattle.gx_outside.proofs.Pieces.{reads_front}
use Rattle.gx_outside.proofs.mem_source.MemSourceSource.read.Goals as goal

pub returns-clause-does : goal.returns-clause-does
returns-clause-does c = record {
  bound = let size : length (take c.min-count.result
      (c.copy_from_slice.new.self ++ drop c.min-count.result c.args.into.now)) ≤ c.min-count.result =
      grind (arith, common_steps) in omega arith;
  cause = subst (λ (s : HeldSource). HasCause s.calls.counts c.begin.new.self.counts false false) c.self.view_is
      (rw c.if-begin.false at c.begin.ensures.cause);
  offered = c.saturating_add-self-inside.ensures
      ∙ ap (λ (s : HeldSource). raised_by (length c.args.into.now) s.offered) c.self.view_is;
  tells = refl;
  bytes = λ tells.
      reads_front c.self.inside.at c.min-count.result c.self.inside.piece c.min.result c.self.inside.bytes
      c.as_slice.result.now c.args.self.now.left c.args.into.now c.copy_from_slice.new.self
      (ap (λ (s : HeldSource). s.left) c.self.view_is)
      c.as_slice.ensures
      c.copy_from_slice.ensures.after
      c.min.ensures
      c.min-count.ensures
      c.self.invariant.1;
}
