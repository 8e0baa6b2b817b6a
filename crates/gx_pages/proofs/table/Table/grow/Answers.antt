use Rattle.std.proofs.Common.{◌≡◌, ℕ, ◌-◌, ◌++◌, List, length, replicate, ap, sym, ◌∙◌, arith}
use Rattle.gx_pages.proofs.Top.{length-view}
use Rattle.gx_pages.proofs.table.Table.grow.Goals as goal

pub grow-requires : goal.grow-requires
grow-requires g c =
    let view : length c.args.self.now ≡ c.self.inside.size = ap (λ (m : List ℕ). length m) (sym c.self.view_is)
    ∙ length-view c.self.inside.leaves.items c.self.inside.size c.self.invariant in (
      omega arith,
      (
        omega arith,
        (
          c.requires.zero,
          (c.self.invariant, (c.requires.whole, omega (arith, c.requires.more))),
        ),
      ),
    )

pub returns-clause-ok : goal.returns-clause-ok
returns-clause-ok g c =
    let n = c.self.inside.size in
    let view : length c.args.self.now ≡ n = ap (λ (m : List ℕ). length m) (sym c.self.view_is)
    ∙ length-view c.self.inside.leaves.items n c.self.invariant in
    c.in_ok-grow.ensures.ok
    ∙ ap (λ (m : List ℕ). m ++ replicate (c.args.size - n) 0) c.self.view_is
    ∙ ap (λ (k : ℕ). c.args.self.now ++ replicate (c.args.size - k) 0) (sym view)
