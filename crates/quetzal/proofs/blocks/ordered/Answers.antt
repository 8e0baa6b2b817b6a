-- sorted blocks that rise are those of the definition, and others are refused
use Rattle.std.proofs.Common.{◌∙◌, ap, sym, subst, inl, IsOk, refl}
use Rattle.std.proofs.lemmas.Result.{err_from_is_err_and}
use Rattle.quetzal.specs.Blocks.{blocks_in, rises}
use Rattle.quetzal.proofs.Sorting.{order_taken, order_refused}
use Rattle.quetzal.proofs.SaveReading.{blocks_wanted}
use Rattle.quetzal.proofs.blocks.ordered.Goals as goal

pub returns-in_err-all : goal.returns-in_err-all
returns-in_err-all c =
    let p = err_from_is_err_and c.from_residual.result c.from_residual.ensures.1 in
    rw (p.1, p.2) (
      λ other. absurd (other refl),
      λ memory. blocks_wanted c.args.start c.args.size c.args.body.now c.requires.start c.requires.within,
    )

pub returns-then-not-rises : goal.returns-then-not-rises
returns-then-not-rises c =
    let down = sym (ap (rises c.args.start c.args.size) c.as_slice-sorted.ensures.value) ∙ sym c.rises.ensures
    ∙ c.if-not-rises.true in (
      λ _. order_refused (blocks_in c.args.body.now) c.in_ok-all.all.items c.args.start c.args.size c.in_ok-all.ensures
          down,
      λ same. absurd cc,
    )

pub returns-in_err-blocks : goal.returns-in_err-blocks
returns-in_err-blocks c =
    let p = err_from_is_err_and c.from_residual-in_err-blocks.result c.from_residual-in_err-blocks.ensures.1 in
    let up = sym (ap (rises c.args.start c.args.size) c.as_slice-sorted.ensures.value) ∙ sym c.rises.ensures
    ∙ c.if-not-rises.false in
    let taken = order_taken (blocks_in c.args.body.now) c.in_ok-all.all.items c.args.start c.args.size
    c.in_ok-all.ensures up in
    rw (p.1, p.2) (λ other. absurd (other refl), λ memory. inl (subst IsOk (sym taken) refl))

pub returns : goal.returns
returns c =
    let up = sym (ap (rises c.args.start c.args.size) c.as_slice-sorted.ensures.value) ∙ sym c.rises.ensures
    ∙ c.if-not-rises.false in
    let taken = order_taken (blocks_in c.args.body.now) c.in_ok-all.all.items c.args.start c.args.size
    c.in_ok-all.ensures up in
    rw (c.in_ok-blocks.ensures, c.as_slice-sorted.ensures.value) taken
