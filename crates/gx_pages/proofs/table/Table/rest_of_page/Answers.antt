use Rattle.std.proofs.Common.{◌≡◌, ℕ, ◌-◌, ◌%◌, List, length, take, drop, ap, sym, subst, ◌∙◌, arith}
use Rattle.gx_pages.specs.Chunks.{AllWhole, flat}
use Rattle.gx_pages.specs.Leaves.{IsLeaf, leaf_bytes}
use Rattle.gx_pages.proofs.Splice.{window_cut}
use Rattle.gx_pages.proofs.Top.{length-view}
use Rattle.gx_pages.proofs.table.Table.rest_of_page.Goals as goal

pub rest_of_page-requires-clause-whole : goal.rest_of_page-requires-clause-whole
rest_of_page-requires-clause-whole g c =
    subst (λ ps. AllWhole IsLeaf ps) (sym c.as_slice.ensures.value) c.self.invariant.whole

pub returns : goal.returns
returns g c =
    let v = c.self.inside.leaves in
    let below : length c.args.self.now ≡ c.self.inside.size = ap (λ (m : List ℕ). length m) (sym c.self.view_is)
    ∙ length-view v.items c.self.inside.size c.self.invariant in
    let found : c.rest_of_page.result.now ≡ take (256 - c.args.at % 256)
    (drop c.args.at (flat leaf_bytes c.as_slice.result.now)) = c.rest_of_page.ensures in
    found ∙ ap (λ ps. take (256 - c.args.at % 256) (drop c.args.at (flat leaf_bytes ps))) c.as_slice.ensures.value
    ∙ sym (window_cut (flat leaf_bytes v.items) c.args.at (256 - c.args.at % 256) c.self.inside.size
    (omega (arith, c.requires, below, c.self.invariant.sized.whole)))
    ∙ ap (λ m. take (256 - c.args.at % 256) (drop c.args.at m)) c.self.view_is
