use Rattle.std.proofs.Common.{◌≡◌, ℕ, length, replicate, ap, sym, subst, ◌∙◌, OnOk, arith}
use Rattle.std.proofs.lemmas.List.{with_items_is, take_at, length-replicate}
use Rattle.std.proofs.lemmas.Result.{on_ok_weaker}
use Rattle.gx_words.specs.Numbers.{spliced}
use Rattle.gx_pages.specs.Chunks.{AllWhole, flat}
use Rattle.gx_pages.specs.Leaves.{IsLeaf, leaf_bytes}
use Rattle.gx_pages.proofs.Top.{top_kept, view_spliced, view_kept}
use Rattle.gx_pages.proofs.table.Table.clear.Goals as goal

pub clear-requires-clause-whole : goal.clear-requires-clause-whole
clear-requires-clause-whole g c =
    subst (λ ps. AllWhole IsLeaf ps) (sym c.as_mut_slice.ensures.value) c.self.invariant.whole

pub invariant_of-self : goal.invariant_of-self
invariant_of-self g c =
    let v = c.self.inside.leaves in
    let ns = c.clear.new.chunks in
    let whole : AllWhole IsLeaf ns = c.clear.ensures.whole in
    let len : length ns ≡ v.len = omega arith in
    rw (take_at ns _ _ len) (top_kept v.items ns c.self.inside.size c.self.invariant whole (omega arith))

pub returns-clause-ok : goal.returns-clause-ok
returns-clause-ok g c =
    let v = c.self.inside.leaves in
    let ns = c.clear.new.chunks in
    let len : length ns ≡ v.len = omega arith in
    let now : c.as_mut_slice.result.now ≡ v.items = c.as_mut_slice.ensures.value in
    let made : OnOk c.clear.result (flat leaf_bytes ns ≡ spliced (flat leaf_bytes c.as_mut_slice.result.now) c.args.at
    (replicate c.args.count 0)) = c.clear.ensures.ok in
    on_ok_weaker c.clear.result
    (λ e. rw (with_items_is v ns len)
    (view_spliced v.items ns c.self.inside.size c.args.at (replicate c.args.count 0) c.args.self.now c.self.invariant
    c.self.view_is (omega (arith, length-replicate {A = ℕ} c.args.count 0, c.requires))
    (e ∙ ap (λ ps. spliced (flat leaf_bytes ps) c.args.at (replicate c.args.count 0)) now)))
    made

pub returns-clause-size : goal.returns-clause-size
returns-clause-size g c =
    let v = c.self.inside.leaves in
    let ns = c.clear.new.chunks in
    let whole : AllWhole IsLeaf ns = c.clear.ensures.whole in
    let len : length ns ≡ v.len = omega arith in
    rw (with_items_is v ns len)
    (view_kept v.items ns c.self.inside.size c.args.self.now c.self.invariant
    (top_kept v.items ns c.self.inside.size c.self.invariant whole (omega arith)) c.self.view_is)
