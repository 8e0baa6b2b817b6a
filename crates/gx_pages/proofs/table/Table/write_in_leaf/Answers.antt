use Rattle.std.proofs.Common.{◌≡◌, length, ap, sym, subst, ◌∙◌, OnOk, arith}
use Rattle.std.proofs.lemmas.List.{with_items_is, take_at}
use Rattle.std.proofs.lemmas.Result.{on_ok_weaker}
use Rattle.gx_words.specs.Numbers.{spliced}
use Rattle.gx_pages.specs.Chunks.{AllWhole, flat}
use Rattle.gx_pages.specs.Leaves.{IsLeaf, leaf_bytes}
use Rattle.gx_pages.proofs.Top.{top_kept, view_spliced}
use Rattle.gx_pages.proofs.table.Table.write_in_leaf.Goals as goal

pub write_in_one-requires-clause-whole : goal.write_in_one-requires-clause-whole
write_in_one-requires-clause-whole g c =
    subst (λ ps. AllWhole IsLeaf ps) (sym c.as_mut_slice.ensures.value) c.self.invariant.whole

pub invariant_of-self : goal.invariant_of-self
invariant_of-self g c =
    let v = c.self.inside.leaves in
    let ns = c.write_in_one.new.chunks in
    let whole : AllWhole IsLeaf ns = c.write_in_one.ensures.whole in
    let len : length ns ≡ v.len = omega arith in
    rw (take_at ns _ _ len) (top_kept v.items ns c.self.inside.size c.self.invariant whole (omega arith))

pub returns-clause-ok : goal.returns-clause-ok
returns-clause-ok g c =
    let v = c.self.inside.leaves in
    let ns = c.write_in_one.new.chunks in
    let len : length ns ≡ v.len = omega arith in
    let now : c.as_mut_slice.result.now ≡ v.items = c.as_mut_slice.ensures.value in
    let made : OnOk c.write_in_one.result (flat leaf_bytes ns
    ≡ spliced (flat leaf_bytes c.as_mut_slice.result.now) c.args.at (c.args.bytes.now)) =
    c.write_in_one.ensures.ok in
    on_ok_weaker c.write_in_one.result
    (λ e. rw (with_items_is v ns len)
    (view_spliced v.items ns c.self.inside.size c.args.at
    (c.args.bytes.now) c.args.self.now c.self.invariant c.self.view_is (omega (arith, c.requires.inside))
    (e ∙ ap (λ ps. spliced (flat leaf_bytes ps) c.args.at (c.args.bytes.now)) now)))
    made
