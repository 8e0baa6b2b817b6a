use Rattle.std.proofs.Common.{◌≡◌, ℕ, ◌+◌, ◌-◌, ◌≤◌, List, length, length-take, take, drop, ap, sym, subst, ◌∙◌, OnOk}
use Rattle.std.proofs.Common.{arith}
use Rattle.std.proofs.lemmas.List.{with_items_is, take_at}
use Rattle.std.proofs.lemmas.Result.{on_ok_weaker}
use Rattle.gx_words.specs.Numbers.{spliced}
use Rattle.gx_pages.specs.Chunks.{AllWhole, flat}
use Rattle.gx_pages.specs.Leaves.{IsLeaf, leaf_bytes}
use Rattle.gx_pages.proofs.Splice.{window_cut}
use Rattle.gx_pages.proofs.Top.{length-view, top_kept, view_spliced, view_kept}
use Rattle.gx_pages.proofs.table.Table.take_from.Goals as goal

pub take_from-requires-clause-whole : goal.take_from-requires-clause-whole
take_from-requires-clause-whole g c =
    subst (λ ps. AllWhole IsLeaf ps) (sym c.as_mut_slice.ensures.value) c.self.invariant.whole

pub take_from-requires-clause-others : goal.take_from-requires-clause-others
take_from-requires-clause-others g c =
    subst (λ ps. AllWhole IsLeaf ps) (sym c.as_slice-others.ensures.value) c.other.invariant.whole

pub invariant_of-self : goal.invariant_of-self
invariant_of-self g c =
    let v = c.self.inside.leaves in
    let ns = c.take_from.new.chunks in
    let whole : AllWhole IsLeaf ns = c.take_from.ensures.whole in
    let len : length ns ≡ v.len = omega arith in
    rw (take_at ns _ _ len) (top_kept v.items ns c.self.inside.size c.self.invariant whole (omega arith))

pub returns-clause-ok : goal.returns-clause-ok
returns-clause-ok g c =
    let v = c.self.inside.leaves in
    let ns = c.take_from.new.chunks in
    let len : length ns ≡ v.len = omega arith in
    let now : c.as_mut_slice.result.now ≡ v.items = c.as_mut_slice.ensures.value in
    let o = c.other.inside.leaves in
    let below : c.args.end ≤ c.other.inside.size =
    omega (
      arith,
      c.requires.there,
      ap (λ (m : List ℕ). length m) (sym c.other.view_is),
      length-view o.items c.other.inside.size c.other.invariant,
    ) in
    let seen : take (c.args.end - c.args.from) (drop c.args.from (flat leaf_bytes c.as_slice-others.result.now))
    ≡ take (c.args.end - c.args.from) (drop c.args.from c.args.other.now) =
    ap (λ ps. take (c.args.end - c.args.from) (drop c.args.from (flat leaf_bytes ps))) c.as_slice-others.ensures.value
    ∙ sym (window_cut (flat leaf_bytes o.items) c.args.from (c.args.end - c.args.from) c.other.inside.size
    (omega (arith, c.requires.order)))
    ∙ ap (λ m. take (c.args.end - c.args.from) (drop c.args.from m)) c.other.view_is in
    let few : c.args.from + length (take (c.args.end - c.args.from) (drop c.args.from c.args.other.now))
    ≤ length c.args.self.now = simp length-take (omega (arith, c.requires.inside, c.requires.order)) in
    let made : OnOk c.take_from.result (flat leaf_bytes ns
    ≡ spliced (flat leaf_bytes c.as_mut_slice.result.now) c.args.from
    (take (c.args.end - c.args.from) (drop c.args.from (flat leaf_bytes c.as_slice-others.result.now)))) =
    c.take_from.ensures.ok in
    on_ok_weaker c.take_from.result
    (λ e. rw (with_items_is v ns len)
    (view_spliced v.items ns c.self.inside.size c.args.from
    (take (c.args.end - c.args.from) (drop c.args.from c.args.other.now)) c.args.self.now c.self.invariant
    c.self.view_is few
    (e ∙ ap (λ ps. spliced (flat leaf_bytes ps) c.args.from
    (take (c.args.end - c.args.from) (drop c.args.from (flat leaf_bytes c.as_slice-others.result.now)))) now
    ∙ ap (λ ys. spliced (flat leaf_bytes v.items) c.args.from ys) seen)))
    made

pub returns-clause-size : goal.returns-clause-size
returns-clause-size g c =
    let v = c.self.inside.leaves in
    let ns = c.take_from.new.chunks in
    let whole : AllWhole IsLeaf ns = c.take_from.ensures.whole in
    let len : length ns ≡ v.len = omega arith in
    rw (with_items_is v ns len)
    (view_kept v.items ns c.self.inside.size c.args.self.now c.self.invariant
    (top_kept v.items ns c.self.inside.size c.self.invariant whole (omega arith)) c.self.view_is)
