use Rattle.std.proofs.Common.{◌≡◌, ◌*◌, ◌-◌, ◌++◌, length, take, replicate, ap, sym, subst, ◌∙◌, OnOk, arith}
use Rattle.std.proofs.lemmas.List.{take_at}
use Rattle.std.proofs.lemmas.Result.{on_ok_weaker}
use Rattle.gx_words.specs.Numbers.{spliced}
use Rattle.gx_pages.specs.Chunks.{AllWhole, flat}
use Rattle.gx_pages.specs.Leaves.{IsLeaf, leaf_bytes}
use Rattle.gx_pages.proofs.Flat.{cleared}
use Rattle.gx_pages.proofs.Top.{length-leaves, top_kept}
use Rattle.gx_pages.proofs.table.clear_tail.Goals as goal

pub clear-requires-clause-whole : goal.clear-requires-clause-whole
clear-requires-clause-whole g c =
    subst (λ ps. AllWhole IsLeaf ps) (sym c.as_mut_slice.ensures.value) c.requires.top.whole

pub returns-clause-top : goal.returns-clause-top
returns-clause-top g c =
    let v = c.args.leaves.now in
    let ns = c.clear.new.chunks in
    let whole : AllWhole IsLeaf ns = c.clear.ensures.whole in
    let len : length ns ≡ v.len = omega arith in
    rw (take_at ns _ _ len) (top_kept v.items ns c.args.size c.requires.top whole (omega arith))

pub returns-clause-ok : goal.returns-clause-ok
returns-clause-ok g c =
    let v = c.args.leaves.now in
    let ns = c.clear.new.chunks in
    let size = c.args.size in
    let full : length (flat leaf_bytes v.items) ≡ 65536 * length v.items = length-leaves v.items c.requires.top.whole in
    let now : c.as_mut_slice.result.now ≡ v.items = c.as_mut_slice.ensures.value in
    let len : length ns ≡ v.len = omega arith in
    let made : OnOk c.clear.result (flat leaf_bytes ns ≡ spliced (flat leaf_bytes c.as_mut_slice.result.now) size
    (replicate (c.len.result * 65536 - size) 0)) = c.clear.ensures.ok in
    on_ok_weaker c.clear.result
    (λ e. rw (take_at ns _ _ len)
    (e ∙ ap (λ t. spliced (flat leaf_bytes t) size (replicate (c.len.result * 65536 - size) 0)) now
    ∙ cleared (flat leaf_bytes v.items) size (c.len.result * 65536 - size) (omega (arith, c.requires.top.reach))
    ∙ ap (λ k. take size (flat leaf_bytes v.items) ++ replicate (k - size) 0) full))
    made
