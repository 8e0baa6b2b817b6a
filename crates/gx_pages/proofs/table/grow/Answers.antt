use Rattle.std.proofs.Common.{◌≡◌, ◌+◌, ◌*◌, ◌++◌, length, take, length-append, ap, ◌∙◌, arith}
use Rattle.gx_pages.specs.Chunks.{flat}
use Rattle.gx_pages.specs.Leaves.{IsLeaf, leaf_bytes}
use Rattle.gx_pages.proofs.Flat.{AllWhole-append, flat-append, tail_grown}
use Rattle.gx_pages.proofs.Top.{length-leaves}
use Rattle.gx_pages.proofs.table.grow.Goals as goal

pub returns-clause-ok : goal.returns-clause-ok
returns-clause-ok g c =
    let ps = c.args.leaves.now.items in
    let ts = c.clear_tail.new.leaves.items in
    let ms = c.in_ok-more.more.items in
    let full : length (flat leaf_bytes ps) ≡ 65536 * length ps = length-leaves ps c.requires.top.whole in
    let i : c.append.new.self.items ≡ ts ++ ms = c.in_ok-append.ensures.items in
    rw i (ap (take c.args.size) (flat-append leaf_bytes ts ms)
    ∙ tail_grown (flat leaf_bytes ps) (flat leaf_bytes ts) (flat leaf_bytes ms) c.args.old c.args.size _ _
    (omega (arith, c.requires.top.reach)) c.in_ok-clear_tail.ensures.ok
    (c.in_ok-more.ensures.zero c.requires.zero) (omega arith)
    (omega (arith, c.in_ok-more.ensures.count, c.leaves_for.ensures.reach)))

pub returns-clause-top : goal.returns-clause-top
returns-clause-top g c =
    let ts = c.clear_tail.new.leaves.items in
    let ms = c.in_ok-more.more.items in
    let i : c.append.new.self.items ≡ ts ++ ms = c.in_ok-append.ensures.items in
    let l : length (ts ++ ms) ≡ length ts + length ms = length-append ts ms in
    let k = c.in_ok-more.ensures.count in
    rw i (record {
      whole = AllWhole-append IsLeaf ts ms c.clear_tail.ensures.top.whole c.in_ok-more.ensures.whole;
      few = omega (arith, k);
      reach = omega (arith, k);
      tight = omega (arith, k);
      sized = c.requires.whole;
    })
