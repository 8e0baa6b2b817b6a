use Rattle.std.proofs.Common.{◌≡◌, ℕ, ◌+◌, ◌*◌, ◌≤◌, ◌∙◌, ap, arith, length}
use Rattle.gx_pages.specs.Chunks.{flat}
use Rattle.gx_pages.specs.Nodes.{length-flat}
use Rattle.gx_pages.proofs.Splice.{spliced_step}
use Rattle.gx_pages.proofs.chunks.put.Goals as goal

pub write-requires-clause-inside : goal.write-requires-clause-inside
write-requires-clause-inside g c =
    let room : g.C.Chunk.SIZE * length c.loop-done.chunks ≡ g.C.Chunk.SIZE * length c.args.chunks.now =
    ap (λ (k : ℕ). g.C.Chunk.SIZE * k) c.loop-done.invariant.count in
    omega (arith, c.requires.inside)

pub loop-done-preserved : goal.loop-done-preserved
loop-done-preserved g c =
    let b = g.C.Chunk.bytes_of in
    let ps = c.args.chunks.now in
    let full : length (flat b ps) ≡ g.C.Chunk.SIZE * length ps =
    length-flat b g.C.Chunk.IsWhole g.C.Chunk.SIZE g.met.C.Chunk.sized ps c.requires.whole in
    let inside : c.args.at + length c.args.bytes.now ≤ g.C.Chunk.SIZE * length ps = c.requires.inside (omega arith) in
    record {
      upto = omega arith;
      whole = c.write.ensures.whole;
      count = c.write.ensures.count ∙ c.loop-done.invariant.count;
      made = c.in_ok-write.ensures.ok ∙ spliced_step (flat b ps) (flat b c.loop-done.chunks) c.args.bytes.now
          c.args.at c.loop-done.done c.in_one_page-count.result _ (omega arith) (omega arith)
          (omega arith) c.loop-done.invariant.made;
    }
