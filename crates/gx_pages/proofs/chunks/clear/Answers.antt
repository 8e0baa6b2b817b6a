use Rattle.std.proofs.Common.{◌≡◌, ℕ, List, take, ◌+◌, ◌*◌, ◌≤◌, ◌∙◌, ap, arith, length}
use Rattle.gx_words.specs.Numbers.{spliced}
use Rattle.gx_pages.specs.Chunks.{flat}
use Rattle.gx_pages.specs.Nodes.{length-flat}
use Rattle.gx_pages.proofs.Splice.{cleared_step, take_before}
use Rattle.gx_pages.proofs.chunks.clear.Goals as goal

pub write-requires-clause-inside : goal.write-requires-clause-inside
write-requires-clause-inside g c =
    let room : g.C.Chunk.SIZE * length c.loop-done.chunks ≡ g.C.Chunk.SIZE * length c.args.chunks.now =
    ap (λ (k : ℕ). g.C.Chunk.SIZE * k) c.loop-done.invariant.count in
    omega (arith, c.requires.inside)

pub loop-done-preserved : goal.loop-done-preserved
loop-done-preserved g c =
    let b = g.C.Chunk.bytes_of in
    let ps = c.args.chunks.now in
    let done = c.loop-done.done in
    let full : length (flat b ps) ≡ g.C.Chunk.SIZE * length ps =
    length-flat b g.C.Chunk.IsWhole g.C.Chunk.SIZE g.met.C.Chunk.sized ps c.requires.whole in
    let inside : c.args.at + c.args.count ≤ g.C.Chunk.SIZE * length ps = c.requires.inside in
    record {
      upto = omega arith;
      whole = c.write.ensures.whole;
      count = c.write.ensures.count ∙ c.loop-done.invariant.count;
      made =
          c.in_ok-write.ensures.ok
          ∙ ap (λ (ys : List ℕ). spliced (flat b c.loop-done.chunks) (c.args.at + done) ys) c.zeros.ensures
          ∙ cleared_step (flat b ps) (flat b c.loop-done.chunks) c.args.at done c.in_one_page-piece.result
          (omega arith) c.loop-done.invariant.made;
    }

pub returns-in_err-write-clause-before : goal.returns-in_err-write-clause-before
returns-in_err-write-clause-before g c =
    let b = g.C.Chunk.bytes_of in
    let ps = c.args.chunks.now in
    let full : length (flat b ps) ≡ g.C.Chunk.SIZE * length ps =
    length-flat b g.C.Chunk.IsWhole g.C.Chunk.SIZE g.met.C.Chunk.sized ps c.requires.whole in
    ap (take c.args.at) (c.in_err-write.ensures.err ∙ c.loop-done.invariant.made)
    ∙ take_before (flat b ps) _ c.args.at (omega (arith, c.requires.inside))

pub returns-clause-before : goal.returns-clause-before
returns-clause-before g c =
    let b = g.C.Chunk.bytes_of in
    let ps = c.args.chunks.now in
    let full : length (flat b ps) ≡ g.C.Chunk.SIZE * length ps =
    length-flat b g.C.Chunk.IsWhole g.C.Chunk.SIZE g.met.C.Chunk.sized ps c.requires.whole in
    ap (take c.args.at) c.loop-done.invariant.made
    ∙ take_before (flat b ps) _ c.args.at (omega (arith, c.requires.inside))
