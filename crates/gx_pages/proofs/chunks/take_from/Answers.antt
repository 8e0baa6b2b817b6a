use Rattle.std.proofs.Common.{◌≡◌, ◌*◌, ◌∙◌, arith, length}
use Rattle.gx_pages.specs.Chunks.{flat}
use Rattle.gx_pages.specs.Nodes.{length-flat}
use Rattle.gx_pages.proofs.Splice.{taken_step}
use Rattle.gx_pages.proofs.chunks.take_from.Goals as goal

pub loop-at-preserved : goal.loop-at-preserved
loop-at-preserved g c =
    let b = g.C.Chunk.bytes_of in
    let n = g.C.Chunk.SIZE in
    let ps = c.args.chunks.now in
    let qs = c.args.others.now in
    let full : length (flat b ps) ≡ n * length ps =
    length-flat b g.C.Chunk.IsWhole n g.met.C.Chunk.sized ps c.requires.whole in
    let there : length (flat b qs) ≡ n * length qs =
    length-flat b g.C.Chunk.IsWhole n g.met.C.Chunk.sized qs c.requires.others in
    record {
      above = omega arith;
      upto = omega arith;
      whole = c.take_in_one.ensures.whole;
      count = c.take_in_one.ensures.count ∙ c.loop-at.invariant.count;
      made =
          c.in_ok-take_in_one.ensures.ok
          ∙ taken_step (flat b ps) (flat b c.loop-at.chunks) (flat b qs) c.args.from c.args.end c.loop-at.at
          c.min-count.result (omega (arith, c.requires.inside)) (omega (arith, c.requires.there)) (omega arith)
          (omega arith) c.loop-at.invariant.made;
    }
