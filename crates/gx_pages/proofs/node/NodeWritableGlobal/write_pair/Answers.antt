use Rattle.std.proofs.Common.{◌*◌, ◌-◌, ◌≤◌, length, arith}
use Rattle.std.proofs.lemmas.Result.{on_ok_weaker}
use Rattle.gx_pages.proofs.Flat.{flat-set}
use Rattle.gx_pages.proofs.node.NodeWritableGlobal.write_pair.Goals as goal

pub returns-clause-end : goal.returns-clause-end
returns-clause-end g c =
    let n = g.C.Chunk.SIZE in
    let ys = c.args.end.now in
    let few : length ys ≤ n = omega (arith, g.met.C.Chunk.pages, g.met.C.Chunk.some, c.requires.end) in
    on_ok_weaker c.write_pair_in.result
    (λ e. flat-set g.C.Chunk.bytes_of g.C.Chunk.IsWhole n g.met.C.Chunk.sized c.args.first.now.chunks 15
    (n - length ys) (16 * n - length ys) c.write_pair_in.new.first c.index-first-15.result ys
    (omega (arith, c.requires.first.count)) (omega arith) (omega arith) c.requires.first.whole e)
    c.write_pair_in.ensures.end
