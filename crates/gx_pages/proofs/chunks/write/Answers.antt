use Rattle.std.proofs.Common.{◌≡◌, ◌+◌, ◌-◌, ◌/◌, ◌%◌, ◌<◌, ◌≤◌, length, arith}
use Rattle.std.proofs.lemmas.Result.{on_ok_weaker, on_err_weaker}
use Rattle.gx_pages.proofs.Flat.{place_lt, place_is, page_within, same_place, whole_at, AllWhole-set, flat-set}
use Rattle.gx_pages.proofs.Flat.{flat-set_same}
use Rattle.gx_pages.proofs.chunks.write.Goals as goal

pub write_to-requires-clause-whole : goal.write_to-requires-clause-whole
write_to-requires-clause-whole g c =
    let n = g.C.Chunk.SIZE in
    let i : c.args.at / c.SIZE.result < length c.args.chunks.now =
    place_lt n c.SIZE.result c.args.at _ c.SIZE.ensures g.met.C.Chunk.some c.requires.inside in
    whole_at g.C.Chunk.IsWhole c.args.chunks.now (c.args.at / c.SIZE.result) c.index-chunks-at.result i c.requires.whole

pub write_to-requires-clause-page : goal.write_to-requires-clause-page
write_to-requires-clause-page g c =
    let same : c.args.at % c.SIZE-2.result % 256 ≡ c.args.at % 256 =
    same_place g.C.Chunk.SIZE c.SIZE-2.result c.args.at c.SIZE-2.ensures g.met.C.Chunk.pages in
    omega (arith, c.requires.page)

pub returns-clause-whole : goal.returns-clause-whole
returns-clause-whole g c =
    AllWhole-set g.C.Chunk.IsWhole c.args.chunks.now
    (c.args.at / c.SIZE.result) c.write_to.new.chunk c.write_to.ensures.whole c.requires.whole

pub returns-clause-ok : goal.returns-clause-ok
returns-clause-ok g c =
    let n = g.C.Chunk.SIZE in
    let i : c.args.at / c.SIZE.result < length c.args.chunks.now =
    place_lt n c.SIZE.result c.args.at _ c.SIZE.ensures g.met.C.Chunk.some c.requires.inside in
    on_ok_weaker c.write_to.result
    (λ e. flat-set g.C.Chunk.bytes_of g.C.Chunk.IsWhole n g.met.C.Chunk.sized c.args.chunks.now
    (c.args.at / c.SIZE.result) (c.args.at % c.SIZE-2.result) c.args.at c.write_to.new.chunk
    c.index-chunks-at.result c.args.bytes.now i
    (let within : c.args.at % c.SIZE-2.result + (256 - c.args.at % 256) ≤ n =
    page_within n c.SIZE-2.result _ c.args.at c.SIZE-2.ensures g.met.C.Chunk.some g.met.C.Chunk.pages
    (λ _. 256 - c.args.at % 256) in omega (arith, c.requires.page))
    (place_is n c.SIZE.result c.SIZE-2.result c.args.at c.SIZE.ensures c.SIZE-2.ensures g.met.C.Chunk.some)
    c.requires.whole e)
    c.write_to.ensures.ok

pub returns-clause-err : goal.returns-clause-err
returns-clause-err g c =
    let n = g.C.Chunk.SIZE in
    let i : c.args.at / c.SIZE.result < length c.args.chunks.now =
    place_lt n c.SIZE.result c.args.at _ c.SIZE.ensures g.met.C.Chunk.some c.requires.inside in
    on_err_weaker c.write_to.result
    (λ e. flat-set_same g.C.Chunk.bytes_of c.args.chunks.now
    (c.args.at / c.SIZE.result) c.write_to.new.chunk c.index-chunks-at.result i e)
    c.write_to.ensures.err
