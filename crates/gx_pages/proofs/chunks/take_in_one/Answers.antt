use Rattle.std.proofs.Common.{◌≡◌, ℕ, ◌+◌, ◌-◌, ◌/◌, ◌%◌, ◌<◌, ◌≤◌, length, length-take, take, drop, get_or, ap, sym}
use Rattle.std.proofs.Common.{subst, ◌∙◌, arith}
use Rattle.std.proofs.lemmas.Result.{on_ok_weaker}
use Rattle.gx_words.specs.Numbers.{spliced}
use Rattle.gx_pages.specs.Chunks.{flat}
use Rattle.gx_pages.proofs.Flat.{place_lt, place_is, whole_at, AllWhole-set, flat-set, window-flat}
use Rattle.gx_pages.proofs.chunks.take_in_one.Goals as goal

pub take_in-requires-clause-whole : goal.take_in-requires-clause-whole
take_in-requires-clause-whole g c =
    let i : c.args.at / c.SIZE-2.result < length c.args.chunks.now =
    place_lt g.C.Chunk.SIZE c.SIZE-2.result c.args.at _ c.SIZE-2.ensures g.met.C.Chunk.some c.requires.inside in
    whole_at g.C.Chunk.IsWhole c.args.chunks.now (c.args.at / c.SIZE-2.result) c.index-chunks-at.result i
    c.requires.whole

pub take_in-requires-clause-other : goal.take_in-requires-clause-other
take_in-requires-clause-other g c =
    let P = g.C.Chunk.IsWhole in
    let d = c.index-others-at.result in
    let i : c.args.at / c.SIZE-3.result < length c.args.others.now =
    place_lt g.C.Chunk.SIZE c.SIZE-3.result c.args.at _ c.SIZE-3.ensures g.met.C.Chunk.some c.requires.there in
    subst P (sym (ap (λ q. q.value) c.index-others-at.is))
    (whole_at P c.args.others.now (c.args.at / c.SIZE-3.result) d i c.requires.others)

pub returns-clause-whole : goal.returns-clause-whole
returns-clause-whole g c =
    AllWhole-set g.C.Chunk.IsWhole c.args.chunks.now
    (c.args.at / c.SIZE-2.result) c.take_in.new.chunk c.take_in.ensures.whole c.requires.whole

pub returns-clause-ok : goal.returns-clause-ok
returns-clause-ok g c =
    let n = g.C.Chunk.SIZE in
    let b = g.C.Chunk.bytes_of in
    let at = c.args.at in
    let j = at % c.SIZE.result in
    let k = c.args.count in
    let qs = c.args.others.now in
    let d = c.index-others-at.result in
    let i : at / c.SIZE-2.result < length c.args.chunks.now =
    place_lt n c.SIZE-2.result at _ c.SIZE-2.ensures g.met.C.Chunk.some c.requires.inside in
    let o : at / c.SIZE-3.result < length qs =
    place_lt n c.SIZE-3.result at _ c.SIZE-3.ensures g.met.C.Chunk.some c.requires.there in
    let within : j + k ≤ n = rw c.SIZE.ensures c.requires.chunk in
    let ys = take k (drop at (flat b qs)) in
    let few : length ys ≤ k = simp length-take (omega arith) in
    let less : j + k - j ≡ k = omega arith in
    let same : take (j + k - j) (drop j (b d.value)) ≡ ys =
    ap (λ (m : ℕ). take m (drop j (b d.value))) less
    ∙ ap (λ q. take k (drop j (b q.value))) c.index-others-at.is
    ∙ sym (window-flat b g.C.Chunk.IsWhole n g.met.C.Chunk.sized qs (at / c.SIZE-3.result) j k at d o within
    (place_is n c.SIZE-3.result c.SIZE.result at c.SIZE-3.ensures c.SIZE.ensures g.met.C.Chunk.some)
    c.requires.others) in
    on_ok_weaker c.take_in.result
    (λ e. flat-set b g.C.Chunk.IsWhole n g.met.C.Chunk.sized c.args.chunks.now
    (at / c.SIZE-2.result) j at c.take_in.new.chunk c.index-chunks-at.result ys i
    (omega arith)
    (place_is n c.SIZE-2.result c.SIZE.result at c.SIZE-2.ensures c.SIZE.ensures g.met.C.Chunk.some)
    c.requires.whole (e ∙ ap (λ zs. spliced
    (b (get_or c.args.chunks.now (at / c.SIZE-2.result) c.index-chunks-at.result).value) j zs) same))
    c.take_in.ensures.ok
