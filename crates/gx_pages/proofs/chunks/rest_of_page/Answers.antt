use Rattle.std.proofs.Common.{◌≡◌, ℕ, ◌-◌, ◌/◌, ◌%◌, ◌<◌, length, take, drop, ap, sym, subst, ◌∙◌}
use Rattle.gx_pages.proofs.Flat.{place_lt, place_is, page_within, same_place, whole_at, window-flat}
use Rattle.gx_pages.proofs.chunks.rest_of_page.Goals as goal

pub rest_of_page-requires-clause-whole : goal.rest_of_page-requires-clause-whole
rest_of_page-requires-clause-whole g c =
    let P = g.C.Chunk.IsWhole in
    let ps = c.args.chunks.now in
    let d = c.index-chunks-at.result in
    let i : c.args.at / c.SIZE.result < length ps =
    place_lt g.C.Chunk.SIZE c.SIZE.result c.args.at _ c.SIZE.ensures g.met.C.Chunk.some c.requires.inside in
    subst P (sym (c.deref.ensures ∙ ap (λ q. q.value) c.index-chunks-at.is))
    (whole_at P ps (c.args.at / c.SIZE.result) d i c.requires.whole)

pub returns : goal.returns
returns g c =
    let n = g.C.Chunk.SIZE in
    let b = g.C.Chunk.bytes_of in
    let at = c.args.at in
    let ps = c.args.chunks.now in
    let d = c.index-chunks-at.result in
    let k = 256 - at % 256 in
    let j = at % c.SIZE-2.result in
    let same : j % 256 ≡ at % 256 = same_place n c.SIZE-2.result at c.SIZE-2.ensures g.met.C.Chunk.pages in
    let i : at / c.SIZE.result < length ps =
    place_lt n c.SIZE.result at _ c.SIZE.ensures g.met.C.Chunk.some c.requires.inside in
    c.rest_of_page.ensures
    ∙ ap (λ (r : ℕ). take (256 - r) (drop j (b c.deref.result.now))) same
    ∙ ap (λ v. take k (drop j (b v))) (c.deref.ensures ∙ ap (λ q. q.value) c.index-chunks-at.is)
    ∙ sym (window-flat b g.C.Chunk.IsWhole n g.met.C.Chunk.sized ps (at / c.SIZE.result) j k at d i
    (page_within n c.SIZE-2.result k at c.SIZE-2.ensures g.met.C.Chunk.some g.met.C.Chunk.pages (λ _. k))
    (place_is n c.SIZE.result c.SIZE-2.result at c.SIZE.ensures c.SIZE-2.ensures g.met.C.Chunk.some)
    c.requires.whole)
