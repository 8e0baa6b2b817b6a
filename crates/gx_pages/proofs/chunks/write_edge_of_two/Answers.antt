use Rattle.std.proofs.Common.{◌≡◌, ◌+◌, ◌*◌, ◌-◌, ◌/◌, ◌%◌, ◌<◌, ◌++◌, length, take, set, ap, sym, subst, ◌∙◌, arith}
use Rattle.std.proofs.lemmas.List.{take-append-drop}
use Rattle.std.proofs.Common.{Result, Ok, Err, OnOk, OnErr}
use Rattle.gx_words.specs.Numbers.{spliced}
use Rattle.gx_pages.specs.Chunks.{AllWhole, flat}
use Rattle.gx_pages.proofs.Flat.{place_is, next_lt, whole_at, AllWhole-set, AllWhole-append, AllWhole-front}
use Rattle.gx_pages.proofs.Flat.{AllWhole-back, flat-append, flat-pair, flat-set_same}
use Rattle.gx_pages.proofs.chunks.write_edge_of_two.Goals as goal

on_ok_two : {T E P Q R : Type 0} (r : Result T E) → (P → Q → R) → OnOk r P → OnOk r Q → OnOk r R
on_ok_two (Ok x) f p q = f p q
on_ok_two (Err e) f p q = tt

on_err_two : {T E P Q R : Type 0} (r : Result T E) → (P → Q → R) → OnErr r P → OnErr r Q → OnErr r R
on_err_two (Ok x) f p q = tt
on_err_two (Err e) f p q = f p q

pub write_pair_in-requires-clause-first : goal.write_pair_in-requires-clause-first
write_pair_in-requires-clause-first g c =
    let P = g.C.Chunk.IsWhole in
    let ps = c.split_at_mut-firsts.result.0.now in
    let qs = c.split_at_mut-firsts.result.1.now in
    whole_at P ps (c.args.at / c.SIZE.result) c.index-firsts-index.result
    (omega (arith, c.split_at_mut-firsts.ensures.front_len))
    (AllWhole-front P ps qs (subst (AllWhole P) c.split_at_mut-firsts.ensures.value c.requires.whole))

pub write_pair_in-requires-clause-next : goal.write_pair_in-requires-clause-next
write_pair_in-requires-clause-next g c =
    let P = g.C.Chunk.IsWhole in
    let ps = c.split_at_mut-firsts.result.0.now in
    let qs = c.split_at_mut-firsts.result.1.now in
    let n = g.C.Chunk.SIZE in
    let past : n < c.args.at % c.SIZE-3.result + length c.args.bytes.now = rw c.SIZE-3.ensures c.requires.edge in
    let next : c.args.at / c.SIZE.result + 1 < length c.args.chunks.now =
    next_lt n c.SIZE.result c.SIZE-3.result c.args.at (length c.args.bytes.now)
    (length c.args.chunks.now) c.SIZE.ensures c.SIZE-3.ensures g.met.C.Chunk.some past c.requires.inside in
    whole_at P qs 0 c.index-nexts-0.result (omega (arith, c.split_at_mut-firsts.ensures.back_len))
    (AllWhole-back P ps qs (subst (AllWhole P) c.split_at_mut-firsts.ensures.value c.requires.whole))

pub returns-clause-whole : goal.returns-clause-whole
returns-clause-whole g c =
    let P = g.C.Chunk.IsWhole in
    let ps = c.split_at_mut-firsts.result.0.now in
    let qs = c.split_at_mut-firsts.result.1.now in
    let all : AllWhole P (ps ++ qs) = subst (AllWhole P) c.split_at_mut-firsts.ensures.value c.requires.whole in
    AllWhole-append P _ _
    (AllWhole-set P ps (c.args.at / c.SIZE.result) c.write_pair_in.new.first c.write_pair_in.ensures.first
    (AllWhole-front P ps qs all))
    (AllWhole-set P qs 0 c.write_pair_in.new.next c.write_pair_in.ensures.next (AllWhole-back P ps qs all))

pub returns-clause-ok : goal.returns-clause-ok
returns-clause-ok g c =
    let n = g.C.Chunk.SIZE in
    let b = g.C.Chunk.bytes_of in
    let P = g.C.Chunk.IsWhole in
    let at = c.args.at in
    let ys = c.args.bytes.now in
    let i = at / c.SIZE.result in
    let k = c.SIZE-2.result - at % c.SIZE-3.result in
    let ps = c.split_at_mut-firsts.result.0.now in
    let qs = c.split_at_mut-firsts.result.1.now in
    let end = c.split_at.result.0.now in
    let start = c.split_at.result.1.now in
    let all : AllWhole P (ps ++ qs) = subst (AllWhole P) c.split_at_mut-firsts.ensures.value c.requires.whole in
    let past : n < at % c.SIZE-3.result + length ys = rw c.SIZE-3.ensures c.requires.edge in
    let next : i + 1 < length c.args.chunks.now = next_lt n c.SIZE.result c.SIZE-3.result at (length ys)
    (length c.args.chunks.now) c.SIZE.ensures c.SIZE-3.ensures g.met.C.Chunk.some past c.requires.inside in
    let place : at ≡ n * i + at % c.SIZE-3.result =
    place_is n c.SIZE.result c.SIZE-3.result at c.SIZE.ensures c.SIZE-3.ensures g.met.C.Chunk.some in
    let within : at % c.SIZE-3.result < n = rw c.SIZE-3.ensures (omega (arith, g.met.C.Chunk.some)) in
    let size : c.SIZE-2.result ≡ n = c.SIZE-2.ensures in
    let ends : length end ≡ n - at % c.SIZE-3.result = omega (arith, c.split_at.ensures.front_len) in
    let starts : length start ≡ length ys - length end = omega (arith, c.split_at.ensures.back_len) in
    let whole : end ++ start ≡ ys = ap (λ u. u ++ start) c.split_at.ensures.front
    ∙ ap (λ u. take k ys ++ u) c.split_at.ensures.back ∙ take-append-drop k ys in
    on_ok_two c.write_pair_in.result
    (λ e f. flat-pair b P n g.met.C.Chunk.sized ps qs i at c.write_pair_in.new.first c.write_pair_in.new.next
    c.index-firsts-index.result c.index-nexts-0.result end start
    (omega (arith, c.split_at_mut-firsts.ensures.front_len)) (omega (arith, c.split_at_mut-firsts.ensures.back_len))
    (omega arith)
    (omega (arith, g.met.C.Chunk.pages, g.met.C.Chunk.some, c.requires.few)) (omega arith)
    (AllWhole-front P ps qs all) (AllWhole-back P ps qs all) e f
    ∙ ap (λ u. spliced (flat b (ps ++ qs)) at u) whole
    ∙ ap (λ u. spliced (flat b u) at ys) (sym c.split_at_mut-firsts.ensures.value))
    c.write_pair_in.ensures.end c.write_pair_in.ensures.start

pub returns-clause-err : goal.returns-clause-err
returns-clause-err g c =
    let n = g.C.Chunk.SIZE in
    let b = g.C.Chunk.bytes_of in
    let i = c.args.at / c.SIZE.result in
    let ps = c.split_at_mut-firsts.result.0.now in
    let qs = c.split_at_mut-firsts.result.1.now in
    let past : n < c.args.at % c.SIZE-3.result + length c.args.bytes.now = rw c.SIZE-3.ensures c.requires.edge in
    let next : i + 1 < length c.args.chunks.now =
    next_lt n c.SIZE.result c.SIZE-3.result c.args.at (length c.args.bytes.now)
    (length c.args.chunks.now) c.SIZE.ensures c.SIZE-3.ensures g.met.C.Chunk.some past c.requires.inside in
    on_err_two c.write_pair_in.result
    (λ e f. flat-append b (set ps i c.write_pair_in.new.first) (set qs 0 c.write_pair_in.new.next)
    ∙ ap (λ u. u ++ flat b (set qs 0 c.write_pair_in.new.next))
    (flat-set_same b ps i c.write_pair_in.new.first c.index-firsts-index.result
    (omega (arith, c.split_at_mut-firsts.ensures.front_len)) e)
    ∙ ap (λ u. flat b ps ++ u) (flat-set_same b qs 0 c.write_pair_in.new.next c.index-nexts-0.result
    (omega (arith, c.split_at_mut-firsts.ensures.back_len)) f)
    ∙ sym (flat-append b ps qs) ∙ ap (flat b) (sym c.split_at_mut-firsts.ensures.value))
    c.write_pair_in.ensures.first_stays c.write_pair_in.ensures.next_stays
