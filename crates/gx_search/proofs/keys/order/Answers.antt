-- the first bytes that differ give the order, and equal ones leave it to those after them
use Rattle.std.proofs.Common.{◌≡◌, ◌≢◌, get_or, arith}
use Rattle.gx_search.specs.Keys.{sought_key, key_at}
use Rattle.gx_search.proofs.Comparing.{bytes_apart, bytes_same, sought_length, key_length}
use Rattle.gx_search.proofs.keys.order.Goals as goal

pub returns-then-key-there : goal.returns-then-key-there
returns-then-key-there g c =
    let m = c.args.memory.now in
    let q = c.args.ask.now in
    let i = c.loop-i.i in
    let key = sought_length m q c.args.at c.requires.there c.requires.sized in
    let there = key_length m q c.args.at c.requires.there in
    let apart : get_or (sought_key m q) i 0 ≢ get_or (key_at m q c.args.at) i 0 =
    λ same. absurd (omega (arith, c.sought_byte-key.ensures, c.key_byte-there.ensures)) in
    let order = bytes_apart (sought_key m q) (key_at m q c.args.at) i _ (omega arith)
    (omega arith) apart c.loop-i.invariant in
    cc (c.cmp.ensures, c.sought_byte-key.ensures, c.key_byte-there.ensures)

pub loop-i-preserved : goal.loop-i-preserved
loop-i-preserved g c =
    let m = c.args.memory.now in
    let q = c.args.ask.now in
    let i = c.loop-i.i in
    let key = sought_length m q c.args.at c.requires.there c.requires.sized in
    let there = key_length m q c.args.at c.requires.there in
    let same : get_or (sought_key m q) i 0 ≡ get_or (key_at m q c.args.at) i 0 =
    omega (arith, c.sought_byte-key.ensures, c.key_byte-there.ensures) in
    bytes_same (sought_key m q) (key_at m q c.args.at) i _ (omega arith) (omega arith) same c.loop-i.invariant
