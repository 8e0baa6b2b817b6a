use Rattle.std.proofs.Common.{◌≡◌, ◌+◌, ◌≤◌, ◌==◌, ◌||◌, true, length, arith}
use Rattle.gx_state.proofs.Pairs.{end_past, end_cut, end_format, one_read, reads_fault}
use Rattle.gx_state.proofs.formats.format_end.Goals as goal

pub returns-in_err-width-clause-value : goal.returns-in_err-width-clause-value
returns-in_err-width-clause-value g c =
    let past = c.in_err-width.ensures.value in
    reads_fault _ _ _ _ c.from_residual.ensures.1 (end_past _ _ _ _ _ c.pairs.invariant past.0) past.1

pub returns-in_err-_count-clause-value : goal.returns-in_err-_count-clause-value
returns-in_err-_count-clause-value g c =
    let past = c.in_err-_count.ensures.value in
    reads_fault _ _ _ _ c.from_residual-in_err-_count.ensures.1
    (end_cut _ _ _ _ _ _ c.pairs.invariant c.in_ok-width.ensures.value past.0) past.1

pub returns-then-width-eq0-clause-format : goal.returns-then-width-eq0-clause-format
returns-then-width-eq0-clause-format g c =
    let there : c.pairs.here + 2 ≤ length (g.M.Readable.bytes c.args.memory.now) =
    omega (arith, c.in_ok-_count.ensures.there) in
    end_format _ _ _ _ _ _ c.pairs.invariant c.in_ok-width.ensures.value c.in_ok-_count.ensures.value
    c.if-width-eq0.true there

pub pairs-preserved : goal.pairs-preserved
pairs-preserved g c =
    let there : c.pairs.here + 2 ≤ length (g.M.Readable.bytes c.args.memory.now) =
    omega (arith, c.in_ok-_count.ensures.there) in
    let known : (c.in_ok-width.width == 1 || c.in_ok-width.width == 2 || c.in_ok-width.width == 4) ≡ true =
    grind arith in
    one_read _ _ _ _ _ _ c.pairs.invariant c.in_ok-width.ensures.value c.in_ok-_count.ensures.value known
    (omega arith) there
