use Rattle.std.proofs.Common.{arith}
use Rattle.gx_words.specs.Numbers.{IsWidth}
use Rattle.gx_state.proofs.Pairs.{format_is_past, format_is_cut, reads_fault, pair_taken}
use Rattle.gx_state.proofs.formats.+push_pairs.Goals as goal

pub returns-in_err-width-clause-value : goal.returns-in_err-width-clause-value
returns-in_err-width-clause-value g t c =
    let past = c.in_err-width.ensures.value in
    reads_fault _ _ _ _ c.from_residual.ensures.1 (format_is_past _ _ _ _ _ past.0) past.1

pub returns-in_err-count-clause-value : goal.returns-in_err-count-clause-value
returns-in_err-count-clause-value g t c =
    let past = c.in_err-count.ensures.value in
    reads_fault _ _ _ _ c.from_residual-in_err-count.ensures.1
    (format_is_cut _ _ _ _ _ _ c.in_ok-width.ensures.value past.0) past.1

pub returns-in-1-clause-value : goal.returns-in-1-clause-value
returns-in-1-clause-value g t c =
    let width : IsWidth c.in_ok-width.width = grind arith in
    pair_taken _ _ _ _ _ _ _ _ _ _ c.in_ok-width.ensures.value c.in_ok-count.ensures.value width c.if-left-gt0.true
    c.push-in-1.ensures.items c.push-in-1-2.ensures.items c.push_pairs.ensures.value
