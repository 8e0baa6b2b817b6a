use Rattle.std.proofs.Common.{◌≡◌, Err, rules}
use Rattle.std.proofs.lemmas.Result.{err_from_is_err_and}
use Rattle.gx_words.specs.declared.faults.Fault.TheVariants.{NoMemory}
use Rattle.glk_object_calls.proofs.Pairs.{window_refused, window_lost, window_given}
use Rattle.glk_object_calls.proofs.windows.window_close.Goals as goal

pub returns-in_err-can_give_pair-clause-value : goal.returns-in_err-can_give_pair-clause-value
returns-in_err-can_give_pair-clause-value g c =
    let p = err_from_is_err_and c.from_residual.result c.from_residual.ensures.1 in
    let refused = c.in_err-can_give_pair.ensures in
    rw (p.1, p.2) (window_refused _ _ _ _ _ _ c.arg-at.ensures refused.0 refused.1)

pub returns-in_err-read-clause-value : goal.returns-in_err-read-clause-value
returns-in_err-read-clause-value g c =
    let is : c.from_residual-in_err-read.result ≡ Err NoMemory = search rules in
    rw is (window_lost _ _ _ _ _ _ c.args.args.now c.arg-at.ensures c.arg.ensures c.in_err-read.ensures.memory
    c.in_ok-can_give_pair.ensures)

pub returns-clause-value : goal.returns-clause-value
returns-clause-value g c =
    let done = c.in_ok-read.ensures in let there = c.in_ok-can_give_pair.ensures in
    window_given _ _ _ _ _ _ c.args.args.now _ _ _ c.arg-at.ensures c.arg.ensures done.new done.value there c.give.ensures.value
