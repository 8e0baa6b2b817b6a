use Rattle.std.proofs.Common.{◌≡◌, ◌∙◌, sym, rules}
use Rattle.std.proofs.lemmas.Result.{err_from_is_err_and}
use Rattle.glk_replies.specs.Parts.{numbers_in}
use Rattle.glk_text_calls.proofs.Cases.{case_count, case_fits, case_unread, case_refused, case_wanted, case_ends}
use Rattle.glk_text_calls.proofs.characters.buffer_to_case.Goals as goal

pub returns-in_err-can_read-clause-value : goal.returns-in_err-can_read-clause-value
returns-in_err-can_read-clause-value g c =
    let p = err_from_is_err_and c.from_residual.result c.from_residual.ensures.1 in
    rw (p.1, p.2)
    (case_unread _ _ _ _ _ _ c.buffer_of-places.ensures.value _ _ c.from.ensures c.in_err-can_read.ensures.value)

pub returns-in_err-can_lay-clause-value : goal.returns-in_err-can_lay-clause-value
returns-in_err-can_lay-clause-value g c =
    let p = err_from_is_err_and c.from_residual-in_err-can_lay.result c.from_residual-in_err-can_lay.ensures.1 in
    rw (p.1, p.2) (case_refused _ _ _ _ _ _ c.buffer_of-places.ensures.value _
    c.from.ensures c.in_ok-can_read.ensures.value _ c.in_err-can_lay.ensures.value)

pub returns-in_err-chars-clause-value : goal.returns-in_err-chars-clause-value
returns-in_err-chars-clause-value g c =
    let p = err_from_is_err_and c.from_residual-in_err-chars.result c.from_residual-in_err-chars.ensures.1 in
    rw (p.1, p.2) (case_wanted _ _ _ _ _ _ c.buffer_of-places.ensures.value _
    c.from.ensures c.in_ok-can_read.ensures.value c.in_ok-can_lay.ensures.value _ c.in_err-chars.ensures.memory)

pub returns-clause-value : goal.returns-clause-value
returns-clause-value g c =
    let shown : c.as_slice.result.now ≡ c.in_ok-chars.chars = search rules in
    let read : c.as_slice.result.now
    ≡ numbers_in 4 c.memory.result.now c.arg.result c.buffer_of-places.result.count =
    ◌∙◌ {c = numbers_in 4 c.memory.result.now c.arg.result c.buffer_of-places.result.count} shown
    c.in_ok-chars.ensures.value in
    case_ends c.args.world.now c.args.state.now.flat c.args.first c.args.others c.args.args.now
    c.buffer_of-places.result c.buffer_of-places.ensures.value _ c.from.ensures c.in_ok-can_read.ensures.value
    c.in_ok-can_lay.ensures.value c.memory.result.now c.as_slice.result.now c.recase.result
    c.arg.result c.arg-2.result c.memory.ensures.value read c.recase.ensures
    (search rules) (search rules)

pub returns-clause-fits : goal.returns-clause-fits
returns-clause-fits g c =
    let shown : c.as_slice.result.now ≡ c.in_ok-chars.chars = search rules in
    let read : c.as_slice.result.now
    ≡ numbers_in 4 c.memory.result.now c.arg.result c.buffer_of-places.result.count =
    ◌∙◌ {c = numbers_in 4 c.memory.result.now c.arg.result c.buffer_of-places.result.count} shown
    c.in_ok-chars.ensures.value in
    case_fits c.args.state.now.flat c.arg-2.result c.buffer_of-places.result c.args.first c.args.others 4 c.arg.result
    c.memory.result.now c.as_slice.result.now read c.recase.result
    c.buffer_of-places.ensures.width c.in_ok-can_lay.ensures.value c.recase.ensures

pub recase-requires-clause-count : goal.recase-requires-clause-count
recase-requires-clause-count g c =
    let shown : c.as_slice.result.now ≡ c.in_ok-chars.chars = search rules in
    let read : c.as_slice.result.now
    ≡ numbers_in 4 c.memory.result.now c.arg.result c.buffer_of-places.result.count =
    ◌∙◌ {c = numbers_in 4 c.memory.result.now c.arg.result c.buffer_of-places.result.count} shown
    c.in_ok-chars.ensures.value in
    sym (case_count 4 c.arg.result c.buffer_of-places.result.count c.memory.result.now c.as_slice.result.now
    read)
