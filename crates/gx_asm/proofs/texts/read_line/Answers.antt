-- a line without a blank is a name alone
use Rattle.std.proofs.Common.{refl, ◌∙◌}
use Rattle.std.proofs.lemmas.Result.{err_from_is_err_and}
use Rattle.gx_asm.proofs.Reading.{line_written, name_counted}
use Rattle.gx_asm.proofs.ReadingTurns.{line_as, line_there, line_unnamed, line_alone, words_counted}
use Rattle.gx_asm.proofs.texts.read_line.Goals as goal

pub returns-in_err-place-in-Some-clause-value : goal.returns-in_err-place-in-Some-clause-value
returns-in_err-place-in-Some-clause-value c =
    let p = err_from_is_err_and c.from_residual.result c.from_residual.ensures.1 in
    rw (p.1, p.2)
    (line_unnamed _ _ _ _ c.in_err-place-in-Some.field-0.0 c.in-Some.ensures.found
    (words_counted _ c.in-Some.words.now c.count_blanks.ensures) c.in_err-place-in-Some.ensures.value)

pub read_operands-requires-clause-count : goal.read_operands-requires-clause-count
read_operands-requires-clause-count c =
    words_counted _ c.in-Some.words.now c.count_blanks.ensures
    ∙ name_counted c.in-Some.name.now _ _ c.in_ok-place-in-Some.ensures.value

pub returns-in_err-place-in-None-clause-value : goal.returns-in_err-place-in-None-clause-value
returns-in_err-place-in-None-clause-value c =
    let p = err_from_is_err_and c.from_residual-in_err-place-in-None.result
    c.from_residual-in_err-place-in-None.ensures.1 in
    rw (p.1, p.2) (line_unnamed _ _ _ _ c.in_err-place-in-None.field-0.0 c.in-None.ensures.missing refl
    c.in_err-place-in-None.ensures.value)

pub returns-in_ok-place-in-Some-clause-value : goal.returns-in_ok-place-in-Some-clause-value
returns-in_ok-place-in-Some-clause-value c =
    line_as c.read_operands.result _ _ _ _ _ c.in-Some.ensures.found
    (words_counted _ c.in-Some.words.now c.count_blanks.ensures) c.in_ok-place-in-Some.ensures.value
    c.read_operands.ensures.value c.read_operands.ensures.place

pub returns-in_ok-place-in-Some-clause-whole : goal.returns-in_ok-place-in-Some-clause-whole
returns-in_ok-place-in-Some-clause-whole c =
    line_there c.read_operands.result c.args.line.now (returns-in_ok-place-in-Some-clause-value c)

pub returns-in_ok-place-in-None-clause-value : goal.returns-in_ok-place-in-None-clause-value
returns-in_ok-place-in-None-clause-value c =
    line_alone _ _ c.new.result.items c.new-in-None.result.items c.in-None.ensures.missing
    c.in_ok-place-in-None.ensures.value c.new.ensures c.new-in-None.ensures

pub returns-in_ok-place-in-None-clause-whole : goal.returns-in_ok-place-in-None-clause-whole
returns-in_ok-place-in-None-clause-whole c =
    (line_written c.args.line.now _ (returns-in_ok-place-in-None-clause-value c)).0
