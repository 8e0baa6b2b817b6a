use Rattle.std.proofs.Common.{arith}
use Rattle.glk_text.proofs.Reading.{reading_some, reading_none, reading_within}
use Rattle.glk_text.proofs.utf8.read_utf8.Goals as goal

pub overflow_add-result : goal.overflow_add-result
overflow_add-result c =
    let within =
    reading_within c.args.bytes.now c.args.at c.decode.result.0 c.decode.result.1 c.decode.ensures.char
    c.decode.ensures.size (omega arith) in
    omega arith

pub returns-in-Some-default-clause-character : goal.returns-in-Some-default-clause-character
returns-in-Some-default-clause-character c =
    reading_some c.args.bytes.now c.args.at c.decode.result.0 c.decode.result.1 c.decode.ensures.char
    c.decode.ensures.size c.in-Some-default.c c.from.result c.in-Some-default.is-0 c.from.ensures

pub returns-in-None-default-clause-character : goal.returns-in-None-default-clause-character
returns-in-None-default-clause-character c =
    reading_none c.args.bytes.now c.args.at c.decode.result.0 c.decode.result.1 c.decode.ensures.char
    c.decode.ensures.size c.in-None-default.is-0
