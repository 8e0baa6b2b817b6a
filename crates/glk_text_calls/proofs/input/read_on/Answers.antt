use Rattle.std.proofs.Common.{◌≡◌, ◌≤◌, sym, true, false, rules, Some, None, Ok}
use Rattle.std.proofs.lemmas.Result.{err_from_is_err_and}
use Rattle.glk_streams.specs.Stream as one
use Rattle.glk_streams.specs.Streams as streams
use Rattle.glk_text_calls.proofs.Reading.{next_char, ends_line, begins, goes, counted_all, kept_all, counted_none}
use Rattle.glk_text_calls.proofs.Reading.{kept_none, counted_stop, kept_stop, reads_fail}
use Rattle.glk_text_calls.proofs.input.read_on.Goals as goal

pub returns-in_err-c-clause-value : goal.returns-in_err-c-clause-value
returns-in_err-c-clause-value g c =
    let p = err_from_is_err_and c.from_residual.result c.from_residual.ensures.1 in
    let s = streams.stream c.args.all.now c.args.stream in
    rw (p.1, p.2) (
      reads_fail c.args.most c.args.stops c.args.state.now.flat c.args.places s c.loop-i.i c.loop-i.position
          c.loop-i.chars c.loop-i.invariant _ c.loop-i-test.true c.in_err-c.ensures.value.0,
      c.in_err-c.ensures.value.1,
    )

pub returns-in_default-clause-value : goal.returns-in_default-clause-value
returns-in_default-clause-value g c =
    let s = streams.stream c.args.all.now c.args.stream in
    let none : next_char c.args.state.now.flat c.args.places s c.loop-i.i c.loop-i.position ≡ Ok None = search rules in
    counted_none c.args.most c.args.stops c.args.state.now.flat c.args.places s c.loop-i.i c.loop-i.position
    c.loop-i.chars c.loop-i.invariant c.loop-i-test.true none

pub returns-in_default-clause-chars : goal.returns-in_default-clause-chars
returns-in_default-clause-chars g c =
    let s = streams.stream c.args.all.now c.args.stream in
    let none : next_char c.args.state.now.flat c.args.places s c.loop-i.i c.loop-i.position ≡ Ok None = search rules in
    kept_none c.args.most c.args.stops c.args.state.now.flat c.args.places s c.loop-i.i c.loop-i.position c.loop-i.chars
    c.loop-i.invariant c.loop-i-test.true none

pub returns-then-ends_line-clause-value : goal.returns-then-ends_line-clause-value
returns-then-ends_line-clause-value g c =
    let s = streams.stream c.args.all.now c.args.stream in
    let some : next_char c.args.state.now.flat c.args.places s c.loop-i.i c.loop-i.position
    ≡ Ok (Some (c.in-Some.c, c.in-Some.next)) = search rules in
    let ends : ends_line c.args.stops c.in-Some.c ≡ true =
    sym {b = ends_line c.args.stops c.in-Some.c} c.if-ends_line.ensures in
    counted_stop c.args.most c.args.stops c.args.state.now.flat c.args.places s c.loop-i.i c.loop-i.position
    c.loop-i.chars c.loop-i.invariant c.in-Some.c c.in-Some.next c.kept-chars.result c.loop-i-test.true some ends
    c.kept-chars.ensures

pub returns-then-ends_line-clause-chars : goal.returns-then-ends_line-clause-chars
returns-then-ends_line-clause-chars g c =
    let s = streams.stream c.args.all.now c.args.stream in
    let some : next_char c.args.state.now.flat c.args.places s c.loop-i.i c.loop-i.position
    ≡ Ok (Some (c.in-Some.c, c.in-Some.next)) = search rules in
    let ends : ends_line c.args.stops c.in-Some.c ≡ true =
    sym {b = ends_line c.args.stops c.in-Some.c} c.if-ends_line.ensures in
    kept_stop c.args.most c.args.stops c.args.state.now.flat c.args.places s c.loop-i.i c.loop-i.position c.loop-i.chars
    c.loop-i.invariant c.in-Some.c c.in-Some.next c.kept-chars.result c.loop-i-test.true some ends
    c.kept-chars.ensures

pub returns-clause-value : goal.returns-clause-value
returns-clause-value g c =
    let s = streams.stream c.args.all.now c.args.stream in
    counted_all c.args.most c.args.stops c.args.state.now.flat c.args.places s c.loop-i.i c.loop-i.position
    c.loop-i.chars c.loop-i.invariant c.loop-i-test.false c.loop-i.auto.i-end

pub returns-clause-chars : goal.returns-clause-chars
returns-clause-chars g c =
    let s = streams.stream c.args.all.now c.args.stream in
    kept_all c.args.most c.args.stops c.args.state.now.flat c.args.places s c.loop-i.i c.loop-i.position
    c.loop-i.chars c.loop-i.invariant c.loop-i-test.false c.loop-i.auto.i-end

pub loop-i-preserved : goal.loop-i-preserved
loop-i-preserved g c =
    let s = streams.stream c.args.all.now c.args.stream in
    let some : next_char c.args.state.now.flat c.args.places s c.loop-i.i c.loop-i.position
    ≡ Ok (Some (c.in-Some.c, c.in-Some.next)) = search rules in
    let on : ends_line c.args.stops c.in-Some.c ≡ false =
    sym {b = ends_line c.args.stops c.in-Some.c} c.if-ends_line.ensures in
    let within : c.in-Some.next ≤ one.end_position s = search rules in
    goes c.args.most c.args.stops c.args.state.now.flat c.args.places s c.loop-i.i c.loop-i.position
    c.loop-i.chars c.loop-i.invariant c.in-Some.c c.in-Some.next c.kept-chars.result c.loop-i-test.true some on
    c.kept-chars.ensures within

pub loop-i-init : goal.loop-i-init
loop-i-init g c =
    let s = streams.stream c.args.all.now c.args.stream in
    begins c.args.most c.args.stops c.args.state.now.flat c.args.places s c.position-position.result c.new.result
    c.position-position.ensures.value c.new.ensures c.position-position.ensures.within
