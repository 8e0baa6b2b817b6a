-- A call by what was found: no row, a look that is refused, a call on the object 0, or what the row does.
use Rattle.std.proofs.Common.{◌≡◌, ◌∙◌, true, false, IsTrue, Ok, sym}
use Rattle.std.proofs.lemmas.Result.{err_from_is_err_and}
use Rattle.glk_dispatch.specs.Table.{row_for, is_dropped}
use Rattle.glk_dispatch.specs.Calls.{looked_at, is_on_none, nothing, gives_nothing}
use Rattle.glk_dispatch.specs.Ready.{done_by, wants_by, call_on, wants_on}
use Rattle.glk_dispatch.proofs.Ready.{ready_row, words_few}
use Rattle.glk_dispatch.proofs.Turning.{makes_turn, turn_fits, dropped_turns, look_refused}
use Rattle.glk_dispatch.proofs.calls.call_found.Goals as goal

pub returns-in_default-clause-value : goal.returns-in_default-clause-value
returns-in_default-clause-value g c =
    rw (c.in_default.is, c.answer_turn.ensures)
    (dropped_turns (IsTrue false) c.call_dropped.result c.args.world.now (is_dropped c.args.selector)
    c.call_dropped.ensures.value)

pub returns-in_default-clause-fits : goal.returns-in_default-clause-fits
returns-in_default-clause-fits g c =
    let f = c.args.state.now.flat in
    rw c.answer_turn.ensures
    (turn_fits f c.args.room c.call_dropped.result (c.call_dropped.ensures.fits f c.args.room))

pub returns-in_err-looked-clause-value : goal.returns-in_err-looked-clause-value
returns-in_err-looked-clause-value g c =
    let w = c.args.world.now.scene in
    let f = c.args.state.now.flat in
    let args = c.args.args.now in
    let looks = c.in-Some.row.now in
    let p = err_from_is_err_and c.from_residual.result c.from_residual.ensures.1 in
    rw (c.in-Some.is, p.1, p.2)
    (look_refused (IsTrue (wants_on looks (wants_by (row_for c.args.selector) w f args) args))
    c.in_err-looked.field-0.0 c.args.world.now (looked_at w looks args)
    (call_on looks (done_by (row_for c.args.selector) w f c.args.room args) w f c.args.room args)
    c.in_err-looked.ensures)

pub nothing-requires : goal.nothing-requires
nothing-requires g c = words_few c.in-Some.row.now (rw c.in-Some.is at c.requires.fits)

pub returns-then-is_on_none-clause-value : goal.returns-then-is_on_none-clause-value
returns-then-is_on_none-clause-value g c =
    let w = c.args.world.now.scene in
    let f = c.args.state.now.flat in
    let args = c.args.args.now in
    let looks = c.in-Some.row.now in
    let good : looked_at w looks args ≡ Ok tt = c.in_ok-looked.ensures in
    let none : is_on_none looks args ≡ true = sym c.is_on_none.ensures ∙ c.if-is_on_none.true in
    rw (c.in-Some.is, good, none, c.answer_turn-then-is_on_none.ensures)
    (makes_turn (IsTrue (gives_nothing looks args)) c.nothing.result c.args.world.now c.nothing.new.world
    (nothing w f c.args.room looks args) c.nothing.ensures.value)

pub returns-then-is_on_none-clause-fits : goal.returns-then-is_on_none-clause-fits
returns-then-is_on_none-clause-fits g c =
    rw c.answer_turn-then-is_on_none.ensures
    (turn_fits c.args.state.now.flat c.args.room c.nothing.result c.nothing.ensures.fits)

pub do_call-requires : goal.do_call-requires
do_call-requires g c =
    let args = c.args.args.now in
    let looks = c.in-Some.row.now in
    let good : looked_at c.args.world.now.scene looks args ≡ Ok tt = c.in_ok-looked.ensures in
    let some : is_on_none looks args ≡ false = sym c.is_on_none.ensures ∙ c.if-is_on_none.false in
    ready_row c.args.selector c.args.world.now.scene looks args (sym (rw c.in-Some.is at c.requires.row)) good some

pub returns-else-is_on_none-clause-value : goal.returns-else-is_on_none-clause-value
returns-else-is_on_none-clause-value g c =
    let args = c.args.args.now in
    let looks = c.in-Some.row.now in
    let good : looked_at c.args.world.now.scene looks args ≡ Ok tt = c.in_ok-looked.ensures in
    let some : is_on_none looks args ≡ false = sym c.is_on_none.ensures ∙ c.if-is_on_none.false in
    rw (c.in-Some.is, good, some) c.do_call.ensures.value
