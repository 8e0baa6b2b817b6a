-- A call is that of the row that was found; what it comes to says what waits, what was looked at, and what it takes.
use Rattle.glk_dispatch.specs.Calls.{IsGrowing}
use Rattle.glk_dispatch.proofs.Asking.{turn_asks, turn_looks}
use Rattle.glk_dispatch.proofs.Outcomes.{wants_for}
use Rattle.glk_dispatch.proofs.Ready.{called}
use Rattle.std.specs.Option.{option_map}
use Rattle.glk_dispatch.proofs.calls.call.Goals as goal

pub returns-clause-value : goal.returns-clause-value
returns-clause-value g c =
    called (option_map (λ row. row.now) c.row_of-found.result) c.call_found.result c.args.world.now
    c.call_found.new.world c.args.state.now.flat c.args.room c.args.selector c.args.args.now c.row_of-found.ensures.row
    c.call_found.ensures.value

pub returns-clause-asks : goal.returns-clause-asks
returns-clause-asks g c =
    let f = c.args.state.now.flat in
    turn_asks (IsGrowing c.args.world.now.scene f c.args.selector c.args.args.now) c.call_found.result
    c.args.world.now c.call_found.new.world f c.args.room c.args.selector c.args.args.now
    (called (option_map (λ row. row.now) c.row_of-found.result) c.call_found.result c.args.world.now
    c.call_found.new.world f c.args.room c.args.selector c.args.args.now c.row_of-found.ensures.row
    c.call_found.ensures.value)

pub returns-clause-looked : goal.returns-clause-looked
returns-clause-looked g c =
    let f = c.args.state.now.flat in
    turn_looks (IsGrowing c.args.world.now.scene f c.args.selector c.args.args.now) c.call_found.result
    c.args.world.now c.call_found.new.world f c.args.room c.args.selector c.args.args.now
    (called (option_map (λ row. row.now) c.row_of-found.result) c.call_found.result c.args.world.now
    c.call_found.new.world f c.args.room c.args.selector c.args.args.now c.row_of-found.ensures.row
    c.call_found.ensures.value)

pub returns-clause-memory : goal.returns-clause-memory
returns-clause-memory g c =
    wants_for c.call_found.result c.args.world.now c.call_found.new.world c.args.state.now.flat c.args.room
    c.args.selector c.args.args.now
    (called (option_map (λ row. row.now) c.row_of-found.result) c.call_found.result c.args.world.now
    c.call_found.new.world c.args.state.now.flat c.args.room c.args.selector c.args.args.now
    c.row_of-found.ensures.row c.call_found.ensures.value)
