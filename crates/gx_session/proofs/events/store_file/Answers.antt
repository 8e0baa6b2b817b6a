use Rattle.std.proofs.Common.{get_or, Ok, Err}
use Rattle.std.proofs.lemmas.Result.{err_from_is_err_and}
use Rattle.glk_streams.specs.Stream.{stored_file}
use Rattle.glk_streams.specs.Streams.{no_stream}
use Rattle.gx_outside.specs.Shelves.{store_file, was_stored}
use Rattle.gx_session.proofs.Calling.{called-none, called-one}
use Rattle.gx_session.proofs.Storing.{store-refused, stores-none, stores-one}
use Rattle.gx_session.proofs.events.store_file.Goals as goal

pub returns-in-None-clause-stores : goal.returns-in-None-clause-stores
returns-in-None-clause-stores g c =
    called-none g.F.Shelf.called c.args.shelf.now _
    (stores-none (stored_file (get_or c.args.streams.now c.args.at no_stream)) c.in-None.ensures)

pub returns-in_err-store-in-Some-clause-stores : goal.returns-in_err-store-in-Some-clause-stores
returns-in_err-store-in-Some-clause-stores g c =
    let p = err_from_is_err_and c.from_residual.result c.from_residual.ensures.1 in
    rw (p.1, p.2)
    (called-one g.F.Shelf.called c.args.shelf.now c.store.new.self (
      store_file c.in-Some.name.now c.in-Some.bytes.now,
      Err c.in_err-store-in-Some.field-0.0,
    ) _ c.in_err-store-in-Some.ensures
    (store-refused (stored_file (get_or c.args.streams.now c.args.at no_stream))
    (c.in-Some.name.now, c.in-Some.bytes.now) c.in_err-store-in-Some.field-0.0 c.in-Some.ensures))

pub returns-in_ok-store-in-Some-clause-stores : goal.returns-in_ok-store-in-Some-clause-stores
returns-in_ok-store-in-Some-clause-stores g c =
    called-one g.F.Shelf.called c.args.shelf.now c.store.new.self
    (store_file c.in-Some.name.now c.in-Some.bytes.now, Ok was_stored) _ c.in_ok-store-in-Some.ensures
    (stores-one (stored_file (get_or c.args.streams.now c.args.at no_stream))
    (c.in-Some.name.now, c.in-Some.bytes.now) c.in-Some.ensures)
