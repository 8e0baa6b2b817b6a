use Rattle.std.proofs.Common.{Ok, Err, refl}
use Rattle.std.proofs.lemmas.Result.{err_from_is_err_and}
use Rattle.gx_outside.specs.Shelves.{load_file, loaded}
use Rattle.gx_outside.specs.declared.devices.Load.TheVariants.{Missing, TooLong, Found}
use Rattle.gx_play.proofs.Outcomes.{text_in_file}
use Rattle.gx_play.specs.Constants.{most_text}
use Rattle.gx_session.proofs.Calling.{called-one}
use Rattle.gx_play.proofs.Loads.{loads-refused, loads-missing, loads-long-text, loads-text}
use Rattle.gx_play.proofs.loading.load_text.Goals as goal

pub returns-in_err-load-clause-value : goal.returns-in_err-load-clause-value
returns-in_err-load-clause-value g c =
    let p = err_from_is_err_and c.from_residual.result c.from_residual.ensures.1 in
    rw (p.1, p.2)
    (called-one g.F.Shelf.called c.args.shelf.now c.load.new.self
    (load_file c.args.name.now most_text, Err c.in_err-load.field-0.0) _ c.in_err-load.ensures
    (loads-refused most_text c.args.name.now (g.F.Shelf.seen c.args.shelf.now) (g.F.Shelf.seen c.load.new.self)
    text_in_file c.in_err-load.field-0.0 (g.met.F.Shelf.called_so _ _ _ c.in_err-load.ensures)))

pub returns-in-Missing-clause-value : goal.returns-in-Missing-clause-value
returns-in-Missing-clause-value g c =
    let does = rw c.in-Missing.is at c.in_ok-load.ensures in
    called-one g.F.Shelf.called c.args.shelf.now c.load.new.self
    (load_file c.args.name.now most_text, Ok (loaded Missing)) _ does
    (loads-missing most_text c.args.name.now (g.F.Shelf.seen c.args.shelf.now)
    (g.F.Shelf.seen c.load.new.self) text_in_file refl (g.met.F.Shelf.called_so _ _ _ does))

pub returns-in-TooLong-clause-value : goal.returns-in-TooLong-clause-value
returns-in-TooLong-clause-value g c =
    let does = rw c.in-TooLong.is at c.in_ok-load.ensures in
    rw c.number.ensures.value
    (called-one g.F.Shelf.called c.args.shelf.now c.load.new.self
    (load_file c.args.name.now most_text, Ok (loaded TooLong)) _ does
    (loads-long-text c.args.name.now (g.F.Shelf.seen c.args.shelf.now) (g.F.Shelf.seen c.load.new.self)
    (g.met.F.Shelf.called_so _ _ _ does)))

pub returns-in-Found-clause-value : goal.returns-in-Found-clause-value
returns-in-Found-clause-value g c =
    let does = rw c.in-Found.is at c.in_ok-load.ensures in
    called-one g.F.Shelf.called c.args.shelf.now c.load.new.self
    (load_file c.args.name.now most_text, Ok (loaded (Found c.in-Found.text))) _ does
    (loads-text c.args.name.now (g.F.Shelf.seen c.args.shelf.now) (g.F.Shelf.seen c.load.new.self) c.in-Found.text
    (g.met.F.Shelf.called_so _ _ _ does))
