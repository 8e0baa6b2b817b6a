use Rattle.std.proofs.Common.{Ok, Err, refl}
use Rattle.std.proofs.lemmas.Result.{err_from_is_err_and}
use Rattle.gx_outside.specs.Shelves.{load_file, loaded}
use Rattle.gx_outside.specs.declared.devices.Load.TheVariants.{Missing, TooLong, Found}
use Rattle.gx_words.specs.Constants.{ceiling}
use Rattle.gx_session.proofs.Calling.{called-one}
use Rattle.gx_play.proofs.Outcomes.{story_in_file}
use Rattle.gx_play.proofs.Loads.{loads-refused, loads-missing, loads-long-story, loads-story, loads-no-story}
use Rattle.gx_play.proofs.loading.load_story.Goals as goal

pub returns-in_err-load-clause-value : goal.returns-in_err-load-clause-value
returns-in_err-load-clause-value g c =
    let p = err_from_is_err_and c.from_residual.result c.from_residual.ensures.1 in
    rw (p.1, p.2)
    (called-one g.F.Shelf.called c.args.shelf.now c.load.new.self
    (load_file c.args.name.now ceiling, Err c.in_err-load.field-0.0) _ c.in_err-load.ensures
    (loads-refused ceiling c.args.name.now (g.F.Shelf.seen c.args.shelf.now) (g.F.Shelf.seen c.load.new.self)
    story_in_file c.in_err-load.field-0.0 (g.met.F.Shelf.called_so _ _ _ c.in_err-load.ensures)))

pub returns-in-Missing-clause-value : goal.returns-in-Missing-clause-value
returns-in-Missing-clause-value g c =
    let does = rw c.in-Missing.is at c.in_ok-load.ensures in
    called-one g.F.Shelf.called c.args.shelf.now c.load.new.self
    (load_file c.args.name.now ceiling, Ok (loaded Missing)) _ does
    (loads-missing ceiling c.args.name.now (g.F.Shelf.seen c.args.shelf.now)
    (g.F.Shelf.seen c.load.new.self) story_in_file refl (g.met.F.Shelf.called_so _ _ _ does))

pub returns-in-TooLong-clause-value : goal.returns-in-TooLong-clause-value
returns-in-TooLong-clause-value g c =
    let does = rw c.in-TooLong.is at c.in_ok-load.ensures in
    rw c.number.ensures.value
    (called-one g.F.Shelf.called c.args.shelf.now c.load.new.self
    (load_file c.args.name.now ceiling, Ok (loaded TooLong)) _ does
    (loads-long-story c.args.name.now (g.F.Shelf.seen c.args.shelf.now) (g.F.Shelf.seen c.load.new.self)
    (g.met.F.Shelf.called_so _ _ _ does)))

pub returns-in_err-read-in-Found-clause-value : goal.returns-in_err-read-in-Found-clause-value
returns-in_err-read-in-Found-clause-value g c =
    let p = err_from_is_err_and c.from_residual-in_err-read-in-Found.result
    c.from_residual-in_err-read-in-Found.ensures.1 in
    let does = rw c.in-Found.is at c.in_ok-load.ensures in
    rw (p.1, p.2)
    (called-one g.F.Shelf.called c.args.shelf.now c.load.new.self
    (load_file c.args.name.now ceiling, Ok (loaded (Found c.in-Found.bytes))) _ does
    (loads-no-story c.args.name.now (g.F.Shelf.seen c.args.shelf.now) (g.F.Shelf.seen c.load.new.self)
    c.in-Found.bytes (g.met.F.Shelf.called_so _ _ _ does) c.in_err-read-in-Found.field-0.0
    (rw c.as_slice.ensures at c.in_err-read-in-Found.ensures.value.0)))

pub returns-in_ok-read-in-Found-clause-value : goal.returns-in_ok-read-in-Found-clause-value
returns-in_ok-read-in-Found-clause-value g c =
    let does = rw c.in-Found.is at c.in_ok-load.ensures in
    called-one g.F.Shelf.called c.args.shelf.now c.load.new.self
    (load_file c.args.name.now ceiling, Ok (loaded (Found c.in-Found.bytes))) _ does
    (loads-story c.args.name.now (g.F.Shelf.seen c.args.shelf.now) (g.F.Shelf.seen c.load.new.self) c.in-Found.bytes
    (g.met.F.Shelf.called_so _ _ _ does) c.in_ok-read-in-Found.field-0
    (rw c.as_slice.ensures at c.in_ok-read-in-Found.ensures.value))
