use Rattle.std.proofs.Common.{[], ◌∷◌, Ok, refl, subst, sym}
use Rattle.gx_outside.specs.Shelves.{load_file, store_file, remove_file, find_file, loaded, was_stored, was_there}
use Rattle.glk_replies.specs.declared.Given.TheVariants as given
use Rattle.gx_session.specs.declared.questions.Question.{Question}
use Rattle.gx_session.specs.Constants.{most_loaded}
use Rattle.gx_session.specs.Questions.{AsksOnce}
use Rattle.gx_session.proofs.Calling.{called-one}
use Rattle.gx_session.proofs.questions.Question.ask.Goals as goal

pub returns-in-Ok-clause-asks : goal.returns-in-Ok-clause-asks
returns-in-Ok-clause-asks g c =
    called-one g.F.Shelf.called c.args.shelf.now c.load.new.self
    (load_file c.in-Load.name most_loaded, Ok (loaded c.in-Ok.file)) _ (rw c.as_str.ensures at c.in-Ok.ensures)
    (subst (λ (q : Question). AsksOnce q ((load_file c.in-Load.name most_loaded, Ok (loaded c.in-Ok.file)) ∷ [])
    (Ok (given.Loaded c.in-Ok.file))) (sym c.in-Load.is) (loaded c.in-Ok.file, refl, refl))

pub returns-in-Ok-store-clause-asks : goal.returns-in-Ok-store-clause-asks
returns-in-Ok-store-clause-asks g c =
    called-one g.F.Shelf.called c.args.shelf.now c.store.new.self (
      store_file c.in-Store.name c.in-Store.bytes,
      Ok was_stored,
    ) _ (rw (c.as_str-in-Store.ensures, c.as_slice.ensures) at c.in-Ok-store.ensures)
    (subst (λ (q : Question). AsksOnce q ((store_file c.in-Store.name c.in-Store.bytes, Ok was_stored) ∷ [])
    (Ok given.Stored)) (sym c.in-Store.is) (was_stored, refl, refl))

pub returns-in-Ok-remove-clause-asks : goal.returns-in-Ok-remove-clause-asks
returns-in-Ok-remove-clause-asks g c =
    called-one g.F.Shelf.called c.args.shelf.now c.remove.new.self (
      remove_file c.in-Remove.name,
      Ok (was_there c.in-Ok-remove.was),
    ) _ (rw c.as_str-in-Remove.ensures at c.in-Ok-remove.ensures)
    (subst (λ (q : Question). AsksOnce q ((remove_file c.in-Remove.name, Ok (was_there c.in-Ok-remove.was)) ∷ [])
    (Ok (given.Was c.in-Ok-remove.was))) (sym c.in-Remove.is) (was_there c.in-Ok-remove.was, refl, refl))

pub returns-in-Ok-has-clause-asks : goal.returns-in-Ok-has-clause-asks
returns-in-Ok-has-clause-asks g c =
    called-one g.F.Shelf.called c.args.shelf.now c.has.new.self
    (find_file c.in-Has.name, Ok (was_there c.in-Ok-has.was)) _ (rw c.as_str-in-Has.ensures at c.in-Ok-has.ensures)
    (subst (λ (q : Question). AsksOnce q ((find_file c.in-Has.name, Ok (was_there c.in-Ok-has.was)) ∷ [])
    (Ok (given.Was c.in-Ok-has.was))) (sym c.in-Has.is) (was_there c.in-Ok-has.was, refl, refl))
