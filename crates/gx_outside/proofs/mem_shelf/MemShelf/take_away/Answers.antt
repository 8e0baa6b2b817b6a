use Rattle.std.proofs.Common.{is_some, sym, ap, ◌∙◌}
use Rattle.std.specs.FinMap.{get, remove}
use Rattle.gx_outside.specs.Fakes.{HeldShelf, FilesByName, files_of}
use Rattle.gx_outside.proofs.ByName.{get-by_name, by_name-remove, files_of-remove}
use Rattle.gx_outside.proofs.mem_shelf.MemShelf.take_away.Goals as goal

pub returns-clause-was : goal.returns-clause-was
returns-clause-was c =
    c.is_some.ensures
    ∙ ap is_some
    (c.remove.ensures.value ∙ sym (get-by_name c.self.inside.files c.args.name.now)
    ∙ ap (λ (s : HeldShelf). get s.files c.args.name.now) c.self.view_is)

pub returns-clause-after : goal.returns-clause-after
returns-clause-after c =
    ap (λ (files : FilesByName). record { files = files; calls = c.self.inside.calls })
    (by_name-remove c.args.name.now c.self.inside.files c.remove.new.self c.remove.ensures.updates)
    ∙ ap (λ (s : HeldShelf). record s { files = remove s.files c.args.name.now }) c.self.view_is

pub returns-clause-removed : goal.returns-clause-removed
returns-clause-removed c = ap (λ (s : HeldShelf). files_of s.files) (returns-clause-after c)
    ∙ files_of-remove c.args.self.now.files c.args.name.now
