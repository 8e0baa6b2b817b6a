use Rattle.std.proofs.Common.{ℕ, List, ap, ◌∙◌}
use Rattle.std.specs.FinMap.{insert}
use Rattle.gx_outside.specs.Fakes.{HeldShelf, FilesByName, by_name, files_of}
use Rattle.gx_outside.proofs.ByName.{by_name-insert, files_of-insert}
use Rattle.gx_outside.proofs.mem_shelf.MemShelf.put.Goals as goal

pub returns-clause-ok : goal.returns-clause-ok
returns-clause-ok c =
    ap (λ (files : FilesByName). record { files = files; calls = c.self.inside.calls })
    (by_name-insert _ _ c.self.inside.files c.insert.new.self c.in_ok-insert.ensures.updates
    ∙ ap (λ (name : List ℕ). insert (by_name c.self.inside.files) name c.in_ok-bytes.bytes) c.in_ok-name.ensures.ok
    ∙ ap (λ (bytes : List ℕ). insert (by_name c.self.inside.files) c.args.name.now bytes) c.in_ok-bytes.ensures.value)
    ∙ ap (λ (s : HeldShelf). record s { files = insert s.files c.args.name.now c.args.bytes.now }) c.self.view_is

pub returns-clause-stored : goal.returns-clause-stored
returns-clause-stored c = ap (λ (s : HeldShelf). files_of s.files) (returns-clause-ok c)
    ∙ files_of-insert c.args.self.now.files c.args.name.now c.args.bytes.now
