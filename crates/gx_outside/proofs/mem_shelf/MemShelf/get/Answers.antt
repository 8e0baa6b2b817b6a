use Rattle.std.proofs.Common.{ℕ, List, Some, sym, ap, ◌∙◌}
use Rattle.std.specs.FinMap.{get}
use Rattle.gx_outside.specs.Fakes.{HeldShelf}
use Rattle.gx_outside.proofs.ByName.{get-by_name}
use Rattle.gx_outside.proofs.mem_shelf.MemShelf.get.Goals as goal

pub returns-in-None : goal.returns-in-None
returns-in-None c =
    c.in-None.ensures.value ∙ sym (get-by_name c.self.inside.files c.args.name.now)
    ∙ ap (λ (s : HeldShelf). get s.files c.args.name.now) c.self.view_is

pub returns-in-Some : goal.returns-in-Some
returns-in-Some c =
    ap (λ (bytes : List ℕ). Some bytes) c.as_slice.ensures ∙ c.in-Some.ensures.value
    ∙ sym (get-by_name c.self.inside.files c.args.name.now)
    ∙ ap (λ (s : HeldShelf). get s.files c.args.name.now) c.self.view_is
