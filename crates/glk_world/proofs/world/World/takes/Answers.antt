use Rattle.std.proofs.Common.{ℕ, ◌≡◌, not, IsTrue, subst}
use Rattle.glk_world.specs.World.{FlatWorld}
use Rattle.glk_world.specs.Putting.{takes_chars, places_of}
use Rattle.glk_world.specs.Kept.{flat_of}
use Rattle.glk_world.proofs.Unseen.{not_so, unseen_places}
use Rattle.glk_world.proofs.world.World.takes.Goals as goal

pub returns-then-win-eq0-clause-places : goal.returns-then-win-eq0-clause-places
returns-then-win-eq0-clause-places c =
    let P : FlatWorld → Type 0 = λ w. IsTrue (not (takes_chars w.scene c.args.stream)) → (count : ℕ)
    → (places_of w.scene c.args.stream count).count ≡ 0 in
    subst P c.self.view_is (λ none count. unseen_places (flat_of c.self.inside).scene c.args.stream count
    c.self.invariant.links.first (not_so (takes_chars (flat_of c.self.inside).scene c.args.stream) none))

pub returns-else-entry-eq-TEXT_GRID-clause-places : goal.returns-else-entry-eq-TEXT_GRID-clause-places
returns-else-entry-eq-TEXT_GRID-clause-places c =
    let P : FlatWorld → Type 0 = λ w. IsTrue (not (takes_chars w.scene c.args.stream)) → (count : ℕ)
    → (places_of w.scene c.args.stream count).count ≡ 0 in
    subst P c.self.view_is (λ none count. unseen_places (flat_of c.self.inside).scene c.args.stream count
    c.self.invariant.links.first (not_so (takes_chars (flat_of c.self.inside).scene c.args.stream) none))
