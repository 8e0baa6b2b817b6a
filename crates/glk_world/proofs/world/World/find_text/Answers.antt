use Rattle.std.proofs.Common.{◌≡◌, true, subst}
use Rattle.glk_world.specs.World.{FlatWorld}
use Rattle.glk_world.specs.Putting.{is_plain_text, places_of}
use Rattle.glk_world.specs.Kept.{flat_of}
use Rattle.glk_world.specs.Each.{ShowsEach}
use Rattle.glk_world.proofs.Alone.{text_places}
use Rattle.glk_world.proofs.Each.{shows_each}
use Rattle.glk_world.proofs.world.World.find_text.Goals as goal

pub returns-then-entry-eq0-clause-places : goal.returns-then-entry-eq0-clause-places
returns-then-entry-eq0-clause-places c = λ plain count. let P : FlatWorld → Type 0 =
    λ w. is_plain_text w.scene c.args.stream ≡ true → (places_of w.scene c.args.stream count).count ≡ 0 in
    subst P c.self.view_is (λ h. text_places (flat_of c.self.inside).scene c.args.stream count
    c.self.invariant.links.first h) plain

pub returns-then-entry-eq0-clause-shows : goal.returns-then-entry-eq0-clause-shows
returns-then-entry-eq0-clause-shows c = λ plain chars. let P : FlatWorld → Type 0 =
    λ w. is_plain_text w.scene c.args.stream ≡ true → ShowsEach w c.args.stream chars in
    subst P c.self.view_is (λ h. shows_each (flat_of c.self.inside) c.args.stream chars
    c.self.invariant.links.first h) plain
