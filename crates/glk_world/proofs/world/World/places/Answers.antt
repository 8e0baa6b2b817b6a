use Rattle.std.proofs.Common.{◌≡◌, ◌+◌, length, subst}
use Rattle.glk_world.specs.World.{FlatWorld}
use Rattle.glk_world.specs.Putting.{end_along, chain_end}
use Rattle.glk_world.specs.Kept.{flat_of}
use Rattle.glk_world.proofs.Ranks.{fuel_to_end}
use Rattle.glk_world.proofs.world.World.places.Goals as goal

pub returns-then-writable-clause-whole : goal.returns-then-writable-clause-whole
returns-then-writable-clause-whole c = λ more. let P : FlatWorld → Type 0 =
    λ w. end_along (length w.scene.streams + more) w.scene c.args.stream ≡ chain_end w.scene c.args.stream in
    let there = rw (← c.self.view_is) at c.requires in
    let ranked = c.self.invariant.links.ranked in
    subst P c.self.view_is (fuel_to_end (flat_of c.self.inside).scene ranked.0 ranked.1 c.args.stream more there)

pub returns-else-writable-clause-whole : goal.returns-else-writable-clause-whole
returns-else-writable-clause-whole c = λ more. let P : FlatWorld → Type 0 =
    λ w. end_along (length w.scene.streams + more) w.scene c.args.stream ≡ chain_end w.scene c.args.stream in
    let there = rw (← c.self.view_is) at c.requires in
    let ranked = c.self.invariant.links.ranked in
    subst P c.self.view_is (fuel_to_end (flat_of c.self.inside).scene ranked.0 ranked.1 c.args.stream more there)
