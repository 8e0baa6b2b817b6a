use Rattle.std.proofs.Common.{◌≡◌, ◌+◌, false, length, subst, sym, ◌∙◌}
use Rattle.glk_world.proofs.Kept.{echoed_new}
use Rattle.glk_world.specs.World.{FlatWorld}
use Rattle.glk_world.specs.Putting.{leads_along, leads_to}
use Rattle.glk_world.specs.Kept.{flat_of}
use Rattle.glk_world.proofs.Echoes.{linked_echoed, echo_given, fuel_to_lead}
use Rattle.glk_world.proofs.Names.{named_echoed}
use Rattle.glk_world.proofs.world.World.set_echo.Goals as goal

pub invariant_of-self : goal.invariant_of-self
invariant_of-self c =
    let window = rw (← c.self.view_is) at c.requires.window in
    let echo = rw (← c.self.view_is) at c.requires.echo in
    let less = echo_given _ _ _ _ c.self.invariant.streams c.self.invariant.links echo in
    let result : leads_along c.len.result c.args.self.now.scene c.args.stream c.args.win ≡ false =
    sym c.leads_along.ensures ∙ c.if-not-leads_along.true in
    let seen = rw (← c.self.view_is) at result in
    let apart = rw c.len.ensures at seen in
    record {
      windows = rw c.set_echo.ensures (echoed_new _ _ _ _ c.self.invariant.windows);
      streams = c.self.invariant.streams;
      references = c.self.invariant.references;
      above = c.self.invariant.above;
      first = c.self.invariant.first;
      links = rw c.set_echo.ensures
          (linked_echoed (flat_of c.self.inside).scene c.args.win c.args.stream c.self.inside.next_id
          c.self.invariant.links window apart less);
      named = rw c.set_echo.ensures (named_echoed _ _ _ _ window c.self.invariant.named);
    }

pub returns-then-not-leads_along-clause-whole : goal.returns-then-not-leads_along-clause-whole
returns-then-not-leads_along-clause-whole c = λ more. let P : FlatWorld → Type 0 =
    λ w. leads_along (length w.scene.streams + more) w.scene c.args.stream c.args.win
    ≡ leads_to w.scene c.args.stream c.args.win in
    let ranked = c.self.invariant.links.ranked in
    subst P c.self.view_is (fuel_to_lead (flat_of c.self.inside).scene ranked.0 ranked.1 c.args.stream c.args.win more)

pub returns-else-not-leads_along-clause-whole : goal.returns-else-not-leads_along-clause-whole
returns-else-not-leads_along-clause-whole c = λ more. let P : FlatWorld → Type 0 =
    λ w. leads_along (length w.scene.streams + more) w.scene c.args.stream c.args.win
    ≡ leads_to w.scene c.args.stream c.args.win in
    let ranked = c.self.invariant.links.ranked in
    subst P c.self.view_is (fuel_to_lead (flat_of c.self.inside).scene ranked.0 ranked.1 c.args.stream c.args.win more)
