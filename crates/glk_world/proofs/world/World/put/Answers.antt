use Rattle.std.proofs.Common.{◌≡◌, ◌+◌, not, length, subst, IsTrue, OnErr, OnOk, rules}
use Rattle.glk_world.specs.World.{FlatWorld, after}
use Rattle.glk_world.specs.Putting.{put_along, put_of, put_grows, takes_chars}
use Rattle.glk_world.specs.Kept.{flat_of}
use Rattle.glk_world.proofs.Alone.{err_by, on_ok_by}
use Rattle.glk_world.proofs.Ranks.{fuel_is_enough}
use Rattle.glk_world.proofs.Unseen.{takes_grown, stays_unseen}
use Rattle.glk_world.proofs.world.World.put.Goals as goal

pub returns-clause-whole : goal.returns-clause-whole
returns-clause-whole c = λ more. let P : FlatWorld → Type 0 =
    λ w. put_along (length w.scene.streams + more) w.scene c.args.stream c.args.c
    ≡ put_of w.scene c.args.stream c.args.c in
    let ranked = c.self.invariant.links.ranked in
    subst P c.self.view_is (fuel_is_enough (flat_of c.self.inside).scene ranked.0 ranked.1 c.args.stream c.args.c more)

pub returns-clause-takes : goal.returns-clause-takes
returns-clause-takes c =
    let P : FlatWorld → Type 0 = λ w.
    IsTrue (put_grows w.scene c.args.stream c.args.c) → IsTrue (takes_chars w.scene c.args.stream) in
    let takes = subst P c.self.view_is
    (takes_grown (flat_of c.self.inside).scene c.args.stream c.args.c c.self.invariant.links.first) in
    let grows : OnErr c.put_along.result (IsTrue (put_grows c.args.self.now.scene c.args.stream c.args.c)) =
    search rules in
    err_by c.put_along.result grows takes

pub returns-clause-stays : goal.returns-clause-stays
returns-clause-stays c =
    let P : FlatWorld → Type 0 = λ w. IsTrue (not (takes_chars w.scene c.args.stream))
    → IsTrue (not (takes_chars (put_of w.scene c.args.stream c.args.c).0 c.args.stream)) in
    let stays = subst P c.self.view_is
    (stays_unseen (flat_of c.self.inside).scene c.args.stream c.args.c c.self.invariant.links.first) in
    let ok : OnOk c.put_along.result
    (c.put_along.new.self ≡ after c.args.self.now (put_of c.args.self.now.scene c.args.stream c.args.c)) =
    search rules in
    on_ok_by c.put_along.result ok (λ made none. rw made (stays none))
