use Rattle.std.proofs.Common.{◌≡◌, ◌<◌, ◌==◌, false, true, sym, ◌∙◌, arith}
use Rattle.std.proofs.lemmas.Bool.Decides.{nat_tests}
use Rattle.glk_streams.specs.Streams as streams
use Rattle.glk_world.specs.Putting.{window_of_stream}
use Rattle.glk_world.specs.Kept.{flat_of}
use Rattle.glk_world.proofs.Turns.{leads_on}
use Rattle.glk_world.proofs.world.World.+leads_along.Goals as goal

pub returns-else-window-win : goal.returns-else-window-win
returns-else-window-win t c =
    let scene = (flat_of c.self.inside).scene in
    let left = c.if-left-eq0.false in
    let some : 0 < c.args.left = omega (arith, left) in
    let there : streams.has scene.streams c.args.stream ≡ true = sym c.has.ensures ∙ c.if-not-has.false in
    let apart = c.if-window-win.false in
    let window = c.window.ensures in
    let other : (window_of_stream scene c.args.stream == c.args.win) ≡ false =
    grind (arith, nat_tests, apart, window) in
    c.leads_along.ensures ∙ rw (c.echo_of.ensures, ← c.self.view_is)
    (sym (leads_on scene c.args.left c.args.stream c.args.win some there other))
