use Rattle.glk_world.specs.Kept.{flat_of}
use Rattle.glk_world.proofs.Kept.{streams_with}
use Rattle.glk_world.proofs.Links.{linked_changed, as_put}
use Rattle.glk_world.proofs.Alone.{text_put, text_grows, plain_there, plain_stays, window_stays, place_stays, on_err}
use Rattle.glk_world.proofs.Alone.{on_ok_by, counted_once}
use Rattle.glk_world.proofs.Names.{named_changed}
use Rattle.glk_world.proofs.world.World.put_found.Goals as goal

pub invariant_of-self : goal.invariant_of-self
invariant_of-self c =
    let text = rw (← c.self.view_is) at c.requires.text in
    let there = plain_there (flat_of c.self.inside).scene c.args.stream text in
    record {
      windows = c.self.invariant.windows;
      streams = rw (counted_once _ _ _ c.args.c c.count.ensures) (streams_with _ _ _ c.self.invariant.streams);
      references = c.self.invariant.references;
      above = c.self.invariant.above;
      first = c.self.invariant.first;
      links = rw (counted_once _ _ _ c.args.c c.count.ensures) (linked_changed _ _ _ _ _ there (as_put _ _) c.self.invariant.links);
      named = rw (counted_once _ _ _ c.args.c c.count.ensures) (named_changed _ _ _ _ there (as_put _ _) c.self.invariant.named);
    }

pub returns-clause-ok : goal.returns-clause-ok
returns-clause-ok c =
    let text = rw (← c.self.view_is) at c.requires.text in
    let window = rw (← c.self.view_is) at c.requires.window in
    on_ok_by c.buffer_put.result c.buffer_put.ensures (λ shown.
    rw (← c.self.view_is, shown, counted_once _ _ _ c.args.c c.count.ensures, c.show.ensures, window)
    (text_put (flat_of c.self.inside) c.args.stream c.args.c c.self.invariant.links.first text))

pub returns-clause-memory : goal.returns-clause-memory
returns-clause-memory c =
    on_err c.buffer_put.result (text_grows c.args.self.now.scene c.args.stream c.args.c c.requires.text)

pub returns-clause-text : goal.returns-clause-text
returns-clause-text c =
    let text = rw (← c.self.view_is) at c.requires.text in
    on_ok_by c.buffer_put.result c.buffer_put.ensures (λ shown.
    rw (shown, counted_once _ _ _ c.args.c c.count.ensures)
    (plain_stays (flat_of c.self.inside).scene c.args.stream c.args.c c.args.win c.show.result text))

pub returns-clause-place : goal.returns-clause-place
returns-clause-place c =
    let place = rw (← c.self.view_is) at c.requires.place in
    on_ok_by c.buffer_put.result c.buffer_put.ensures (λ shown.
    rw (shown, counted_once _ _ _ c.args.c c.count.ensures)
    (place_stays (flat_of c.self.inside).scene c.args.stream c.args.c c.args.win c.show.result c.args.at place))

pub returns-clause-window : goal.returns-clause-window
returns-clause-window c =
    let text = rw (← c.self.view_is) at c.requires.text in
    let window = rw (← c.self.view_is) at c.requires.window in
    on_ok_by c.buffer_put.result c.buffer_put.ensures (λ shown.
    rw (shown, counted_once _ _ _ c.args.c c.count.ensures)
    (window_stays (flat_of c.self.inside).scene c.args.stream c.args.c c.args.win c.show.result text window))
