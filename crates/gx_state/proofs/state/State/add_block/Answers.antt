use Rattle.std.proofs.Common.{◌+◌, ◌≤◌, length, sym, subst}
use Rattle.gx_state.specs.Flat.{HeldState}
use Rattle.gx_state.proofs.Space.{heap_entered}
use Rattle.gx_state.proofs.state.State.add_block.Goals as goal

pub invariant_of-self : goal.invariant_of-self
invariant_of-self g c =
    let held = c.self.invariant.sound in
    let block = c.requires.block in
    let least = subst (λ (h : HeldState). h.flat.story.header.endmem ≤ c.args.end) (sym c.self.view_is) block.endmem in
    let there = subst (λ (h : HeldState). c.args.at + c.args.size ≤ length h.flat.memory)
    (sym c.self.view_is) block.there in
    record {
      sound = record {
        story = held.story;
        size = held.size;
        endmem = held.endmem;
        rom = held.rom;
        limit = held.limit;
        height = held.height;
        aligned = held.aligned;
        framed = held.framed;
        heap = heap_entered _ _ _ _ _ _ _ held.heap c.add.ensures.heap c.add.ensures.sound
            (c.add.ensures.within _ held.heap.within there) block.whole least;
      };
      frame = c.self.invariant.frame;
    }
