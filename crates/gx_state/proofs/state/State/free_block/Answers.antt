use Rattle.std.proofs.Common.{◌≤◌, arith}
use Rattle.gx_state.proofs.Space.{freed_last, freed_other}
use Rattle.gx_state.proofs.state.State.free_block.Goals as goal

pub invariant_of-self : goal.invariant_of-self
invariant_of-self g c =
    let held = c.self.invariant.sound in
    let below : c.self.inside.story.value.header.ramstart ≤ c.self.inside.story.value.header.endmem =
    omega (arith, held.story.ramstart_first, held.story.extstart_first) in
    let ended = freed_last c.self.inside.memory c.cut.new.self _ c.self.inside.story.value.header.ramstart
    c.self.inside.story.value.header.endmem c.args.at c.start-start.result c.self.inside.heap c.free.new.self
    c.in-Some.last held.size held.rom below held.heap c.in-Some.ensures.change c.if-last.true c.free.ensures.sound
    c.start-start.ensures c.cut.ensures.value c.cut.ensures.size in
    record {
      sound = record {
        story = held.story;
        size = ended.size;
        endmem = ended.above;
        rom = ended.rom_kept;
        limit = held.limit;
        height = held.height;
        aligned = held.aligned;
        framed = held.framed;
        heap = ended.fits;
      };
      frame = c.self.invariant.frame;
    }

pub invariant_of-self-else-last : goal.invariant_of-self-else-last
invariant_of-self-else-last g c =
    let held = c.self.invariant.sound in
    record {
      sound = record {
        story = held.story;
        size = held.size;
        endmem = held.endmem;
        rom = held.rom;
        limit = held.limit;
        height = held.height;
        aligned = held.aligned;
        framed = held.framed;
        heap = freed_other _ _ c.args.at c.self.inside.heap c.free.new.self c.in-Some.last held.heap
            c.in-Some.ensures.change c.if-last.false c.free.ensures.sound (c.free.ensures.within _ held.heap.within);
      };
      frame = c.self.invariant.frame;
    }
