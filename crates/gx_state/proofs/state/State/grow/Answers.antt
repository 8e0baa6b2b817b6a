use Rattle.std.proofs.Common.{◌≤◌, length, sym, subst, arith}
use Rattle.gx_state.specs.Flat.{HeldState}
use Rattle.gx_state.proofs.Space.{grown}
use Rattle.gx_state.proofs.state.State.grow.Goals as goal

pub invariant_of-self-2 : goal.invariant_of-self-2
invariant_of-self-2 g c =
    let held = c.self.invariant.sound in
    let below : c.self.inside.story.value.header.ramstart ≤ c.self.inside.story.value.header.endmem =
    omega (arith, held.story.ramstart_first, held.story.extstart_first) in
    let more = subst (λ (h : HeldState). length h.flat.memory ≤ c.args.size) (sym c.self.view_is) c.requires.above in
    let fits = grown c.self.inside.memory c.resize.new.self _ c.self.inside.story.value.header.ramstart
    c.self.inside.story.value.header.endmem c.args.size _ held.rom below held.endmem held.heap c.requires.whole
    more c.in_ok-resize.ensures.ok c.in_ok-resize.ensures.size in
    record {
      sound = record {
        story = held.story;
        size = fits.size;
        endmem = fits.above;
        rom = fits.rom_kept;
        limit = held.limit;
        height = held.height;
        aligned = held.aligned;
        framed = held.framed;
        heap = fits.fits;
      };
      frame = c.self.invariant.frame;
    }
