use Rattle.std.proofs.Common.{◌≡◌, length, take, ap, sym, ◌∙◌, arith, refl}
use Rattle.gx_state.proofs.Backs.{rom_again, none_fits}
use Rattle.gx_state.proofs.Kept.{framed_again}
use Rattle.gx_state.proofs.state.State.restart.Goals as goal

pub invariant_of-self : goal.invariant_of-self
invariant_of-self g c =
    let held = c.self.invariant.sound in
    let story = c.self.inside.story.value in
    let e = c.push_call.ensures.value in
    let bytes : c.bytes.result.now ≡ story.bytes = grind arith in
    let end : c.endmem.result ≡ story.header.endmem = grind arith in
    let stored = ap length bytes in
    let size = c.in_ok-memory.ensures.size ∙ end in
    let rom = rom_again c.self.inside.memory c.in_ok-memory.memory c.bytes.result.now story.header.ramstart
    c.endmem.result _ _ (held.rom ∙ ap (take story.header.ramstart) (sym bytes))
    (omega (arith, stored, held.story.stored_whole, held.story.ramstart_first))
    (omega (arith, stored, end, held.story.stored_whole, held.story.extstart_first)) c.in_ok-memory.ensures.value in
    record {
      sound = record {
        story = held.story;
        size = rw size (record { whole = held.story.endmem_whole; capped = held.story.memory_limited });
        endmem = omega (arith, size);
        rom = rom ∙ ap (take story.header.ramstart) bytes;
        limit = rw e held.limit;
        height = omega arith;
        aligned = omega arith;
        framed = framed_again _ _ _ c.parts-self-inside.ensures.frame refl;
        heap = rw c.new.ensures (none_fits _ _);
      };
      frame = λ _. c.parts-self-inside.ensures.frame;
    }
