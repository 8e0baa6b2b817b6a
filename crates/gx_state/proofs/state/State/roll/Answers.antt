use Rattle.std.proofs.Common.{arith, refl, ◌∙◌}
use Rattle.gx_state.proofs.Kept.{roll_limit, framed_again}
use Rattle.gx_state.proofs.state.State.roll.Goals as goal

pub invariant_of-self-2 : goal.invariant_of-self-2
invariant_of-self-2 g c =
    let limit = roll_limit _ _ _ _ _ _ c.roll.ensures.value in
    record {
      sound = record {
        story = c.self.invariant.sound.story;
        size = c.self.invariant.sound.size;
        endmem = c.self.invariant.sound.endmem;
        rom = c.self.invariant.sound.rom;
        limit = limit ∙ c.self.invariant.sound.limit;
        height = omega (arith, limit);
        aligned = omega arith;
        framed = framed_again _ _ _ c.roll.ensures.keeps refl;
        heap = c.self.invariant.sound.heap;
      };
      frame = λ _. c.roll.ensures.keeps;
    }
