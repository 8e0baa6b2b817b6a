use Rattle.std.proofs.Common.{◌<◌, length, ap, arith}
use Rattle.std.proofs.lemmas.Grind.{common_steps}
use Rattle.heap_blocks.specs.Sound.{flat_of}
use Rattle.heap_blocks.proofs.Changing.{IsSound-remove}
use Rattle.heap_blocks.proofs.Gaps.{gapless-kept}
use Rattle.heap_blocks.proofs.blocks.Heap.free.Goals as goal

pub returns-else-last-clause-sound : goal.returns-else-last-clause-sound
returns-else-last-clause-sound c =
    let left : 0 < length c.remove.new.self.items = grind (arith, common_steps) in
    IsSound-remove (flat_of c.self.inside) c.in_ok-i.i c.remove.new.self.items c.remove.ensures.items left
    c.self.invariant.sound

pub invariant_of-self-else-last : goal.invariant_of-self-else-last
invariant_of-self-else-last c =
    let inside : c.in_ok-i.i < length c.self.inside.blocks.items =
    omega (arith, c.in_ok-i.ensures.bound, ap length c.deref.ensures.value) in
    record {
      sound = returns-else-last-clause-sound c;
      gapless = gapless-kept c.self.inside.blocks.items c.remove.new.self.items c.self.inside.start c.in_ok-i.i
          c.self.inside.gapless c.min-self-inside.result c.min-self-inside.ensures c.self.invariant.gapless
          c.remove.ensures.items c.self.invariant.sound.rises inside;
    }
