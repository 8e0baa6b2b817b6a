use Rattle.std.proofs.Common.{◌≡◌, arith, rules, subst}
use Rattle.heap_blocks.specs.Heap.{HeldHeap, IsRising, first_address, free_place}
use Rattle.heap_blocks.proofs.Placing.{free_place_is_least, free_place_is_none}
use Rattle.heap_blocks.proofs.blocks.Heap.place.Goals as goal

pub returns-then-at-from-clause-least : goal.returns-then-at-from-clause-least
returns-then-at-from-clause-least c =
    let heap = c.args.self.now.heap in
    let is : c.free_place-at.result ≡ free_place c.args.size (first_address heap c.args.end) heap.blocks =
    search rules in
    let rises = subst (λ (held : HeldHeap). IsRising held.heap.start held.heap.blocks) c.self.view_is
    c.self.invariant.sound.rises in
    free_place_is_least heap c.args.end c.args.size c.args.ceiling c.free_place-at.result is c.requires rises
    (omega arith)

pub returns-else-at-from-clause-least : goal.returns-else-at-from-clause-least
returns-else-at-from-clause-least c =
    let heap = c.args.self.now.heap in
    let is : c.free_place-at.result ≡ free_place c.args.size (first_address heap c.args.end) heap.blocks =
    search rules in
    let rises = subst (λ (held : HeldHeap). IsRising held.heap.start held.heap.blocks) c.self.view_is
    c.self.invariant.sound.rises in
    free_place_is_none heap c.args.end c.args.size c.args.ceiling c.free_place-at.result is c.requires rises
    (omega arith)
