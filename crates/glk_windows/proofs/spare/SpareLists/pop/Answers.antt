use Rattle.std.proofs.Common.{arith}
use Rattle.std.proofs.lemmas.Grind.{common_steps}
use Rattle.glk_windows.proofs.Room.{room_less, room_last}
use Rattle.glk_windows.proofs.spare.SpareLists.pop.Goals as goal

pub invariant_of-self : goal.invariant_of-self
invariant_of-self c = room_less 0 c.pop.new.self.items c.in-Some.list
    (rw c.in-Some.ensures.items at c.self.invariant)

pub returns-clause-room : goal.returns-clause-room
returns-clause-room c =
    let last = room_last 0 c.pop.new.self.items c.in-Some.list (rw c.in-Some.ensures.items at c.self.invariant) in
    let left = c.in-Some.ensures.cases in
    rw (← c.self.view_is) (grind (arith, common_steps, last, left))
