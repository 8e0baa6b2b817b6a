use Rattle.std.proofs.Common.{◌≡◌, take}
use Rattle.glk_screen.specs.Screen.{beside}
use Rattle.glk_screen.proofs.drawing.beside.Given as goal

abbrev pub invariant-loop-y : goal.invariant-loop-y
invariant-loop-y l = l.left.items ≡ beside l.initial.left.items (take l.y l.right)
