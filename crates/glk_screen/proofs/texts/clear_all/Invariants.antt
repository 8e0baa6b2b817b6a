use Rattle.std.proofs.Common.{◌≡◌, ◌++◌, drop, take, map}
use Rattle.glk_screen.specs.Texts.{text_cleared}
use Rattle.glk_screen.proofs.texts.clear_all.Given as goal

abbrev pub invariant-loop-at : goal.invariant-loop-at
invariant-loop-at l = l.texts ≡ map (text_cleared l.win) (take l.at l.initial.texts) ++ drop l.at l.initial.texts
