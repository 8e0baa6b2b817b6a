use Rattle.std.proofs.Common.{◌≡◌, ◌++◌, take, map}
use Rattle.glk_text_calls.specs.Characters.{changed}
use Rattle.glk_text_calls.proofs.characters.push_changed.Given as goal

abbrev pub invariant-loop-c : goal.invariant-loop-c
invariant-loop-c l = l.out ≡ l.initial.out ++ map (changed l.case) (take l.c-index l.chars)
