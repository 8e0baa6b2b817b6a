use Rattle.std.proofs.Common.{◌≡◌, ◌++◌, if◌then◌else◌, take, map}
use Rattle.glk_text.specs.Characters.{latin_of}
use Rattle.glk_event_calls.proofs.events.push_in_buffer.Given as goal

abbrev pub invariant-loop-c : goal.invariant-loop-c
invariant-loop-c l = l.out ≡ l.initial.out ++ map (λ c. if l.wide then c else latin_of c) (take l.c-index l.chars)
