use Rattle.gx_asm.proofs.StoryFormats.{Reads}
use Rattle.gx_asm.proofs.stories.format_len.Given as goal

abbrev pub invariant-loop-pairs : goal.invariant-loop-pairs
invariant-loop-pairs l = Reads l.bytes l.pairs
