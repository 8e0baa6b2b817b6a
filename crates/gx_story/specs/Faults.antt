-- The faults of a story file: their numbers, and what the faults of a form become.
use Rattle.std.specs.Prelude.{ℕ}
use Rattle.iff_chunks.specs.declared.faults.IffFault.{IffFault}
use Rattle.iff_chunks.specs.declared.faults.IffFault.TheVariants as iff
use Rattle.gx_story.specs.declared.faults.StoryFault.{StoryFault}
use Rattle.gx_story.specs.declared.faults.StoryFault.TheVariants as fault

abbrev pub number_of : StoryFault → ℕ
number_of fault.Short = 1
number_of fault.NotGlulx = 2
number_of fault.Version = 3
number_of fault.Sizes = 4
number_of fault.TooLarge = 5
number_of fault.Cut = 6
number_of fault.Blorb = 7
number_of fault.NoMemory = 8

-- whatever is wrong with the form
abbrev pub fault_of : IffFault → StoryFault
fault_of iff.NoMemory = fault.NoMemory
fault_of e = fault.Blorb
