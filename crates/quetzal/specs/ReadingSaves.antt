-- What a save says (Quetzal 1.4; Glulx 3.1.2, "Saved Games"): the copy that it holds, or why it is refused. Memory may
-- be as large as a ceiling, which the standard leaves to an interpreter.
use Rattle.std.specs.Prelude.{ℕ, List, Result, Ok}
use Rattle.gx_words.specs.Results.{◌>>=◌}
use Rattle.gx_story.specs.Stories.{FlatStory}
use Rattle.gx_state.specs.Copies.{Copy}
use Rattle.quetzal.specs.Faults.{allowed}
use Rattle.quetzal.specs.Chunks.{parts_in}
use Rattle.quetzal.specs.Memory.{size_in, is_memory_size, memory_of}
use Rattle.quetzal.specs.Stacks.{is_stack}
use Rattle.quetzal.specs.Blocks.{heap_of}
use Rattle.quetzal.specs.declared.faults.SaveFault.{SaveFault}
use Rattle.quetzal.specs.declared.faults.SaveFault.TheVariants as fault

unfoldable pub copy_in_save : ℕ → List ℕ → FlatStory → Result Copy SaveFault
copy_in_save ceiling save story = do
  parts ← parts_in save story
  _ ← allowed (is_memory_size ceiling story (size_in parts.memory)) fault.Size
  memory ← memory_of story parts.memory
  _ ← allowed (is_stack story (size_in parts.memory) parts.stack) fault.Stack
  heap ← heap_of story (size_in parts.memory) parts.heap
  Ok (record { memory = memory; stack = parts.stack; heap = heap })
