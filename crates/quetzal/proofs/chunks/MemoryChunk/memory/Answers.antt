-- what is made begins as the story does
use Rattle.quetzal.specs.Views.{memory_body}
use Rattle.quetzal.proofs.SaveReading.{memory_begins}
use Rattle.quetzal.proofs.chunks.MemoryChunk.memory.Goals as goal

pub returns-clause-rom : goal.returns-clause-rom
returns-clause-rom c =
    memory_begins c.args.story.now (memory_body c.args.self.now) c.push_ram.new.memory c.bytes.ensures.sound
    c.requires.size c.in_ok-push_ram.ensures.value
