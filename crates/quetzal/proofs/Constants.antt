-- The constants of the code are the definitions' numbers.
use Rattle.std.proofs.Common.{◌≡◌, refl}
use Rattle.quetzal.specs.declared.blocks.TheConstants as block
use Rattle.quetzal.specs.declared.chunks.TheConstants as chunk
use Rattle.quetzal.specs.declared.stacks.TheConstants as stack
use Rattle.quetzal.specs.Constants.{story_start, size_len, heap_header_len, block_len, stub_len}

pub STORY_START_is : chunk.STORY_START ≡ story_start
STORY_START_is = refl

pub SIZE_LEN_is : chunk.SIZE_LEN ≡ size_len
SIZE_LEN_is = refl

pub HEAP_HEADER_LEN_is : block.HEAP_HEADER_LEN ≡ heap_header_len
HEAP_HEADER_LEN_is = refl

pub BLOCK_LEN_is : block.BLOCK_LEN ≡ block_len
BLOCK_LEN_is = refl

pub STUB_LEN_is : stack.STUB_LEN ≡ stub_len
STUB_LEN_is = refl
