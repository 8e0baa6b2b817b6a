-- The numbers of a save (Quetzal 1.4; Glulx 3.1.2, "Contents of the Save File" and "Call Stubs"). The constants of the
-- same names in code are tied to these.
use Rattle.std.specs.Prelude.{ℕ}

-- so many of a story's first bytes stand in its saves, by which it is told from other stories
abbrev pub story_start : ℕ
story_start = 128

-- a chunk of memory begins with a word, the size of memory
abbrev pub size_len : ℕ
size_len = 4

-- the heap's chunk begins with two words, the heap's start and the count of its blocks
abbrev pub heap_header_len : ℕ
heap_header_len = 8

-- a block in it: two words, its address and its length
abbrev pub block_len : ℕ
block_len = 8

-- a call stub on the stack: four words
abbrev pub stub_len : ℕ
stub_len = 16
