-- The definitions that the proof of a row of Memory opens.
use Rattle.ops_memory.specs.MemoryRows.{memory, aload, aloads, aloadb, astore, astores, astoreb}
use Rattle.ops_memory.specs.Searching.{linearsearch, binarysearch, linkedsearch}
use Rattle.ops_memory.specs.Space.{getmemsize}

unfoldable pub rows : Unit {0}
unfolding memory aload aloads aloadb astore astores astoreb getmemsize linearsearch binarysearch linkedsearch
rows = tt
