-- The numbers of the instructions that are spelled in two bytes, each by its name in the standard (Glulx 3.1.2,
-- "Dictionary of Opcodes"). The constants of the same names in code are tied to these.
--
-- hasundo and discardundo aren't of 3.1.2: this machine has them beside it.
use Rattle.std.specs.Prelude.{ℕ}

-- Miscellaneous, the memory map
abbrev pub gestalt : ℕ
gestalt = 0x100

abbrev pub debugtrap : ℕ
debugtrap = 0x101

abbrev pub getmemsize : ℕ
getmemsize = 0x102

abbrev pub setmemsize : ℕ
setmemsize = 0x103

abbrev pub jumpabs : ℕ
jumpabs = 0x104

-- Random numbers
abbrev pub random : ℕ
random = 0x110

abbrev pub setrandom : ℕ
setrandom = 0x111

-- Game state
abbrev pub quit : ℕ
quit = 0x120

abbrev pub verify : ℕ
verify = 0x121

abbrev pub restart : ℕ
restart = 0x122

abbrev pub save : ℕ
save = 0x123

abbrev pub restore : ℕ
restore = 0x124

abbrev pub saveundo : ℕ
saveundo = 0x125

abbrev pub restoreundo : ℕ
restoreundo = 0x126

abbrev pub protect : ℕ
protect = 0x127

-- Game state, beside 3.1.2
abbrev pub hasundo : ℕ
hasundo = 0x128

abbrev pub discardundo : ℕ
discardundo = 0x129

-- Glk
abbrev pub glk : ℕ
glk = 0x130

-- String decoding table, iosystem
abbrev pub getstringtbl : ℕ
getstringtbl = 0x140

abbrev pub setstringtbl : ℕ
setstringtbl = 0x141

abbrev pub getiosys : ℕ
getiosys = 0x148

abbrev pub setiosys : ℕ
setiosys = 0x149

-- Searching
abbrev pub linearsearch : ℕ
linearsearch = 0x150

abbrev pub binarysearch : ℕ
binarysearch = 0x151

abbrev pub linkedsearch : ℕ
linkedsearch = 0x152

-- Functions
abbrev pub callf : ℕ
callf = 0x160

abbrev pub callfi : ℕ
callfi = 0x161

abbrev pub callfii : ℕ
callfii = 0x162

abbrev pub callfiii : ℕ
callfiii = 0x163

-- Block copy and clear
abbrev pub mzero : ℕ
mzero = 0x170

abbrev pub mcopy : ℕ
mcopy = 0x171

-- Memory allocation heap
abbrev pub malloc : ℕ
malloc = 0x178

abbrev pub mfree : ℕ
mfree = 0x179

-- Accelerated functions
abbrev pub accelfunc : ℕ
accelfunc = 0x180

abbrev pub accelparam : ℕ
accelparam = 0x181
