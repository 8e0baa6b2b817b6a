-- The numbers of the instructions that are spelled in one byte, each by its name in the standard (Glulx 3.1.2,
-- "Dictionary of Opcodes"). The constants of the same names in code are tied to these.
use Rattle.std.specs.Prelude.{ℕ}

-- No operation
abbrev pub nop : ℕ
nop = 0x00

-- Integer math
abbrev pub add : ℕ
add = 0x10

abbrev pub sub : ℕ
sub = 0x11

abbrev pub mul : ℕ
mul = 0x12

abbrev pub div : ℕ
div = 0x13

abbrev pub mod_ : ℕ
mod_ = 0x14

abbrev pub neg : ℕ
neg = 0x15

abbrev pub bitand : ℕ
bitand = 0x18

abbrev pub bitor : ℕ
bitor = 0x19

abbrev pub bitxor : ℕ
bitxor = 0x1A

abbrev pub bitnot : ℕ
bitnot = 0x1B

abbrev pub shiftl : ℕ
shiftl = 0x1C

abbrev pub sshiftr : ℕ
sshiftr = 0x1D

abbrev pub ushiftr : ℕ
ushiftr = 0x1E

-- Branches
abbrev pub jump : ℕ
jump = 0x20

abbrev pub jz : ℕ
jz = 0x22

abbrev pub jnz : ℕ
jnz = 0x23

abbrev pub jeq : ℕ
jeq = 0x24

abbrev pub jne : ℕ
jne = 0x25

abbrev pub jlt : ℕ
jlt = 0x26

abbrev pub jge : ℕ
jge = 0x27

abbrev pub jgt : ℕ
jgt = 0x28

abbrev pub jle : ℕ
jle = 0x29

abbrev pub jltu : ℕ
jltu = 0x2A

abbrev pub jgeu : ℕ
jgeu = 0x2B

abbrev pub jgtu : ℕ
jgtu = 0x2C

abbrev pub jleu : ℕ
jleu = 0x2D

-- Functions and continuations
abbrev pub call : ℕ
call = 0x30

abbrev pub return : ℕ
return = 0x31

abbrev pub catch : ℕ
catch = 0x32

abbrev pub throw : ℕ
throw = 0x33

abbrev pub tailcall : ℕ
tailcall = 0x34

-- Moving data
abbrev pub copy : ℕ
copy = 0x40

abbrev pub copys : ℕ
copys = 0x41

abbrev pub copyb : ℕ
copyb = 0x42

abbrev pub sexs : ℕ
sexs = 0x44

abbrev pub sexb : ℕ
sexb = 0x45

-- Array data
abbrev pub aload : ℕ
aload = 0x48

abbrev pub aloads : ℕ
aloads = 0x49

abbrev pub aloadb : ℕ
aloadb = 0x4A

abbrev pub aloadbit : ℕ
aloadbit = 0x4B

abbrev pub astore : ℕ
astore = 0x4C

abbrev pub astores : ℕ
astores = 0x4D

abbrev pub astoreb : ℕ
astoreb = 0x4E

abbrev pub astorebit : ℕ
astorebit = 0x4F

-- The stack
abbrev pub stkcount : ℕ
stkcount = 0x50

abbrev pub stkpeek : ℕ
stkpeek = 0x51

abbrev pub stkswap : ℕ
stkswap = 0x52

abbrev pub stkroll : ℕ
stkroll = 0x53

abbrev pub stkcopy : ℕ
stkcopy = 0x54

-- Output
abbrev pub streamchar : ℕ
streamchar = 0x70

abbrev pub streamnum : ℕ
streamnum = 0x71

abbrev pub streamstr : ℕ
streamstr = 0x72

abbrev pub streamunichar : ℕ
streamunichar = 0x73
