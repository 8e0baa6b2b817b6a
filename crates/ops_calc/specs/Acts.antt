-- The instructions that the calls of this crate are for, each by its name in the standard (Glulx 3.1.2, "Dictionary of
-- Opcodes"): the low byte of its number. The constants of the same names in code are these.
use Rattle.std.specs.Prelude.{ℕ, Bool, ◌==◌, List, [], ◌∷◌}
use Rattle.std.specs.List.{list_any}

-- Integer math, and the sign extensions of "Moving Data"
abbrev pub add : ℕ
add = 0x10

abbrev pub sub : ℕ
sub = 0x11

abbrev pub mul : ℕ
mul = 0x12

abbrev pub div : ℕ
div = 0x13

abbrev pub mod_ : ℕ
mod_ = 0x14

abbrev pub neg : ℕ
neg = 0x15

abbrev pub bitand : ℕ
bitand = 0x18

abbrev pub bitor : ℕ
bitor = 0x19

abbrev pub bitxor : ℕ
bitxor = 0x1A

abbrev pub bitnot : ℕ
bitnot = 0x1B

abbrev pub shiftl : ℕ
shiftl = 0x1C

abbrev pub sshiftr : ℕ
sshiftr = 0x1D

abbrev pub ushiftr : ℕ
ushiftr = 0x1E

abbrev pub sexs : ℕ
sexs = 0x44

abbrev pub sexb : ℕ
sexb = 0x45

-- Branches
abbrev pub jump : ℕ
jump = 0x20

abbrev pub jz : ℕ
jz = 0x22

abbrev pub jnz : ℕ
jnz = 0x23

abbrev pub jeq : ℕ
jeq = 0x24

abbrev pub jne : ℕ
jne = 0x25

abbrev pub jlt : ℕ
jlt = 0x26

abbrev pub jge : ℕ
jge = 0x27

abbrev pub jgt : ℕ
jgt = 0x28

abbrev pub jle : ℕ
jle = 0x29

abbrev pub jltu : ℕ
jltu = 0x2A

abbrev pub jgeu : ℕ
jgeu = 0x2B

abbrev pub jgtu : ℕ
jgtu = 0x2C

abbrev pub jleu : ℕ
jleu = 0x2D

abbrev pub calc_acts : List ℕ
calc_acts =
    add ∷ sub ∷ mul ∷ div ∷ mod_ ∷ neg ∷ bitand ∷ bitor ∷
    bitxor ∷ bitnot ∷ shiftl ∷ sshiftr ∷ ushiftr ∷ sexs ∷ sexb ∷ []

abbrev pub is_calc : ℕ → Bool
is_calc act = list_any (λ n. n == act) calc_acts

abbrev pub branch_acts : List ℕ
branch_acts =
    jump ∷ jz ∷ jnz ∷ jeq ∷ jne ∷ jlt ∷ jge ∷
    jgt ∷ jle ∷ jltu ∷ jgeu ∷ jgtu ∷ jleu ∷ []

abbrev pub is_branch : ℕ → Bool
is_branch act = list_any (λ n. n == act) branch_acts
