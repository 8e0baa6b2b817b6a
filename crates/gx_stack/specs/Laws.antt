-- What contracts say beside the definitions: of the locals of a new frame, and of the values of one as a list.
use Rattle.std.specs.Prelude.{ℕ, zero, suc, ◌+◌, ◌*◌, ◌%◌, List, [], ◌∷◌, ◌++◌, ◌^◌, map, ◌-◌, length, take, drop}
use Rattle.gx_words.specs.Numbers.{number, word}
use Rattle.gx_stack.specs.Formats.{gap, locals}
use Rattle.gx_stack.specs.declared.frames.Frame.{Frame}
use Rattle.gx_stack.specs.Values.{turned}

-- the offset and the size of each of n locals of t bytes that stand from an offset on
unfoldable pub group : ℕ → ℕ → ℕ → List (ℕ × ℕ)
group at t zero = []
group at t (suc n) = (at, t) ∷ group (at + t) t n

-- the offset and the size of each local of pairs, in order
unfoldable pub local_places : ℕ → List ℕ → List (ℕ × ℕ)
local_places at [] = []
local_places at (t ∷ []) = []
local_places at (t ∷ n ∷ pairs) = group (at + gap t at) t n ++ local_places (at + gap t at + t * n) pairs

-- what locals hold of arguments: each its own, cut to its size, and 0 where there is none left
unfoldable pub local_values : List (ℕ × ℕ) → List ℕ → List ℕ
local_values [] args = []
local_values (local ∷ places) [] = 0 ∷ local_values places []
local_values (local ∷ places) (a ∷ args) = a % 256 ^ local.1 ∷ local_values places args

-- the numbers that stand at these offsets behind a place
abbrev pub numbers_at : List ℕ → ℕ → List (ℕ × ℕ) → List ℕ
numbers_at s place locals = map (λ local. number local.1 s (place + local.0)) locals

-- the words of a list of bytes
unfoldable pub words : List ℕ → List ℕ
words [] = []
words (a ∷ []) = []
words (a ∷ b ∷ []) = []
words (a ∷ b ∷ c ∷ []) = []
words (a ∷ b ∷ c ∷ d ∷ rest) = word (a ∷ b ∷ c ∷ d ∷ []) 0 ∷ words rest

-- the list of a frame's values, the deepest first
abbrev pub values_of : List ℕ → Frame → List ℕ
values_of s f = words (drop f.values s)

-- the last n of a list
abbrev pub last : ℕ → List ℕ → List ℕ
last n values = drop (length values - n) values

-- all but the last n
abbrev pub but_last : ℕ → List ℕ → List ℕ
but_last n values = take (length values - n) values

-- the top n values moved up by so many places, cyclically
abbrev pub rolled_values : ℕ → ℕ → List ℕ → List ℕ
rolled_values n up values = but_last n values ++ turned (last n values) up
