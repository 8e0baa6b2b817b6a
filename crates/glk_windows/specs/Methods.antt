-- Methods of a pair window (Glk 0.7.5, "Window Arrangement"): a direction in the low four bits, a division in the
-- next four. Other bits aren't looked at.
use Rattle.std.specs.Prelude.{ℕ, ◌/◌, ◌%◌, ◌==◌, ◌&&◌, ◌||◌, nat_le, Bool}
use Rattle.glk_windows.specs.Constants.{right, below, fixed, proportional}

-- 0 left, 1 right, 2 above, 3 below: the side of the second child
abbrev pub direction : ℕ → ℕ
direction method = method % 16

-- 1 fixed, 2 proportional
abbrev pub division : ℕ → ℕ
division method = method / 16 % 16

-- a method has a direction and a division that are there
abbrev pub is_method : ℕ → Bool
is_method method = nat_le (direction method) below && (division method == fixed || division method == proportional)

-- the columns are divided, else the rows
abbrev pub is_across : ℕ → Bool
is_across method = nat_le (direction method) right
