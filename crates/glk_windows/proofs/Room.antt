-- Lists that wait: one more, and one less.
use Rattle.std.proofs.Common.{◌<◌, ◌+◌, ℕ, List, [], ◌∷◌, ◌++◌, length, arith, vec_capacity}
use Rattle.std.specs.declared.vec.Vec.{Vec}
use Rattle.glk_windows.specs.Spare.{HaveRoom}

pub room_more : {X Z : Type 0} (n : ℕ) (xs : List (Vec X Z)) (x : Vec X Z) → HaveRoom n xs
    → n + length xs < vec_capacity x → HaveRoom n (xs ++ x ∷ [])
room_more n [] x room fits = (omega (arith, fits), tt)
room_more n (y ∷ xs) x room fits = (room.0, room_more (n + 1) xs x room.1 (omega (arith, fits)))

pub room_less : {X Z : Type 0} (n : ℕ) (xs : List (Vec X Z)) (x : Vec X Z) → HaveRoom n (xs ++ x ∷ []) → HaveRoom n xs
room_less n [] x room = tt
room_less n (y ∷ xs) x room = (room.0, room_less (n + 1) xs x room.1)

pub room_last : {X Z : Type 0} (n : ℕ) (xs : List (Vec X Z)) (x : Vec X Z) → HaveRoom n (xs ++ x ∷ [])
    → n + length xs < vec_capacity x
room_last n [] x room = let fits = room.0 in omega (arith, fits)
room_last n (y ∷ xs) x room = let fits = room_last (n + 1) xs x room.1 in omega (arith, fits)
