-- A list that has the present bytes in a range, and the kept ones elsewhere, is the kept list put
-- back.
use Rattle.std.proofs.Common.{◌≡◌, ℕ, ◌+◌, ◌<◌, ◌≤◌, ◌&&◌, nat_le, nat_lt, List, length, get_or, cond, arith}
use Rattle.std.proofs.lemmas.List.FromFn.{fill_by_all}
use Rattle.std.proofs.lemmas.Bool.Decides.{nat_tests}
use Rattle.gx_pages.specs.Memory.{put_back_of}

-- the byte at an address, by its place
at_place : (from count a present kept new : ℕ) → (from ≤ a → a < from + count → new ≡ present)
    → (a < from → new ≡ kept) → (from + count ≤ a → new ≡ kept)
    → new ≡ cond (nat_le from a && nat_lt a (from + count)) present kept
at_place from count a present kept new within below above = grind (arith, nat_tests)

pub put_back_from : (present kept new : List ℕ) (from count : ℕ) → length new ≡ length kept
    → ((a : ℕ) → from ≤ a → a < from + count → a < length kept → get_or new a 0 ≡ get_or present a 0)
    → ((a : ℕ) → a < from → get_or new a 0 ≡ get_or kept a 0)
    → ((a : ℕ) → from + count ≤ a → get_or new a 0 ≡ get_or kept a 0) → new ≡ put_back_of present kept from count
put_back_from present kept new from count same within below above =
    fill_by_all _ new (length kept) 0 same
    (λ a h. at_place from count a _ _ _ (λ l u. within a l u h) (below a) (above a))
