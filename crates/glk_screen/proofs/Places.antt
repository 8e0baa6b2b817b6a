-- Texts of windows, each found by its place.
use Rattle.std.proofs.Common.{◌≡◌, ◌<◌, ◌≤◌, ℕ, List, [], ◌∷◌, ◌++◌, length, get_or, set, refl, arith, IsTrue}
use Rattle.std.proofs.lemmas.Bool.Decides.{nat_tests}
use Rattle.glk_windows.proofs.Fitting.{over_more}
use Rattle.glk_screen.specs.Texts.{FlatText, lengthens, text_of, text_index, text_put, screen_put, with_char}
use Rattle.glk_screen.proofs.Paragraphs.{starts}

pub found_text : (texts : List FlatText) (win : ℕ) (d : FlatText) → text_index texts win < length texts
    → text_of texts win ≡ (get_or texts (text_index texts win) d).text
found_text [] win d there = absurd (omega arith)
found_text (t ∷ ts) win d there = grind (arith, nat_tests, found_text ts win d)

pub no_text : (texts : List FlatText) (win : ℕ) → length texts ≤ text_index texts win → text_of texts win ≡ []
no_text [] win none = refl
no_text (t ∷ ts) win none = grind (arith, nat_tests, no_text ts win)

pub ruleset reads = (found_text, no_text)

pub put_found : (texts : List FlatText) (win c : ℕ) (d : FlatText) → text_index texts win < length texts
    → screen_put texts win c ≡ set texts (text_index texts win) (text_put (get_or texts (text_index texts win) d) c)
unfolding screen_put
put_found [] win c d there = absurd (omega arith)
put_found (t ∷ ts) win c d there = grind (arith, nat_tests, put_found ts win c d)

pub put_new : (texts : List FlatText) (win c : ℕ) (new : FlatText) → length texts ≤ text_index texts win → new.id ≡ win
    → new.text ≡ with_char [] c → screen_put texts win c ≡ texts ++ new ∷ []
unfolding screen_put
put_new [] win c new none is made = grind (arith, is, made)
put_new (t ∷ ts) win c new none is made = grind (arith, nat_tests, put_new ts win c new)

pub ruleset places = (put_found, put_new)

-- whether the text of a window grows
pub grows_found : (texts : List FlatText) (win c at : ℕ) (t d : FlatText) → at ≡ text_index texts win
    → at < length texts → t ≡ get_or texts at d → IsTrue (lengthens t.text c) → IsTrue (lengthens (text_of texts win) c)
grows_found texts win c at t d place there is grows =
    let found = found_text texts win d (rw place at there) in rw (found, ← place, ← is) grows

pub grows_new : (texts : List FlatText) (win c at : ℕ) → at ≡ text_index texts win → length texts ≤ at
    → IsTrue (lengthens (text_of texts win) c)
grows_new texts win c at place none = rw (no_text texts win (rw place at none)) (starts c)

pub ruleset clear_turns = over_more
