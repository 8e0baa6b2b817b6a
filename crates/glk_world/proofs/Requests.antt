-- One turn of the dropping of requests, and of texts.
use Rattle.std.proofs.Common.{suc, ◌≡◌, ◌<◌, ◌≤◌, ◌+◌, ℕ, List, [], length, get_or, drop, drop-cons, refl, arith}
use Rattle.std.proofs.lemmas.Grind.{common_steps}
use Rattle.glk_events.specs.declared.requests.Request.{Request}
use Rattle.glk_events.specs.Requests as requests
use Rattle.glk_screen.specs.Texts.{FlatText, screen_gone}
use Rattle.glk_world.specs.Calls.{without_each}

pub drop_none : (all : List Request) (gone : List ℕ) (n : ℕ) → length gone ≤ n
    → without_each requests.removed all (drop n gone) ≡ all
unfolding without_each
drop_none all gone n past = let none : drop n gone ≡ [] = grind (arith, common_steps) in rw none refl

pub drop_more : (all : List Request) (gone : List ℕ) (i d : ℕ) → i < length gone
    → without_each requests.removed (requests.removed all (get_or gone i d)) (drop (i + 1) gone)
    ≡ without_each requests.removed all (drop i gone)
unfolding without_each
drop_more all gone i d within = let e : i + 1 ≡ suc i = omega arith in rw (e, drop-cons gone i d) refl

pub texts_none : (texts : List FlatText) (gone : List ℕ) (n : ℕ) → length gone ≤ n
    → without_each screen_gone texts (drop n gone) ≡ texts
unfolding without_each
texts_none texts gone n past = let none : drop n gone ≡ [] = grind (arith, common_steps) in rw none refl

pub texts_more : (texts : List FlatText) (gone : List ℕ) (i d : ℕ) → i < length gone
    → without_each screen_gone (screen_gone texts (get_or gone i d)) (drop (i + 1) gone)
    ≡ without_each screen_gone texts (drop i gone)
unfolding without_each
texts_more texts gone i d within = let e : i + 1 ≡ suc i = omega arith in rw (e, drop-cons gone i d) refl

pub ruleset turns = (drop_none, drop_more, texts_none, texts_more)
