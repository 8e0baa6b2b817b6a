-- Characters that are bytes.
use Rattle.std.proofs.Common.{zero, suc, ◌≡◌, ◌<◌, ◌≤◌, ◌&&◌, nat_lt, ℕ, Bool, true, false, List, [], ◌∷◌, length}
use Rattle.std.proofs.Common.{◌≢◌, ◌==◌, get_or, refl, ap, ◌∙◌, arith, Option, Some, None, Result, Ok, Err, IsTrue}
use Rattle.std.proofs.Common.{IsOk}
use Rattle.std.specs.List.{list_all}
use Rattle.std.proofs.lemmas.Bool.Decides.{nat_tests}
use Rattle.gx_words.specs.declared.faults.Fault.{Fault}
use Rattle.gx_words.specs.Results.{◌>>=◌}
use Rattle.gx_state.specs.Flat.{FlatState}
use Rattle.gx_state.specs.declared.effects.Reply.{Reply}
use Rattle.glk_world.specs.World.{FlatWorld, Outcome, on_world, MakesCall}
use Rattle.glk_text_calls.specs.Putting.{put_all}
use Rattle.glk_text_calls.specs.PuttingSaves.{as_bytes, takes_save, put_save, put_save_grows}

abbrev pub is_byte : ℕ → Bool
is_byte c = nat_lt c 256

-- all of them are
pub all_bytes : (bytes all : List ℕ) → list_all is_byte bytes ≡ true → bytes ≡ all → Some bytes ≡ as_bytes all
all_bytes bytes all small same = rw (← same, small) refl

and_false : (b : Bool) → (b && false) ≡ false
and_false true = refl
and_false false = refl

not_all : (chars : List ℕ) (i d : ℕ) → i < length chars → 256 ≤ get_or chars i d → list_all is_byte chars ≡ false
not_all [] i d less great = absurd (omega (arith, less))
not_all (c ∷ cs) zero d less great = let big : is_byte c ≡ false = grind (arith, nat_tests) in rw big refl
not_all (c ∷ cs) (suc i) d less great = rw (not_all cs i d (omega (arith, less)) great) (and_false (is_byte c))

-- one of them isn't
pub no_bytes : (chars : List ℕ) (i d : ℕ) → i < length chars → 256 ≤ get_or chars i d → None ≡ as_bytes chars
no_bytes chars i d less great = rw (not_all chars i d less great) refl

-- ---- a save that a stream takes is put

abbrev saving : Outcome Reply → Outcome (Option Reply)
saving outcome = outcome >>= λ r. Ok (r.0, Some r.1)

abbrev saved : Result (FlatWorld × Reply) Fault → Result (FlatWorld × Option Reply) Fault
saved (Ok done) = Ok (done.0, Some done.1)
saved (Err e) = Err e

on_saving : (old : FlatWorld) (outcome : Outcome Reply) → on_world old (saving outcome) ≡ saved (on_world old outcome)
on_saving old (Ok r) = refl
on_saving old (Err e) = refl

fine : (old : FlatWorld) (outcome : Outcome Reply) → IsOk (on_world old outcome) → IsOk (on_world old (saving outcome))
fine old (Ok r) is = refl
fine old (Err e) is = is

not_empty : (bytes : List ℕ) → bytes ≢ [] → (length bytes == 0) ≡ false
not_empty [] some = absurd (some refl)
not_empty (b ∷ bytes) some = grind (arith, nat_tests)

pub save_taken : (old new : FlatWorld) (f : FlatState) (stream : ℕ) (bytes : List ℕ) (reply : Reply)
    → takes_save old.scene stream bytes ≡ true → on_world old (put_all old.scene f stream bytes) ≡ Ok (new, reply)
    → on_world old (put_save old.scene f stream bytes) ≡ Ok (new, Some reply)
unfolding put_save
save_taken old new f stream bytes reply takes is =
    rw takes (on_saving old (put_all old.scene f stream bytes) ∙ ap saved is)

pub save_refused : (old new : FlatWorld) (f : FlatState) (stream : ℕ) (bytes : List ℕ) (e : Fault)
    → takes_save old.scene stream bytes ≡ true
    → MakesCall (bytes ≢ []) (Err e) old new (put_all old.scene f stream bytes)
    → MakesCall (IsTrue (put_save_grows old.scene stream bytes)) (Err e) old new (put_save old.scene f stream bytes)
unfolding put_save
save_refused old new f stream bytes e takes refused = (
  refused.0,
  (
    λ other. rw takes (on_saving old (put_all old.scene f stream bytes) ∙ ap saved (refused.1.0 other)),
    λ none. (
      rw (takes, not_empty bytes (refused.1.1 none).0) refl,
      rw takes (fine old (put_all old.scene f stream bytes) (refused.1.1 none).1),
    ),
  ),
)
