-- The streams stay sound, and what stands at a place.
use Rattle.std.proofs.Common.{zero, suc, length, get_or, set, ◌<◌, ◌≡◌, ◌≢◌, ◌≤◌, ◌+◌, ℕ, Bool, true, false}
use Rattle.std.proofs.Common.{if◌then◌else◌, List, [], ◌∷◌, ◌++◌, map, drop, drop-cons, refl, arith, append_assoc}
use Rattle.std.proofs.lemmas.Grind.{common_steps}
use Rattle.std.proofs.lemmas.List.{append-nil}
use Rattle.std.specs.List.{filter, remove}
use Rattle.glk_objects.specs.Objects as objects
use Rattle.glk_objects.specs.Objects.{IsAboveAll}
use Rattle.glk_objects.proofs.Places as found
use Rattle.glk_objects.proofs.Rising.{rises_end, rises_set, rises_without, rises_filter}
use Rattle.glk_streams.specs.declared.kinds.Stream.{Stream}
use Rattle.glk_streams.specs.Stream.{is_stored}
use Rattle.glk_streams.specs.Streams.{id_of, open_files}
use Rattle.glk_streams.specs.Sound.{IsSoundStream, EachSound, AreSound}

each_at : (ss : List Stream) (i : ℕ) (d : Stream) → EachSound ss → i < length ss → IsSoundStream (get_or ss i d)
each_at [] i d sound h = absurd (omega arith)
each_at (s ∷ ss) zero d sound h = sound.0
each_at (s ∷ ss) (suc i) d sound h = each_at ss i d sound.1 (omega arith)

each_set : (ss : List Stream) (i : ℕ) (new : Stream) → EachSound ss → IsSoundStream new → EachSound (set ss i new)
each_set [] i new sound h = tt
each_set (s ∷ ss) zero new sound h = (h, sound.1)
each_set (s ∷ ss) (suc i) new sound h = (sound.0, each_set ss i new sound.1 h)

each_remove : (ss : List Stream) (i : ℕ) → EachSound ss → EachSound (remove ss i)
each_remove [] zero sound = tt
each_remove [] (suc i) sound = tt
each_remove (s ∷ ss) zero sound = sound.1
each_remove (s ∷ ss) (suc i) sound = (sound.0, each_remove ss i sound.1)

each_end : (ss : List Stream) (new : Stream) → EachSound ss → IsSoundStream new → EachSound (ss ++ new ∷ [])
each_end [] new sound h = (h, tt)
each_end (s ∷ ss) new sound h = (sound.0, each_end ss new sound.1 h)

each_filter : (test : Stream → Bool) (ss : List Stream) → EachSound ss → EachSound (filter test ss)
each_filter test [] sound = tt
each_filter test (s ∷ ss) sound = elim (test s) as (λ b. EachSound (if b then s ∷ filter test ss else filter test ss)) [
  | true ↦ (sound.0, each_filter test ss sound.1)
  | false ↦ each_filter test ss sound.1
]

pub sound_at : (ss : List Stream) (i : ℕ) (d : Stream) → AreSound ss → i < length ss → IsSoundStream (get_or ss i d)
sound_at ss i d sound h = each_at ss i d sound.each h

pub sound_set : (ss : List Stream) (i : ℕ) (new : Stream) → AreSound ss → i < length ss → IsSoundStream new
    → ((d : Stream) → new.id ≡ (get_or ss i d).id) → AreSound (set ss i new)
sound_set ss i new sound h is same = record {
  rising = rises_set id_of ss i new sound.rising h same;
  each = each_set ss i new sound.each is;
}

pub sound_remove : (ss : List Stream) (id : ℕ) → AreSound ss → objects.object_place id_of ss id < length ss
    → AreSound (remove ss (objects.object_place id_of ss id))
sound_remove ss id sound h = record {
  rising = rw (found.remove_at_place id_of ss id h) (rises_without id_of ss id sound.rising);
  each = each_remove ss (objects.object_place id_of ss id) sound.each;
}

pub sound_end : (ss : List Stream) (new : Stream) → AreSound ss → IsAboveAll id_of ss new.id → IsSoundStream new
    → AreSound (ss ++ new ∷ [])
sound_end ss new sound above is = record {
  rising = rises_end id_of ss new sound.rising above;
  each = each_end ss new sound.each is;
}

pub sound_filter : (test : Stream → Bool) (ss : List Stream) → AreSound ss → AreSound (filter test ss)
sound_filter test ss sound = record {
  rising = rises_filter id_of test ss sound.rising;
  each = each_filter test ss sound.each;
}

pub rising_of : (ss : List Stream) → AreSound ss → objects.AreRising id_of ss
rising_of ss sound = sound.rising

pub ruleset places = (found.places, sound_at, sound_set, sound_remove, rising_of)

pub ruleset adds = (sound_end)

-- one turn of the list of open files

files_step : (s : Stream) (rest : List Stream) (out : List ℕ)
    → (if is_stored s.kind s then out ++ s.id ∷ [] else out) ++ open_files rest ≡ out ++ open_files (s ∷ rest)
files_step s rest out =
    elim (is_stored s.kind s) as
    (λ b. (if b then out ++ s.id ∷ [] else out) ++ open_files rest ≡ out
    ++ map id_of (if b then s ∷ filter (λ t. is_stored t.kind t) rest else filter (λ t. is_stored t.kind t) rest)) [
      | true ↦ append_assoc out (s.id ∷ []) (open_files rest)
      | false ↦ refl
    ]

pub files_more : (ss : List Stream) (i : ℕ) (d : Stream) (out : List ℕ) → i < length ss
    → (if is_stored (get_or ss i d).kind (get_or ss i d) then out ++ (get_or ss i d).id ∷ [] else out)
    ++ open_files (drop (i + 1) ss) ≡ out ++ open_files (drop i ss)
files_more ss i d out h = let e : i + 1 ≡ suc i = omega arith in
    rw (e, drop-cons ss i d) (files_step (get_or ss i d) (drop (suc i) ss) out)

pub files_none : (ss : List Stream) (n : ℕ) (out : List ℕ) → length ss ≤ n → out ++ open_files (drop n ss) ≡ out
files_none ss n out h = let none : drop n ss ≡ [] = grind (arith, common_steps) in rw none (append-nil out)

-- where a file is stored there are some
pub files_some : (ss : List Stream) (i : ℕ) (d : Stream) → i < length ss
    → is_stored (get_or ss i d).kind (get_or ss i d) ≡ true → open_files ss ≢ []
files_some [] i d within is = absurd (omega arith)
files_some (s ∷ ss) zero d within is = rw is (λ same. cc)
files_some (s ∷ ss) (suc i) d within is =
    elim (is_stored s.kind s) as
    (λ b. map id_of (if b then s ∷ filter (λ t. is_stored t.kind t) ss else filter (λ t. is_stored t.kind t) ss) ≢ []) [
      | true ↦ (λ same. cc)
      | false ↦ files_some ss i d (omega arith) is
    ]

pub ruleset files = (files_more, files_none, files_some)
