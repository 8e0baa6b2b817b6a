-- The files that are open at the end are stored one after another.
use Rattle.std.proofs.Common.{◌≡◌, ℕ, zero, suc, ◌+◌, ◌<◌, List, [], ◌∷◌, ◌++◌, map, length, take, drop, get_or}
use Rattle.std.proofs.Common.{Option, Some, None, Err, refl, ap, sym, ◌∙◌, append_assoc, arith}
use Rattle.std.proofs.lemmas.List.{take-append-drop, map-append}
use Rattle.std.proofs.lemmas.List.Elements.{filter_map-append}
use Rattle.std.proofs.lemmas.Grind.{common_steps}
use Rattle.std.specs.List.{filter_map}
use Rattle.std.specs.Option.{option_to_list}
use Rattle.gx_outside.specs.Outside.{raised_by, raised_times}
use Rattle.gx_outside.specs.Shelves.{store_file, Trace}
use Rattle.gx_outside.specs.declared.devices.ShelfFault.{ShelfFault}
use Rattle.glk_streams.specs.Stream.{stored_file}
use Rattle.glk_streams.specs.Streams.{no_stream}
use Rattle.glk_streams.specs.declared.kinds.Stream.{Stream}
use Rattle.gx_session.specs.declared.ends.Halt.{Halt}
use Rattle.gx_session.specs.Endings.{store_call}
use Rattle.gx_session.specs.Outcomes.{halt_of_shelf}
use Rattle.gx_session.specs.Finishing.{StoredSome}

-- more calls
pub raised-more : (n k step count : ℕ) → raised_times n step (raised_times k step count)
    ≡ raised_times (n + k) step count
raised-more zero k step count = ap (λ (x : ℕ). raised_times x step count) (let e : k ≡ 0 + k = omega arith in e)
raised-more (suc n) k step count =
    let more : suc (n + k) ≡ suc n + k = omega arith in
    ap (raised_by step) (raised-more n k step count) ∙ ap (λ (x : ℕ). raised_times x step count) more

-- more stores, the last of which is refused
pub stopped-more : (one other : List (List ℕ × List ℕ)) (before asked : Trace) (why : Halt)
    → before ≡ map store_call one → StoredSome other asked why → (rest : List (List ℕ × List ℕ))
    → StoredSome (one ++ other ++ rest) (before ++ asked) why
stopped-more one other before asked why first second rest =
    let refused : Trace = (store_file second.next.0 second.next.1, Err second.fault) ∷ [] in
    record {
      front = one ++ second.front;
      next = second.next;
      rest = second.rest ++ rest;
      split = ap (λ (x : List (List ℕ × List ℕ)). one ++ x ++ rest) second.split
          ∙ split second.front (second.next ∷ second.rest);
      fault = second.fault;
      calls_are =
          ap (λ (t : Trace). t ++ asked) first ∙ ap (λ (t : Trace). map store_call one ++ t) second.calls_are
          ∙ sym (append_assoc (map store_call one) (map store_call second.front) refused)
          ∙ ap (λ (t : Trace). t ++ refused) (sym (map-append store_call one second.front));
      why_is = second.why_is;
    }
  where
    split : (front back : List (List ℕ × List ℕ)) → one ++ (front ++ back) ++ rest ≡ (one ++ front) ++ (back ++ rest)
    split front back = ap (λ (x : List (List ℕ × List ℕ)). x ++ rest) (sym (append_assoc one front back))
        ∙ append_assoc (one ++ front) back rest

-- the files of the streams up to a place, and of all of them
module _ (streams : List Stream) (i : ℕ) (here : i < length streams) where
  front-more : take (i + 1) streams ≡ take i streams ++ get_or streams i no_stream ∷ []
  front-more = grind (arith, common_steps)

  abbrev at-place : List (List ℕ × List ℕ)
  at-place = option_to_list (stored_file (get_or streams i no_stream))

  pub stores-front : filter_map stored_file (take (i + 1) streams) ≡ filter_map stored_file (take i streams) ++ at-place
  stores-front =
      ap (filter_map stored_file) front-more
      ∙ filter_map-append stored_file (take i streams) (get_or streams i no_stream ∷ [])
      ∙ ap (λ (x : List (List ℕ × List ℕ)). filter_map stored_file (take i streams) ++ x)
      (one (stored_file (get_or streams i no_stream)))
    where
      one : (o : Option (List ℕ × List ℕ)) → filter_map (λ (x : ℕ). o) (0 ∷ []) ≡ option_to_list o
      one None = refl
      one (Some s) = refl

  pub stores-all : filter_map stored_file streams
      ≡ filter_map stored_file (take i streams) ++ at-place ++ filter_map stored_file (drop (i + 1) streams)
  stores-all =
      ap (filter_map stored_file) (sym (take-append-drop (i + 1) streams))
      ∙ filter_map-append stored_file (take (i + 1) streams) (drop (i + 1) streams)
      ∙ ap (λ (x : List (List ℕ × List ℕ)). x ++ filter_map stored_file (drop (i + 1) streams)) stores-front

-- one store is refused
pub store-refused : (o : Option (List ℕ × List ℕ)) (s : List ℕ × List ℕ) (fault : ShelfFault) → o ≡ Some s
    → StoredSome (option_to_list o) ((store_file s.0 s.1, Err fault) ∷ []) (halt_of_shelf fault)
store-refused o s fault is = record {
  front = [];
  next = s;
  rest = [];
  split = ap option_to_list is;
  fault = fault;
  calls_are = refl;
  why_is = refl;
}

-- none is there, or one is stored
pub stores-none : (o : Option (List ℕ × List ℕ)) → o ≡ None → [] ≡ map store_call (option_to_list o)
stores-none o is = ap (λ (x : Option (List ℕ × List ℕ)). map store_call (option_to_list x)) (sym is)

pub stores-one : (o : Option (List ℕ × List ℕ)) (s : List ℕ × List ℕ) → o ≡ Some s
    → store_call s ∷ [] ≡ map store_call (option_to_list o)
stores-one o s is = ap (λ (x : Option (List ℕ × List ℕ)). map store_call (option_to_list x)) (sym is)
