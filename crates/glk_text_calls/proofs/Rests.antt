-- The rest of a file in Latin-1 or of bytes in memory: the bytes are the characters.
use Rattle.std.proofs.Common.{zero, suc, ◌≡◌, ◌<◌, ◌≤◌, ◌+◌, ◌-◌, ◌*◌, nat_lt, nat_le, ℕ, Bool, true, false}
use Rattle.std.proofs.Common.{if◌then◌else◌}
use Rattle.std.proofs.Common.{List, [], ◌∷◌, length, get_or, take, drop, drop-cons, length-drop, refl, sym, ap, subst}
use Rattle.std.proofs.Common.{◌∙◌, arith, Some, None, Ok}
use Rattle.std.specs.List.{list_all}
use Rattle.std.proofs.lemmas.Bool.Decides.{nat_tests}
use Rattle.std.proofs.lemmas.Grind.{common_steps}
use Rattle.gx_words.specs.Numbers.{byte}
use Rattle.gx_pages.specs.Memory.{number_in}
use Rattle.gx_state.specs.Flat.{FlatState}
use Rattle.glk_streams.specs.declared.kinds.FileForm.TheVariants as forms
use Rattle.glk_streams.specs.declared.kinds.StreamKind.{StreamKind}
use Rattle.glk_streams.specs.declared.kinds.StreamKind.TheVariants as kinds
use Rattle.glk_streams.specs.declared.kinds.Places.{Places}
use Rattle.glk_streams.specs.declared.kinds.Stream.{Stream}
use Rattle.glk_streams.specs.Stream as one
use Rattle.glk_streams.specs.Streams as streams
use Rattle.glk_world.specs.World.{Scene, silent}
use Rattle.glk_world.specs.Putting.{places_read, no_places}
use Rattle.glk_world.specs.Calls.{chars_got}
use Rattle.glk_text_calls.specs.Input.{read_behind, read_on, reading}
use Rattle.glk_text_calls.specs.PuttingSaves.{as_bytes, rest_len, take_rest, take_rest_grows}
use Rattle.glk_text_calls.proofs.Reading.{read_as, next_char, go_step}
use Rattle.glk_text_calls.proofs.Saving.{is_byte}

-- a file in Latin-1 that is open for reading, and what is left of it
record IsLatin (s : Stream) (rest : List ℕ) : Type 0 where
  pub name : List ℕ
  pub content : List ℕ
  pub kind : s.kind ≡ kinds.File name content forms.Latin
  pub left : rest ≡ drop s.position content
  pub reads : one.readable s ≡ true

kind_latin : (s : Stream) (k : StreamKind) (rest : List ℕ) → s.kind ≡ k → one.readable s ≡ true
    → one.latin_rest_in k s.position ≡ Some rest → IsLatin s rest
kind_latin s (kinds.Window win) rest is reads h = absurd (cc)
kind_latin s (kinds.Memory at len wide) rest is reads h = absurd (cc)
kind_latin s (kinds.File name content forms.Latin) rest is reads h = record {
  name = name;
  content = content;
  kind = is;
  left = cc;
  reads = reads;
}
kind_latin s (kinds.File name content forms.Wide) rest is reads h = absurd (cc)
kind_latin s (kinds.File name content forms.Utf8) rest is reads h = absurd (cc)

latin_of_rest : (s : Stream) (rest : List ℕ) → one.latin_rest s ≡ Some rest → IsLatin s rest
unfolding one.latin_rest
latin_of_rest s rest h =
    elim (one.readable s) as
    (λ b. one.readable s ≡ b → (if b then one.latin_rest_in s.kind s.position else None) ≡ Some rest → IsLatin s rest) [
      | true ↦ λ reads some. kind_latin s s.kind rest refl reads some
      | false ↦ λ reads some. absurd (cc)
    ] refl h

module _ (f : FlatState) (p : Places) (s : Stream) (name content : List ℕ)
    (is : s.kind ≡ kinds.File name content forms.Latin) (reads : one.readable s ≡ true) (none : p.count ≡ 0) where
  next_latin : (i position : ℕ) → position < length content
      → next_char f p s i position ≡ Ok (Some (byte content position, position + 1))
  unfolding one.read_next
  next_latin i position less =
      let past : nat_lt i p.count ≡ false = grind (arith, nat_tests, none) in
      let within : nat_lt position (length content) ≡ true = grind (arith, nat_tests) in
      rw (past, reads, is, within) refl

  -- all that is left is read, and the stream is at its end then
  read_latin : (more i position : ℕ) → position + more ≡ length content
      → read_on more false f p s i position ≡ read_as (drop position content) (length content)
  unfolding read_on
  read_latin zero i position all =
      let past : drop position content ≡ [] = grind (arith, common_steps) in
      let e : position ≡ length content = omega arith in
      rw (past, e) refl
  read_latin (suc more) i position all =
      let c = byte content position in
      let e : position + 1 ≡ suc position = omega arith in
      let less : position < length content = omega arith in
      let left : c ∷ drop (position + 1) content ≡ drop position content =
      rw (e, drop-cons content position 0 less) refl in
      go_step more false f p s i position c (position + 1) (next_latin i position less) refl
      ∙ ap (read_behind (c ∷ [])) (read_latin more (i + 1) (position + 1) (omega arith))
      ∙ ap (λ (cs : List ℕ). read_as cs (length content)) left

no_places_of : (s : Stream) (name content : List ℕ) (count : ℕ) → s.kind ≡ kinds.File name content forms.Latin
    → (one.next_places s count).count ≡ 0
unfolding one.next_places
no_places_of s name content count is = rw is refl

no_places_for : (w : Scene) (id count : ℕ) (name content : List ℕ)
    → (streams.stream w.streams id).kind ≡ kinds.File name content forms.Latin → (places_read w id count).count ≡ 0
no_places_for w id count name content is =
    let s = streams.stream w.streams id in
    elim (one.readable s) as (λ b. (if b then one.next_places s count else no_places).count ≡ 0) [
      | true ↦ no_places_of s name content count is
      | false ↦ refl
    ]

-- each is a byte
all_bytes : (bs : List ℕ) → ((k : ℕ) → k < length bs → get_or bs k 0 < 256) → list_all is_byte bs ≡ true
all_bytes [] small = refl
all_bytes (b ∷ bs) small =
    let first : nat_lt b 256 ≡ true = grind (arith, nat_tests, small 0 (omega arith)) in
    rw (first, all_bytes bs (λ k less. small (suc k) (omega arith))) refl

pub bytes_pass : (bs : List ℕ) → ((k : ℕ) → k < length bs → get_or bs k 0 < 256) → as_bytes bs ≡ Some bs
bytes_pass bs small = rw (all_bytes bs small) refl

module _ (w : Scene) (f : FlatState) (id : ℕ) (rest : List ℕ)
    (latin : one.latin_rest (streams.stream w.streams id) ≡ Some rest)
    (within : (streams.stream w.streams id).position ≤ one.end_position (streams.stream w.streams id)) where
  abbrev s : Stream
  s = streams.stream w.streams id

  found : IsLatin s rest
  found = latin_of_rest s rest latin

  end_is : one.end_position s ≡ length found.content
  end_is = rw found.kind refl

  rest_is : rest_len s ≡ length rest
  rest_is = ap (λ (n : ℕ). n - s.position) end_is ∙ sym (length-drop s.position found.content)
      ∙ ap (λ (xs : List ℕ). length xs) (sym found.left)

  all_left : s.position + rest_len s ≡ length found.content
  all_left = omega (arith, end_is, within)

  pub latin_reading : reading w f id false (rest_len s) ≡ read_as rest (one.end_position s)
  latin_reading =
      let p = places_read w id (rest_len s) in
      read_latin f p s found.name found.content found.kind found.reads
      (no_places_for w id (rest_len s) found.name found.content found.kind) (rest_len s) 0 s.position all_left
      ∙ ap (λ (cs : List ℕ). read_as cs (length found.content)) (sym found.left)
      ∙ ap (read_as rest) (sym end_is)

  pub latin_taken : (bytes : List ℕ) → streams.has w.streams id ≡ true → bytes ≡ rest → as_bytes bytes ≡ Some bytes
      → take_rest w f id ≡ Ok (silent (chars_got w id (one.end_position s) (rest_len s)), Some bytes)
  unfolding take_rest
  latin_taken bytes here same small =
      let sized : length rest ≡ rest_len s = sym rest_is in
      let taken : as_bytes rest ≡ Some bytes = ap as_bytes (sym same) ∙ small in
      rw (here, latin_reading, taken, sized, found.reads) refl

  pub latin_grows : streams.has w.streams id ≡ true → 0 < length rest → take_rest_grows w f id ≡ true
  latin_grows here some = rw (here, latin_reading, found.reads) (grind (arith, nat_tests, some))

-- ---- bytes in memory

record IsMemory (s : Stream) (count : ℕ) : Type 0 where
  pub at : ℕ
  pub len : ℕ
  pub wide : Bool
  pub kind : s.kind ≡ kinds.Memory at len wide
  pub few : s.position + count ≤ one.place_count at len

kind_memory : (s : Stream) (k : StreamKind) (count : ℕ) → s.kind ≡ k → 0 < count
    → (one.places_in k s.position count).count ≡ count → IsMemory s count
kind_memory s (kinds.Window win) count is some all = absurd (omega (arith, some, all))
kind_memory s (kinds.Memory at len wide) count is some all = record {
  at = at;
  len = len;
  wide = wide;
  kind = is;
  few = omega (arith, some, all);
}
kind_memory s (kinds.File name content form) count is some all = absurd (omega (arith, some, all))

module _ (f : FlatState) (p : Places) (s : Stream) (at len : ℕ) (wide : Bool) (is : s.kind ≡ kinds.Memory at len wide)
    (reads : one.readable s ≡ true) (width : p.width ≡ 1) where
  next_byte : (i position : ℕ) → i < p.count → p.at + i < length f.memory → position < one.place_count at len
      → next_char f p s i position ≡ Ok (Some (byte f.memory (p.at + i), position + 1))
  unfolding one.read_next number_in
  next_byte i position less inner within =
      let placed : nat_lt i p.count ≡ true = grind (arith, nat_tests) in
      let one_by : p.at + 1 * i ≡ p.at + i = omega arith in
      let inside : nat_le (p.at + i + 1) (length f.memory) ≡ true = grind (arith, nat_tests) in
      let left : nat_lt position (one.place_count at len) ≡ true = grind (arith, nat_tests) in
      rw (placed, width, one_by, inside, reads, is, left) refl

  read_bytes : (more i position : ℕ) → i + more ≡ p.count → p.at + p.count ≤ length f.memory
      → position + more ≤ one.place_count at len
      → read_on more false f p s i position ≡ read_as (take more (drop (p.at + i) f.memory)) (position + more)
  unfolding read_on
  read_bytes zero i position all whole few = let e : position + 0 ≡ position = omega arith in rw e refl
  read_bytes (suc more) i position all whole few =
      let c = byte f.memory (p.at + i) in
      let b : position + 1 + more ≡ position + suc more = omega arith in
      let e : p.at + (i + 1) ≡ suc (p.at + i) = omega arith in
      let less : p.at + i < length f.memory = omega (arith, all, whole) in
      let left : c ∷ take more (drop (p.at + (i + 1)) f.memory) ≡ take (suc more) (drop (p.at + i) f.memory) =
      rw (e, drop-cons f.memory (p.at + i) 0 less) refl in
      go_step more false f p s i position c (position + 1) (next_byte i position (omega arith) less (omega arith)) refl
      ∙ ap (read_behind (c ∷ [])) (read_bytes more (i + 1) (position + 1) (omega arith) whole (omega arith))
      ∙ ap (λ (n : ℕ). read_as (c ∷ take more (drop (p.at + (i + 1)) f.memory)) n) b
      ∙ ap (λ (cs : List ℕ). read_as cs (position + suc more)) left

module _ (w : Scene) (f : FlatState) (id : ℕ) (here : streams.has w.streams id ≡ true)
    (reads : one.readable (streams.stream w.streams id) ≡ true)
    (within : (streams.stream w.streams id).position ≤ one.end_position (streams.stream w.streams id))
    (some : 0 < rest_len (streams.stream w.streams id))
    (all : (places_read w id (rest_len (streams.stream w.streams id))).count
    ≡ rest_len (streams.stream w.streams id))
    (width : (places_read w id (rest_len (streams.stream w.streams id))).width ≡ 1)
    (whole : (places_read w id (rest_len (streams.stream w.streams id))).at + rest_len
    (streams.stream w.streams id) ≤ length f.memory) where
  abbrev from : Stream
  from = streams.stream w.streams id

  abbrev rest : ℕ
  rest = rest_len from

  abbrev places : Places
  places = places_read w id rest

  placed : one.next_places from rest ≡ places
  placed = rw reads refl

  memory_of : IsMemory from rest
  unfolding one.next_places
  memory_of = kind_memory from from.kind rest refl some (ap (λ (q : Places). q.count) placed ∙ all)

  end_behind : from.position + rest ≡ one.end_position from
  end_behind = omega (arith, within)

  memory_reading : reading w f id false rest ≡ read_as (take rest (drop places.at f.memory)) (one.end_position from)
  memory_reading =
      let m = memory_of in
      let a : 0 + rest ≡ rest = omega arith in
      let z : places.at + 0 ≡ places.at = omega arith in
      let fits : places.at + places.count ≤ length f.memory = rw all whole in
      read_bytes f places from m.at m.len m.wide m.kind reads width rest 0 from.position (a ∙ sym all) fits m.few
      ∙ ap (λ (n : ℕ). read_as (take rest (drop n f.memory)) (from.position + rest)) z
      ∙ ap (read_as (take rest (drop places.at f.memory))) end_behind

  taken_len : length (take rest (drop places.at f.memory)) ≡ rest
  taken_len = let left = length-drop places.at f.memory in grind (arith, common_steps, left)

  memory_taken : (bytes : List ℕ) → bytes ≡ take rest (drop places.at f.memory) → as_bytes bytes ≡ Some bytes
      → take_rest w f id ≡ Ok (silent (chars_got w id (one.end_position from) rest), Some bytes)
  unfolding take_rest
  memory_taken bytes same small =
      let whole_bytes : as_bytes (take rest (drop places.at f.memory)) ≡ Some bytes = ap as_bytes (sym same) ∙ small in
      rw (here, memory_reading, whole_bytes, taken_len, reads) refl

  memory_grows : take_rest_grows w f id ≡ true
  memory_grows = rw (here, memory_reading, taken_len, reads) (grind (arith, nat_tests, some))

-- the same for places that were found
module _ (w : Scene) (f : FlatState) (id most : ℕ) (p : Places) (here : streams.has w.streams id ≡ true)
    (reads : one.readable (streams.stream w.streams id) ≡ true)
    (within : (streams.stream w.streams id).position ≤ one.end_position (streams.stream w.streams id))
    (is : p ≡ places_read w id most) (left : most ≡ rest_len (streams.stream w.streams id)) (some : 0 < most)
    (all : p.count ≡ most) (width : p.width ≡ 1) (whole : p.at + most ≤ length f.memory) where
  abbrev own : ℕ
  own = rest_len (streams.stream w.streams id)

  same_places : places_read w id own ≡ p
  same_places = ap (λ (n : ℕ). places_read w id n) (sym left) ∙ sym is

  some_left : 0 < own
  some_left = subst (λ (n : ℕ). 0 < n) left some

  all_found : (places_read w id own).count ≡ own
  all_found = ap (λ (q : Places). q.count) same_places ∙ all ∙ left

  width_found : (places_read w id own).width ≡ 1
  width_found = ap (λ (q : Places). q.width) same_places ∙ width

  whole_found : (places_read w id own).at + own ≤ length f.memory
  whole_found = subst (λ (n : ℕ). (places_read w id own).at + n ≤ length f.memory) left
      (subst (λ (q : Places). q.at + most ≤ length f.memory) (sym same_places) whole)

  pub found_taken : (bytes : List ℕ) → bytes ≡ take most (drop p.at f.memory) → as_bytes bytes ≡ Some bytes
      → take_rest w f id ≡ Ok (silent (chars_got w id (one.end_position (streams.stream w.streams id)) own), Some bytes)
  found_taken bytes same small =
      let taken : bytes ≡ take own (drop (places_read w id own).at f.memory) =
      same ∙ ap (λ (n : ℕ). take n (drop p.at f.memory)) left
      ∙ ap (λ (q : Places). take own (drop q.at f.memory)) (sym same_places) in
      memory_taken w f id here reads within some_left all_found width_found whole_found bytes taken small

  pub found_grows : take_rest_grows w f id ≡ true
  found_grows = memory_grows w f id here reads within some_left all_found width_found whole_found
