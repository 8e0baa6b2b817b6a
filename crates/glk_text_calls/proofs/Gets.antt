-- What a call comes to whose characters were read.
use Rattle.std.proofs.Common.{◌≡◌, ◌≢◌, ◌<◌, ◌+◌, ◌⊎◌, ℕ, Bool, true, false, List, [], ◌++◌, length, refl, sym, ap}
use Rattle.std.proofs.Common.{subst, ◌∙◌, inl, inr, arith, Option, Some, None, Result, Ok, Err, IfSome, IfOk}
use Rattle.std.proofs.Common.{IsOk, IsTrue, if◌then◌else◌, ◌&&◌}
use Rattle.gx_words.specs.Results.{◌>>=◌}
use Rattle.gx_words.specs.declared.faults.Fault.{Fault}
use Rattle.gx_words.specs.declared.faults.Fault.TheVariants.{NoMemory}
use Rattle.gx_state.specs.Flat.{FlatState}
use Rattle.gx_state.specs.declared.effects.Reply.{Reply}
use Rattle.glk_streams.specs.declared.kinds.Places.{Places}
use Rattle.glk_streams.specs.declared.kinds.Stream.{Stream}
use Rattle.glk_streams.specs.Stream as one
use Rattle.glk_streams.specs.Streams as streams
use Rattle.glk_world.specs.World.{FlatWorld, Outcome, Said, silent, after, on_world, MakesCall}
use Rattle.glk_world.specs.Putting.{places_read}
use Rattle.glk_world.specs.Calls.{chars_got}
use Rattle.gx_state.specs.Replies.{IsReply}
use Rattle.glk_replies.specs.Parts.{IsCharWidth, can_lay, reply_filling, MayWant}
use Rattle.glk_text_calls.specs.Input.{read_on, reading, count_read, has_read, get_chars}
use Rattle.glk_text_calls.specs.PuttingSaves.{as_bytes, rest_len, take_rest, take_rest_grows}
use Rattle.glk_text_calls.proofs.Reading.{read_as, read_fails, read_some, ending, ending_len, all_length}
use Rattle.glk_text_calls.proofs.Puts.{wanted_fits}

abbrev position_of : Result (ℕ × ℕ) Fault → ℕ
position_of (Ok got) = got.1
position_of (Err e) = 0

abbrev count_of : Result (ℕ × ℕ) Fault → ℕ
count_of (Ok got) = got.0
count_of (Err e) = 0

abbrev chars_of : Result (List ℕ × ℕ) Fault → List ℕ
chars_of (Ok got) = got.0
chars_of (Err e) = []

-- characters that were counted
record AreRead (r : Result (List ℕ × ℕ) Fault) (n q : ℕ) : Type 0 where
  pub chars : List ℕ
  pub all : r ≡ read_as chars q
  pub count : length chars ≡ n

are_read : (r : Result (List ℕ × ℕ) Fault) (n q : ℕ) → count_read r ≡ Ok (n, q) → AreRead r n q
are_read (Ok got) n q is = record {
  chars = got.0;
  all = ap (read_as got.0) (ap position_of is);
  count = ap count_of is;
}
are_read (Err e) n q is = absurd (cc)

abbrev pub read_at : List Stream → FlatState → ℕ → Bool → ℕ → Places → Result (List ℕ × ℕ) Fault
read_at all f stream stops most p = let s = streams.stream all stream in read_on most stops f p s 0 s.position

-- ---- into a buffer

abbrev pub buffer_for : ℕ → ℕ → ℕ → Places
buffer_for at width count = record { at = at; width = width; count = count }

pub same_buffer : (from at width n end : ℕ) (stops : Bool) → from ≡ at → end ≡ ending_len stops
    → buffer_for from width (n + end) ≡ buffer_for at width (n + ending_len stops)
same_buffer from at width n end stops is ends =
    ap (λ (k : ℕ). buffer_for k width (n + end)) is ∙ ap (λ (k : ℕ). buffer_for at width (n + k)) ends

-- so many characters were read
pub kept_count : (r : Result (List ℕ × ℕ) Fault) (chars : Option (List ℕ)) (n q : ℕ) → count_read r ≡ Ok (n, q)
    → IfSome chars (λ cs. r ≡ Ok (cs, q)) → IfSome chars (λ cs. length cs ≡ n)
kept_count r None n q counted whole = tt
kept_count r (Some cs) n q counted whole = ap count_of (ap count_read (sym whole) ∙ counted)

module _ (w : FlatWorld) (f : FlatState) (stream : ℕ) (stops : Bool) (most width at : ℕ) (p : Places)
    (all : List Stream) (same : all ≡ w.scene.streams) (is : p ≡ places_read w.scene stream most) where
  abbrev got : Outcome Reply
  got = get_chars w.scene f stream stops most width at

  abbrev there : Result (List ℕ × ℕ) Fault
  there = read_at all f stream stops most p

  there_is : there ≡ reading w.scene f stream stops most
  there_is = ap (λ (ss : List Stream). read_at ss f stream stops most p) same
      ∙ ap (λ (q : Places). read_at w.scene.streams f stream stops most q) is

  -- a character that can't be read
  pub get_unread : {wants : Type 0} (e : Fault) → (count_read there ≡ Err e) × (e ≢ NoMemory)
      → MakesCall wants (Err e) w w got
  unfolding get_chars
  get_unread e reads =
      let fails : reading w.scene f stream stops most ≡ Err e = sym there_is ∙ read_fails there e reads.0 in
      (λ other. refl, (λ other. rw fails refl, λ none. absurd (reads.1 none)))

  module _ (n q : ℕ) (counted : count_read there ≡ Ok (n, q)) (b : Places)
      (buffer : b ≡ buffer_for at width (n + ending_len stops)) where
    all_read : AreRead there n q
    all_read = are_read there n q counted

    reading_is : reading w.scene f stream stops most ≡ read_as all_read.chars q
    reading_is = sym there_is ∙ all_read.all

    buffer_is : b ≡ buffer_for at width (length all_read.chars + ending_len stops)
    buffer_is = buffer ∙ ap (λ (k : ℕ). buffer_for at width (k + ending_len stops)) (sym all_read.count)

    -- a buffer that can't be written
    pub get_refused : {wants : Type 0} (e : Fault) → (can_lay f b ≡ Err e) × (e ≢ NoMemory)
        → MakesCall wants (Err e) w w got
    unfolding get_chars
    get_refused e lays =
        let at_buffer : can_lay f (buffer_for at width (length all_read.chars + ending_len stops)) ≡ Err e =
        subst (λ (k : Places). can_lay f k ≡ Err e) buffer_is lays.0 in
        (λ other. refl, (λ other. rw (reading_is, at_buffer) refl, λ none. absurd (lays.1 none)))

    module _ (lays : can_lay f b ≡ Ok tt) where
      at_buffer : can_lay f (buffer_for at width (length all_read.chars + ending_len stops)) ≡ Ok tt
      at_buffer = subst (λ (k : Places). can_lay f k ≡ Ok tt) buffer_is lays

      get_fine : IsOk (on_world w got)
      unfolding get_chars
      get_fine = rw (reading_is, at_buffer) refl

      -- what may want memory: a character that was read, or the end of a line
      has_some : 0 < n → has_read (reading w.scene f stream stops most) ≡ true
      has_some some = read_some (reading w.scene f stream stops most) n q (ap count_read (sym there_is) ∙ counted)
          some

      pub get_wanted : (now : FlatWorld) → (0 < n) ⊎ (stops ≡ true)
          → MakesCall ((stops ≡ true) ⊎ IsTrue (has_read (reading w.scene f stream stops most))) (Err NoMemory) w now
          got
      get_wanted now (inl some) =
          (λ other. absurd (other refl), (λ other. absurd (other refl), λ none. (inr (has_some some), get_fine)))
      get_wanted now (inr ends) =
          (λ other. absurd (other refl), (λ other. absurd (other refl), λ none. (inl ends, get_fine)))

      abbrev text : List ℕ
      text = all_read.chars ++ ending stops

      get_made : (now : FlatWorld) → now ≡ after w (silent (chars_got w.scene stream q n))
          → on_world w got ≡ Ok (now, reply_filling n b text)
      unfolding get_chars
      get_made now passed =
          let after_it : now ≡ after w (silent (chars_got w.scene stream q (length all_read.chars))) =
          passed ∙ ap (λ (k : ℕ). after w (silent (chars_got w.scene stream q k))) (sym all_read.count) in
          let made : reply_filling n b text
          ≡ reply_filling (length all_read.chars) (buffer_for at width (length all_read.chars + ending_len stops))
          text =
          ap (λ (k : ℕ). reply_filling k b text) (sym all_read.count)
          ∙ ap (λ (k : Places). reply_filling (length all_read.chars) k text) buffer_is in
          rw (reading_is, at_buffer, made, after_it) refl

      same_chars : (chars : Option (List ℕ)) → IfSome chars (λ cs. there ≡ Ok (cs, q))
          → IfSome chars (λ cs. cs ≡ all_read.chars)
      same_chars None whole = tt
      same_chars (Some cs) whole = ap chars_of (sym whole ∙ all_read.all)

      made_or_wanted : (now : FlatWorld) (r : Result Reply Fault)
          → now ≡ after w (silent (chars_got w.scene stream q n))
          → MayWant ((0 < n) ⊎ (stops ≡ true)) (λ (reply : Reply). reply) r (Ok (reply_filling n b text))
          → MakesCall ((stops ≡ true) ⊎ IsTrue (has_read (reading w.scene f stream stops most))) r w now got
      made_or_wanted now (Ok reply) passed made = get_made now passed ∙ ap (λ (k : Reply). let both : Result
          (FlatWorld × Reply) Fault = Ok (now, k) in both) (cc)
      made_or_wanted now (Err e) passed made = (
        λ other. absurd (let no = made.0 other in cc),
        (
          λ other. absurd (let no = made.0 other in cc),
          λ none. (get_wanted now (made.1 none).0).1.1 refl,
        ),
      )

      module _ (chars : Option (List ℕ)) (r : Result Reply Fault) (whole : IfSome chars (λ cs. there ≡ Ok (cs, q)))
          (made : (cs : List ℕ) → IfSome chars (λ all. all ≡ cs)
          → MayWant ((0 < n) ⊎ (stops ≡ true)) (λ (reply : Reply). reply) r
          (Ok (reply_filling n b (cs ++ ending stops)))) where
        -- the reply, or want of memory for it
        pub get_ends : (now : FlatWorld) → now ≡ after w (silent (chars_got w.scene stream q n))
            → MakesCall ((stops ≡ true) ⊎ IsTrue (has_read (reading w.scene f stream stops most))) r w now got
        get_ends now passed = made_or_wanted now r passed (made all_read.chars (same_chars chars whole))

        pub get_fits : IsCharWidth b.width → (room : ℕ) → IfOk r (IsReply f room)
        get_fits is_width room =
            let many : b.count ≡ n + ending_len stops = ap (λ (k : Places). k.count) buffer in
            wanted_fits f n b text ((0 < n) ⊎ (stops ≡ true)) r is_width
            (omega (arith, many, all_read.count, all_length all_read.chars stops)) lays
            (made all_read.chars (same_chars chars whole)) room

-- ---- to the end of a stream

-- where memory is wanted, there is no fault
fine_by : (w : FlatWorld) (has readable : Bool) (r : Result (List ℕ × ℕ) Fault)
    (say : List ℕ × ℕ → Said × Option (List ℕ)) → (has && readable && has_read r) ≡ true
    → IsOk (on_world w (if has && readable then (r >>= λ got. Ok (say got)) else Ok (silent w.scene, None)))
fine_by w true true (Ok got) say grows = refl
fine_by w true true (Err e) say grows = absurd (cc)
fine_by w true false r say grows = refl
fine_by w false readable r say grows = refl

pub rest_lost : (w now : FlatWorld) (f : FlatState) (stream : ℕ) → take_rest_grows w.scene f stream ≡ true
    → MakesCall (IsTrue (take_rest_grows w.scene f stream)) (Err NoMemory) w now (take_rest w.scene f stream)
unfolding take_rest
rest_lost w now f stream grows =
    let s = streams.stream w.scene.streams stream in (
      λ other. absurd (other refl),
      (
        λ other. absurd (other refl),
        λ none. (
          grows,
          fine_by w (streams.has w.scene.streams stream) (one.readable s) (reading w.scene f stream false (rest_len s))
              (λ got. (silent (chars_got w.scene stream got.1 (length got.0)), as_bytes got.0)) grows,
        ),
      ),
    )

module _ (w : FlatWorld) (f : FlatState) (stream most : ℕ) (p : Places) (all : List Stream)
    (same : all ≡ w.scene.streams) (here : streams.has w.scene.streams stream ≡ true)
    (readable : one.readable (streams.stream w.scene.streams stream) ≡ true)
    (left : most ≡ rest_len (streams.stream w.scene.streams stream)) (is : p ≡ places_read w.scene stream most) where
  abbrev rest : ℕ
  rest = rest_len (streams.stream w.scene.streams stream)

  abbrev found : Result (List ℕ × ℕ) Fault
  found = read_at all f stream false most p

  found_is : found ≡ reading w.scene f stream false rest
  found_is = ap (λ (ss : List Stream). read_at ss f stream false most p) same
      ∙ ap (λ (q : Places). read_at w.scene.streams f stream false most q) is
      ∙ ap (λ (k : ℕ). reading w.scene f stream false k) left

  pub rest_unread : {wants : Type 0} (e : Fault) → (count_read found ≡ Err e) × (e ≢ NoMemory)
      → MakesCall wants (Err e) w w (take_rest w.scene f stream)
  unfolding take_rest
  rest_unread e reads =
      let fails : reading w.scene f stream false rest ≡ Err e = sym found_is ∙ read_fails found e reads.0 in
      (λ other. refl, (λ other. rw (here, fails, readable) refl, λ none. absurd (reads.1 none)))

  module _ (n q : ℕ) (counted : count_read found ≡ Ok (n, q)) where
    rest_fine : IsOk (on_world w (take_rest w.scene f stream))
    unfolding take_rest
    rest_fine =
        let rest_read = are_read found n q counted in
        let same_rest : reading w.scene f stream false rest ≡ read_as rest_read.chars q = sym found_is ∙
        rest_read.all in
        rw (here, same_rest, readable) refl

    rest_grows : 0 < n → take_rest_grows w.scene f stream ≡ true
    rest_grows some =
        let has : has_read (reading w.scene f stream false rest) ≡ true =
        read_some (reading w.scene f stream false rest) n q (ap count_read (sym found_is) ∙ counted) some in
        rw (here, has, readable) refl

    pub rest_wanted : (now : FlatWorld) → 0 < n
        → MakesCall (IsTrue (take_rest_grows w.scene f stream)) (Err NoMemory) w now (take_rest w.scene f stream)
    rest_wanted now some =
        (λ other. absurd (other refl), (λ other. absurd (other refl), λ none. (rest_grows some, rest_fine)))

    rest_chars : AreRead found n q
    rest_chars = are_read found n q counted

    rest_made : (now : FlatWorld) → now ≡ after w (silent (chars_got w.scene stream q n))
        → on_world w (take_rest w.scene f stream) ≡ Ok (now, as_bytes rest_chars.chars)
    unfolding take_rest
    rest_made now passed =
        let same_rest : reading w.scene f stream false rest ≡ read_as rest_chars.chars q =
        sym found_is ∙ rest_chars.all in
        let after_it : now ≡ after w (silent (chars_got w.scene stream q (length rest_chars.chars))) =
        passed ∙ ap (λ (k : ℕ). after w (silent (chars_got w.scene stream q k))) (sym rest_chars.count) in
        rw (here, same_rest, readable, after_it) refl

    same_rest_chars : (chars : Option (List ℕ)) → IfSome chars (λ all. found ≡ Ok (all, q))
        → IfSome chars (λ all. all ≡ rest_chars.chars)
    same_rest_chars None whole = tt
    same_rest_chars (Some cs) whole = ap chars_of (sym whole ∙ rest_chars.all)

    some_rest : (chars : Option (List ℕ)) → (chars ≡ None → 0 < n)
        → (chars ≡ None) ⊎ (0 < length rest_chars.chars) → 0 < n
    some_rest chars some (inl none) = some none
    some_rest chars some (inr long) = omega (arith, rest_chars.count)

    module _ (now : FlatWorld) (passed : now ≡ after w (silent (chars_got w.scene stream q n))) where
      rest_ends_by : {wants : Type 0} (r : Result (Option (List ℕ)) Fault) → (wants → 0 < n)
          → MayWant wants (λ (bytes : Option (List ℕ)). bytes) r (Ok (as_bytes rest_chars.chars))
          → MakesCall (IsTrue (take_rest_grows w.scene f stream)) r w now (take_rest w.scene f stream)
      rest_ends_by (Ok bytes) some made = rest_made now passed ∙ ap (λ (k : Option (List ℕ)). let both : Result
          (FlatWorld × Option (List ℕ)) Fault = Ok (now, k) in both) (cc)
      rest_ends_by (Err e) some made = (
        λ other. absurd (let no = made.0 other in cc),
        (
          λ other. absurd (let no = made.0 other in cc),
          λ none. (rest_wanted now (some (made.1 none).0)).1.1 refl,
        ),
      )

      -- the bytes, or want of memory for them
      pub rest_ends : (chars : Option (List ℕ)) (r : Result (Option (List ℕ)) Fault)
          → IfSome chars (λ all. found ≡ Ok (all, q)) → (chars ≡ None → 0 < n)
          → ((cs : List ℕ) → IfSome chars (λ all. all ≡ cs) → MayWant ((chars ≡ None) ⊎ (0 < length cs))
          (λ (bytes : Option (List ℕ)). bytes) r (Ok (as_bytes cs)))
          → MakesCall (IsTrue (take_rest_grows w.scene f stream)) r w now (take_rest w.scene f stream)
      rest_ends chars r whole some made = rest_ends_by r (some_rest chars some)
          (made rest_chars.chars (same_rest_chars chars whole))
