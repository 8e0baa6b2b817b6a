-- What each call comes to where it may want memory: something that takes some.
use Rattle.std.proofs.Common.{◌≡◌, ◌≢◌, ◌≤◌, ◌+◌, ◌-◌, ◌*◌, ◌==◌, ◌||◌, ◌&&◌, not, nat_lt, ℕ}
use Rattle.std.proofs.Common.{Bool, true}
use Rattle.std.proofs.Common.{false}
use Rattle.std.proofs.Common.{if◌then◌else◌, List, [], ◌∷◌, ◌++◌, length, Option, Some, None}
use Rattle.std.proofs.Common.{is_some, Result, Ok, Err, refl, subst, ◌⊎◌, inl, inr, arith}
use Rattle.std.specs.List.{filter, list_any}
use Rattle.std.proofs.lemmas.Bool.Decides.{nat_tests}
use Rattle.std.proofs.lemmas.List.{length-append}
use Rattle.gx_words.specs.Results.{◌>>=◌}
use Rattle.gx_words.specs.declared.faults.Fault.{Fault}
use Rattle.gx_state.specs.Flat.{FlatState}
use Rattle.gx_state.specs.declared.effects.Reply.{Reply}
use Rattle.glk_streams.specs.Constants.{write_mode}
use Rattle.glk_streams.specs.declared.kinds.Places.{Places}
use Rattle.glk_streams.specs.declared.kinds.Stream.{Stream}
use Rattle.glk_streams.specs.declared.kinds.FileForm.{FileForm}
use Rattle.glk_streams.specs.declared.kinds.StreamKind.{StreamKind}
use Rattle.glk_streams.specs.declared.kinds.StreamKind.TheVariants as kinds
use Rattle.glk_streams.specs.Stream as one
use Rattle.glk_windows.specs.Tree.{is_among}
use Rattle.glk_windows.specs.Changes as windows
use Rattle.glk_windows.specs.Changes.{some_grow, closing_grows, arranging_grows}
use Rattle.glk_events.specs.declared.requests.Request.{Request}
use Rattle.glk_events.specs.Requests as requests
use Rattle.glk_world.specs.World.{Scene, Said, silent, Outcome, answered}
use Rattle.glk_world.specs.World.{is_composed, is_wrapping, then_said}
use Rattle.glk_world.specs.World.{has_reference, reference_at, arg, waits}
use Rattle.glk_world.specs.Calls.{is_identifier, new_id, with_reference, with_new_stream, with_window, with_streams}
use Rattle.glk_world.specs.Calls.{can_open, without_stream, without_window}
use Rattle.glk_world.specs.Calls.{chars_got, window_stream, with_arrangement}
use Rattle.glk_world.specs.Shown.{show_prompt, prompt_words, wrapped_text, row_let_go}
use Rattle.glk_screen.proofs.WrapLaws.{let_go_some}
use Rattle.glk_world.specs.declared.references.FileReference.{FileReference}
use Rattle.glk_files.specs.Names.{base_of}
use Rattle.glk_replies.specs.Strings.{string_length, string_chars}
use Rattle.glk_object_calls.specs.Gestalts.{gestalt_answer}
use Rattle.glk_replies.specs.Constants.{on_stack}
use Rattle.glk_replies.specs.Numbers as selectors
use Rattle.glk_replies.specs.Parts.{can_read, can_lay, numbers_in}
use Rattle.glk_replies.specs.Parts.{replies, char_writes, reply_filling, can_give, can_give_each, can_push}
use Rattle.glk_replies.specs.Parts.{pushes_for}
use Rattle.glk_replies.specs.Parts.{writes_for, give, give_each, pushes_for_each, writes_for_each, some_given}
use Rattle.glk_replies.specs.declared.Turn.{Turn}
use Rattle.glk_replies.specs.declared.Turn.TheVariants as turn
use Rattle.glk_object_calls.specs.Answers.{as_turn}
use Rattle.glk_dispatch.specs.Calls.{done, is_on_none}
use Rattle.glk_dispatch.specs.CallRows.{CallRow}
use Rattle.glk_dispatch.specs.Memory.{has_some, gives_some, turn_takes, is_more, takes_some, is_left_out}
use Rattle.glk_object_calls.specs.Gestalts.{gestalt_ext, has_glyphs}
use Rattle.glk_object_calls.specs.Windows as window
use Rattle.glk_object_calls.specs.Streams as stream
use Rattle.glk_object_calls.specs.References as reference
use Rattle.glk_text_calls.specs.declared.characters.Case.{Case}
use Rattle.glk_text_calls.specs.Characters as characters
use Rattle.glk_text_calls.specs.Input as input
use Rattle.glk_text_calls.proofs.Reading.{ending, ending_len}
use Rattle.glk_text_calls.proofs.Gets.{buffer_for}
use Rattle.glk_event_calls.specs.Constants.{line_event_type}
use Rattle.glk_event_calls.specs.Events as events

-- ---- small steps

pub not_so : (b : Bool) → not b ≡ true → b ≡ false
not_so true is = absurd (cc)
not_so false is = refl

pub there_or_not : (b : Bool) → (b ≡ true) ⊎ (b ≡ false)
there_or_not true = inl refl
there_or_not false = inr refl

either : (a b : Bool) → (a || b) ≡ true → (a ≡ true) ⊎ (b ≡ true)
either true b is = inl refl
either false b is = inr is

pub both : (a b : Bool) → (a && b) ≡ true → (a ≡ true) × (b ≡ true)
both true b is = (refl, is)
both false b is = absurd (cc)

first_of_two : (a b : Bool) → a ≡ true → (a || b) ≡ true
first_of_two a b is = rw is refl

second_of_two : (a b : Bool) → b ≡ true → (a || b) ≡ true
second_of_two true b is = refl
second_of_two false b is = is

some_append : {X : Type 0} → (xs ys : List X) → (has_some xs ≡ true) ⊎ (has_some ys ≡ true) → has_some (xs ++ ys) ≡ true
some_append [] ys (inl is) = absurd (cc)
some_append [] ys (inr is) = is
some_append (x ∷ xs) ys is = refl

longer : {X : Type 0} → (xs : List X) (x : X) → nat_lt (length xs) (length (xs ++ x ∷ [])) ≡ true
longer xs x = grind (arith, nat_tests, length-append xs (x ∷ []))

or_first : (a b c d : Bool) → a ≡ true → (a || b || c || d) ≡ true
or_first a b c d is = rw is refl

or_second : (a b c d : Bool) → b ≡ true → (a || b || c || d) ≡ true
or_second true b c d is = refl
or_second false b c d is = rw is refl

or_third : (a b c d : Bool) → c ≡ true → (a || b || c || d) ≡ true
or_third a b c d is = first_of_two (a || b || c) d (second_of_two (a || b) c is)

or_fourth : (a b c d : Bool) → d ≡ true → (a || b || c || d) ≡ true
or_fourth a b c d is = second_of_two (a || b || c) d is

streams_longer : (all : List Stream) (split id : ℕ) → nat_lt (length all) (length (with_streams all split id)) ≡ true
streams_longer all split id =
    elim (split == 0) as (λ b. nat_lt (length all)
    (length (if b then all ++ window_stream id ∷ [] else (all ++ window_stream id ∷ []) ++ window_stream (id + 2) ∷ []))
    ≡ true) [
      | true ↦ longer all (window_stream id)
      | false ↦
          grind (
            arith,
            nat_tests,
            length-append (all ++ window_stream id ∷ [])
                (window_stream (id + 2) ∷ []),
            length-append all (window_stream id ∷ []),
          )
    ]

opening_left : (left : Bool) → (left || false) ≡ true → left ≡ true
opening_left true is = refl
opening_left false is = is

-- ---- what the parts of an outcome take

takes_by_turn : (w : Scene) (r : Said × Turn) → turn_takes r.1 ≡ true → takes_some w r ≡ true
takes_by_turn w r is =
    first_of_two (turn_takes r.1 || has_some r.0.1) (is_more w r.0.0)
    (first_of_two (turn_takes r.1) (has_some r.0.1) is)

takes_by_text : (w : Scene) (r : Said × Turn) → has_some r.0.1 ≡ true → takes_some w r ≡ true
takes_by_text w r is =
    first_of_two (turn_takes r.1 || has_some r.0.1) (is_more w r.0.0)
    (second_of_two (turn_takes r.1) (has_some r.0.1) is)

takes_by_more : (w : Scene) (r : Said × Turn) → is_more w r.0.0 ≡ true → takes_some w r ≡ true
takes_by_more w r is = second_of_two (turn_takes r.1 || has_some r.0.1) (is_more w r.0.0) is

-- what an outcome of a call that answers takes
abbrev pub Takes : Scene → Outcome Reply → Type 0
Takes w outcome = (r : Said × Turn) → as_turn outcome ≡ Ok r → takes_some w r ≡ true

-- an answer that gives, or that leaves more
pub gives : (w : Scene) (said : Said) (reply : Reply) → gives_some reply ≡ true → Takes w (Ok (said, reply))
gives w said reply is r same =
    subst (λ (x : Said × Turn). takes_some w x ≡ true) (let e : (said, turn.Answer reply) ≡ r = (cc) in e)
    (takes_by_turn w (said, turn.Answer reply) is)

leaves : (w v : Scene) (reply : Reply) → is_more w v ≡ true → Takes w (answered v reply)
leaves w v reply is r same =
    subst (λ (x : Said × Turn). takes_some w x ≡ true) (let e : (silent v, turn.Answer reply) ≡ r = (cc) in e)
    (takes_by_more w (silent v, turn.Answer reply) is)

-- behind a look, or something that is read
pub behind : {X : Type 0} (w : Scene) (first : Result X Fault) (more : X → Outcome Reply)
    → ((x : X) → first ≡ Ok x → Takes w (more x)) → Takes w (first >>= more)
behind w (Ok x) more takes r is = takes x refl r is
behind w (Err e) more takes r is = absurd (cc)

pub by_test : (w : Scene) (test : Bool) (so not_so : Outcome Reply) → (test ≡ true → Takes w so)
    → (test ≡ false → Takes w not_so) → Takes w (if test then so else not_so)
by_test w true so other takes others = takes refl
by_test w false so other takes others = others refl

-- the look of a row, the parts of a reply
two_looks : (first second : Result (Unit {0}) Fault) (value reply : Reply)
    → (first >>= λ _. second >>= λ _. Ok value) ≡ Ok reply → value ≡ reply
two_looks (Ok _) (Ok _) value reply is = cc
two_looks (Ok _) (Err e) value reply is = absurd (cc)
two_looks (Err e) second value reply is = absurd (cc)

given_one : (at x : ℕ) (words : List ℕ) → (at == 0) ≡ false
    → (has_some (writes_for at (x ∷ words)) || has_some (pushes_for at (x ∷ words))) ≡ true
given_one at x words some = elim (there_or_not (at == on_stack)) [
  | inl on ↦ second_of_two (has_some (writes_for at (x ∷ words))) (has_some (pushes_for at (x ∷ words))) (rw on refl)
  | inr off ↦ first_of_two (has_some (writes_for at (x ∷ words))) (has_some (pushes_for at (x ∷ words)))
      (rw (some, off) refl)
]

pub give_some : (f : FlatState) (room value at x : ℕ) (words : List ℕ) (reply : Reply) → (at == 0) ≡ false
    → give f room value at (x ∷ words) ≡ Ok reply → gives_some reply ≡ true
unfolding give
give_some f room value at x words reply some is =
    let same =
    two_looks (can_give f at (length (x ∷ words))) (can_push room (length (pushes_for at (x ∷ words))))
    (record { value = value; pushes = pushes_for at (x ∷ words); writes = writes_for at (x ∷ words) }) reply is in
    subst (λ (y : Reply). gives_some y ≡ true) same (given_one at x words some)

given_each : (ats words : List ℕ) → length ats ≤ length words → some_given ats ≡ true
    → (has_some (writes_for_each ats words) || has_some (pushes_for_each ats words)) ≡ true
unfolding pushes_for_each writes_for_each
given_each [] words enough some = absurd (cc)
given_each (at ∷ ats) [] enough some = absurd (omega arith)
given_each (at ∷ ats) (word ∷ words) enough some =
    let writes : Bool = has_some (writes_for at (word ∷ []) ++ writes_for_each ats words) in
    let pushes : Bool = has_some (pushes_for at (word ∷ []) ++ pushes_for_each ats words) in
    elim (there_or_not (at == 0)) [
      | inl none ↦
          let rest = given_each ats words (omega arith) (rw none at some) in
          elim (either (has_some (writes_for_each ats words)) (has_some (pushes_for_each ats words)) rest) [
            | inl is ↦
                first_of_two writes pushes (some_append (writes_for at (word ∷ [])) (writes_for_each ats words)
                (inr is))
            | inr is ↦
                second_of_two writes pushes (some_append (pushes_for at (word ∷ [])) (pushes_for_each ats words)
                (inr is))
          ]
      | inr one ↦
          elim (either (has_some (writes_for at (word ∷ []))) (has_some (pushes_for at (word ∷ [])))
          (given_one at word [] one)) [
            | inl is ↦
                first_of_two writes pushes (some_append (writes_for at (word ∷ [])) (writes_for_each ats words)
                (inl is))
            | inr is ↦
                second_of_two writes pushes (some_append (pushes_for at (word ∷ [])) (pushes_for_each ats words)
                (inl is))
          ]
    ]

pub give_each_some : (f : FlatState) (room value : ℕ) (ats words : List ℕ) (reply : Reply) → length ats ≤ length words
    → some_given ats ≡ true → give_each f room value ats words ≡ Ok reply → gives_some reply ≡ true
unfolding give_each
give_each_some f room value ats words reply enough some is =
    let same =
    two_looks (can_give_each f ats) (can_push room (length (pushes_for_each ats words)))
    (record { value = value; pushes = pushes_for_each ats words; writes = writes_for_each ats words }) reply is in
    subst (λ (y : Reply). gives_some y ≡ true) same (given_each ats words enough some)

-- a call that gives to a reference, to some, and fills places
gives_one : (w v : Scene) (f : FlatState) (room value at x : ℕ) (words : List ℕ) → (at == 0) ≡ false
    → Takes w (give f room value at (x ∷ words) >>= λ reply. answered v reply)
gives_one w v f room value at x words some =
    behind w (give f room value at (x ∷ words)) (λ reply. answered v reply)
    (λ reply is. gives w (silent v) reply (give_some f room value at x words reply some is))

gives_each : (w v : Scene) (f : FlatState) (room value : ℕ) (ats words : List ℕ) → length ats ≤ length words
    → some_given ats ≡ true → Takes w (give_each f room value ats words >>= λ reply. answered v reply)
gives_each w v f room value ats words enough some =
    behind w (give_each f room value ats words) (λ reply. answered v reply)
    (λ reply is. gives w (silent v) reply (give_each_some f room value ats words reply enough some is))

fills : (w : Scene) (said : Said) (value : ℕ) (p : Places) (cs : List ℕ) → (p.count == 0) ≡ false
    → Takes w (Ok (said, reply_filling value p cs))
fills w said value p cs some =
    gives w said (reply_filling value p cs) (first_of_two (has_some (char_writes p cs)) false (rw some refl))

-- ---- what is made is more

opened_more : (w : Scene) (split method size kind rock : ℕ) → can_open w split method kind ≡ true
    → is_more w (with_window w split method size kind rock) ≡ true
unfolding with_window
opened_more w split method size kind rock may =
    rw may (or_first (nat_lt (length w.streams) (length (with_streams w.streams split w.next_id))) _ _ _
    (streams_longer w.streams split w.next_id))

stream_more : (w : Scene) (kind : StreamKind) (mode rock : ℕ) → is_identifier w.next_id ≡ true
    → is_more w (with_new_stream w kind mode rock) ≡ true
unfolding with_new_stream
stream_more w kind mode rock may =
    rw may (or_first (nat_lt (length w.streams) (length (w.streams ++ one.opened w.next_id kind mode rock ∷ []))) _ _ _
    (longer w.streams (one.opened w.next_id kind mode rock)))

reference_more : (w : Scene) (base : List ℕ) (usage rock : ℕ) → is_identifier w.next_id ≡ true
    → is_more w (with_reference w base usage rock) ≡ true
unfolding with_reference
reference_more w base usage rock may =
    let new : FileReference = record { id = w.next_id; base = base; usage = usage; rock = rock } in
    rw may (or_second (nat_lt (length w.streams) (length w.streams))
    (nat_lt (length w.references) (length (w.references ++ new ∷ []))) _ _ (longer w.references new))

request_more : (w : Scene) (r : Request) → events.may_ask w r.win ≡ true
    → is_more w (if events.may_ask w r.win then record w { requests = requests.with_request w.requests r } else w)
    ≡ true
request_more w r may =
    rw may (or_third (nat_lt (length w.streams) (length w.streams)) (nat_lt (length w.references) (length w.references))
    (nat_lt (length w.requests) (length (w.requests ++ r ∷ [])))
    (some_grow w.windows.tree (w.windows.columns, w.windows.rows) w.windows.grids) (longer w.requests r))

arranged_more : (w : Scene) (win method size key : ℕ) → arranging_grows w.windows win method size key ≡ true
    → is_more w (with_arrangement w win method size key) ≡ true
unfolding with_arrangement windows.arranged arranging_grows
arranged_more w win method size key some =
    elim (there_or_not (windows.allows_arrangement w.windows win method key)) [
      | inl may ↦
          rw may (or_fourth (nat_lt (length w.streams) (length w.streams))
          (nat_lt (length w.references) (length w.references)) (nat_lt (length w.requests) (length w.requests))
          (some_grow (windows.arranged_tree w.windows win method size key)
          (w.windows.columns, w.windows.rows) w.windows.grids) (rw may at some))
      | inr never ↦ absurd (let e = rw never at some in cc)
    ]

any_left : {A : Type 0} (p q : A → Bool) (xs : List A) → list_any p (filter q xs) ≡ true → list_any p xs ≡ true
any_left p q [] some = absurd (cc)
any_left p q (x ∷ xs) some = elim (there_or_not (q x)) [
  | inl stays ↦ elim (either (p x) (list_any p (filter q xs)) (rw stays at some)) [
    | inl here ↦ first_of_two (p x) (list_any p xs) here
    | inr more ↦ second_of_two (p x) (list_any p xs) (any_left p q xs more)
  ]
  | inr goes ↦ second_of_two (p x) (list_any p xs) (any_left p q xs (rw goes at some))
]

closed_more : (w : Scene) (win : ℕ) → closing_grows w.windows win ≡ true → is_more w (without_window w win) ≡ true
unfolding without_window windows.window_closed closing_grows
closed_more w win some =
    let after = without_window w win in
    or_fourth (nat_lt (length w.streams) (length after.streams)) (nat_lt (length w.references) (length after.references))
    (nat_lt (length w.requests) (length after.requests)) _
    (any_left _ (λ g. not (is_among (windows.leaving w.windows.tree win) g.id)) w.windows.grids some)

some_chars : (got : List ℕ × ℕ) (stops : Bool) (read : Result (List ℕ × ℕ) Fault) → read ≡ Ok got
    → (stops ≡ true) ⊎ (input.has_read read ≡ true) → ((length got.0 + ending_len stops) == 0) ≡ false
some_chars got stops read is (inl on) = rw on (grind (arith, nat_tests))
some_chars got stops read is (inr some) =
    let has : not (length got.0 == 0) ≡ true = rw is at some in
    grind (arith, nat_tests, has)

-- what an outcome is
abbrev pub Comes : Outcome Turn → Said × Turn → Type 0
Comes outcome r = outcome ≡ Ok r

-- a file is loaded, or nothing is done
abbrev pub loaded_by : Bool → Scene → ℕ → List ℕ → Outcome Turn
loaded_by loads w selector args =
    if loads then Ok (silent (waits w selector args), turn.Load (reference.file_name w (arg args 0)))
    else Ok (silent w, turn.Answer (replies 0))

asked : (w : Scene) (r x : Said × Turn) → turn_takes x.1 ≡ true → Comes (Ok x) r → takes_some w r ≡ true
asked w r x takes is =
    subst (λ (y : Said × Turn). takes_some w y ≡ true) (let e : x ≡ r = (cc) in e) (takes_by_turn w x takes)

loading_takes : (w : Scene) (selector : ℕ) (args : List ℕ) (r : Said × Turn) (loads : Bool) → loads ≡ true
    → loaded_by loads w selector args ≡ Ok r → takes_some w r ≡ true
loading_takes w selector args r true some is =
    asked w r (silent (waits w selector args), turn.Load (reference.file_name w (arg args 0))) refl is
loading_takes w selector args r false some is = absurd (cc)

there_some : (xs : List ℕ) → xs ≢ [] → has_some xs ≡ true
there_some [] some = absurd (some refl)
there_some (x ∷ xs) some = refl

-- the words of a prompt, wrapped or not
words_some : (b : Bool) (w : Scene)
    → has_some (if b then then_said (wrapped_text (record w { fresh = false }) prompt_words) row_let_go
    else (record w { fresh = false }, prompt_words)).1 ≡ true
words_some true w = there_some _ (let_go_some w.row _ _)
words_some false w = refl

pub prompt_takes : (w : Scene) (args : List ℕ) (r : Said × Turn) → is_composed w ≡ false
    → reference.fileref_create_by_prompt w args ≡ Ok r → takes_some w r ≡ true
unfolding reference.fileref_create_by_prompt show_prompt
prompt_takes w args r beside is =
    let shown : Said = show_prompt w in
    let text : has_some shown.1 ≡ true = rw beside (words_some (is_wrapping w) w) in
    subst (λ (x : Said × Turn). takes_some w x ≡ true)
    (let e : ((waits shown.0 selectors.fileref_create_by_prompt args, shown.1), turn.Prompt) ≡ r = (cc) in e)
    (takes_by_text w ((waits shown.0 selectors.fileref_create_by_prompt args, shown.1), turn.Prompt) text)

pub delete_takes : (w : Scene) (args : List ℕ) (r : Said × Turn) → reference.fileref_delete_file w args ≡ Ok r
    → takes_some w r ≡ true
unfolding reference.fileref_delete_file
delete_takes w args r is = asked w r _ refl is

pub exist_takes : (w : Scene) (args : List ℕ) (r : Said × Turn) → reference.fileref_does_file_exist w args ≡ Ok r
    → takes_some w r ≡ true
unfolding reference.fileref_does_file_exist
exist_takes w args r is = asked w r _ refl is

-- ---- the calls, row by row

-- what a call takes, beside where it may want memory
abbrev pub Law : CallRow → Type 0
Law row =
    (w : Scene) (f : FlatState) (room : ℕ) (args : List ℕ) (r : Said × Turn)
    → is_left_out w row.looks.number args ≡ false → is_on_none row.looks args ≡ false → row.wants w f args ≡ true
    → done row.does w f room args ≡ Ok r → takes_some w r ≡ true

-- a stream that isn't there is put nothing
pub no_stream : {P : Type 0} (there more : Bool) → (there || false) ≡ false → (there && more) ≡ true → P
no_stream true more gone some = absurd (cc)
no_stream false more gone some = absurd (cc)

-- an object that isn't 0 is left out
pub some_object : {P : Type 0} (none : Bool) → not none ≡ false → none ≡ false → P
some_object true out on = absurd (cc)
some_object false out on = absurd (cc)

pub gestalt_ext_takes : (w : Scene) (f : FlatState) (args : List ℕ) → has_glyphs args ≡ true
    → Takes w (gestalt_ext w f args)
unfolding gestalt_ext
gestalt_ext_takes w f args some =
    let place : Places = record { at = arg args 2; width = 4; count = if has_glyphs args then 1 else 0 } in
    let reply : Reply = record {
      value = gestalt_answer (arg args 0) (arg args 1);
      pushes = [];
      writes = char_writes place (1 ∷ []);
    } in
    behind w (can_lay f place) (λ _. answered w reply)
    (λ _ _. gives w (silent w) reply (first_of_two (has_some (char_writes place (1 ∷ []))) false (rw some refl)))

pub iterate_takes : (w : Scene) (f : FlatState) (room : ℕ) (args : List ℕ) → (arg args 1 == 0) ≡ false
    → Takes w (window.window_iterate w f room args)
unfolding window.window_iterate
iterate_takes w f room args some = gives_one w w f room _ (arg args 1) _ [] some

pub open_takes : (w : Scene) (args : List ℕ) → can_open w (arg args 0) (arg args 1) (arg args 3) ≡ true
    → Takes w (window.window_open w args)
unfolding window.window_open
open_takes w args may =
    leaves w _ _ (opened_more w (arg args 0) (arg args 1) (arg args 2) (arg args 3) (arg args 4) may)

pub closed_takes : (w : Scene) (f : FlatState) (room : ℕ) (args : List ℕ)
    → (closing_grows w.windows (arg args 0) || not (arg args 1 == 0)) ≡ true
    → Takes w (window.window_close w f room args)
unfolding window.window_close
closed_takes w f room args some =
    let closed : Scene = without_window w (arg args 0) in
    elim (either (closing_grows w.windows (arg args 0)) (not (arg args 1 == 0)) some) [
      | inl grows ↦ behind w _ (λ reply. answered closed reply)
          (λ reply _. leaves w closed reply (closed_more w (arg args 0) grows))
      | inr given ↦ gives_one w closed f room 0 (arg args 1) _ _ (not_so (arg args 1 == 0) given)
    ]

pub size_takes : (w : Scene) (f : FlatState) (room : ℕ) (args : List ℕ)
    → (not (arg args 1 == 0) || not (arg args 2 == 0)) ≡ true → Takes w (window.window_get_size w f room args)
unfolding window.window_get_size
size_takes w f room args some =
    gives_each w w f room 0 (arg args 1 ∷ arg args 2 ∷ []) _ (omega arith) (grind (arith, some))

pub arrange_takes : (w : Scene) (args : List ℕ)
    → arranging_grows w.windows (arg args 0) (arg args 1) (arg args 2) (arg args 3) ≡ true
    → Takes w (window.window_set_arrangement w args)
unfolding window.window_set_arrangement
arrange_takes w args some = leaves w _ _ (arranged_more w (arg args 0) (arg args 1) (arg args 2) (arg args 3) some)

pub arrangement_takes : (w : Scene) (f : FlatState) (room : ℕ) (args : List ℕ)
    → ((not (arg args 1 == 0) || not (arg args 2 == 0)) || not (arg args 3 == 0)) ≡ true
    → Takes w (window.window_get_arrangement w f room args)
unfolding window.window_get_arrangement
arrangement_takes w f room args some =
    gives_each w w f room 0 (arg args 1 ∷ arg args 2 ∷ arg args 3 ∷ []) _ (omega arith) (grind (arith, some))

pub stream_iterate_takes : (w : Scene) (f : FlatState) (room : ℕ) (args : List ℕ) → (arg args 1 == 0) ≡ false
    → Takes w (stream.stream_iterate w f room args)
unfolding stream.stream_iterate
stream_iterate_takes w f room args some = gives_one w w f room _ (arg args 1) _ [] some

pub memory_takes : (w : Scene) (args : List ℕ) (wide : Bool)
    → (one.allows_mode (stream.memory_kind args wide) (arg args 2) && is_identifier w.next_id) ≡ true
    → Takes w (stream.stream_open_memory w args wide)
unfolding stream.stream_open_memory
memory_takes w args wide may =
    let so = both (one.allows_mode (stream.memory_kind args wide) (arg args 2)) (is_identifier w.next_id) may in
    by_test w (not (one.allows_mode (stream.memory_kind args wide) (arg args 2))) _ _
    (λ no. absurd (let e = so.0 in
    let none = not_so (one.allows_mode (stream.memory_kind args wide) (arg args 2)) no in cc))
    (λ _. leaves w _ _ (stream_more w (stream.memory_kind args wide) (arg args 2) (arg args 3) so.1))

pub temp_takes : (w : Scene) (args : List ℕ) → is_identifier w.next_id ≡ true
    → Takes w (reference.fileref_create_temp w args)
unfolding reference.fileref_create_temp
temp_takes w args may = leaves w _ _ (reference_more w _ _ _ may)

pub by_name_takes : (w : Scene) (f : FlatState) (args : List ℕ) → is_identifier w.next_id ≡ true
    → Takes w (reference.fileref_create_by_name w f args)
unfolding reference.fileref_create_by_name
by_name_takes w f args may =
    let base : ℕ → List ℕ = λ count. base_of (string_chars f 1 (arg args 1) count) in
    behind w (string_length f 1 (arg args 1)) (λ count. reference.created w (base count) (arg args 0) (arg args 2))
    (λ count _. leaves w (with_reference w (base count) (arg args 0) (arg args 2)) (replies (new_id w))
    (reference_more w (base count) (arg args 0) (arg args 2) may))

pub reference_iterate_takes : (w : Scene) (f : FlatState) (room : ℕ) (args : List ℕ) → (arg args 1 == 0) ≡ false
    → Takes w (reference.fileref_iterate w f room args)
unfolding reference.fileref_iterate
reference_iterate_takes w f room args some = gives_one w w f room _ (arg args 1) _ [] some

pub copied_takes : (w : Scene) (args : List ℕ) → (has_reference w (arg args 1) && is_identifier w.next_id) ≡ true
    → Takes w (reference.fileref_create_from_fileref w args)
unfolding reference.fileref_create_from_fileref
copied_takes w args may =
    let so = both (has_reference w (arg args 1)) (is_identifier w.next_id) may in
    by_test w (has_reference w (arg args 1)) _ _ (λ _. leaves w _ _ (reference_more w _ _ _ so.1))
    (λ no. absurd (let e = so.0 in cc))

chars_take : (w : Scene) (f : FlatState) (from : ℕ) (stops : Bool) (most width at : ℕ)
    → ((stops ≡ true) ⊎ (input.has_read (input.reading w f from stops most) ≡ true))
    → Takes w (input.get_chars w f from stops most width at)
unfolding input.get_chars
chars_take w f from stops most width at some =
    let buffer : List ℕ × ℕ → Places = λ got. buffer_for at width (length got.0 + ending_len stops) in
    let said : List ℕ × ℕ → Said = λ got. silent (chars_got w from got.1 (length got.0)) in
    let cs : List ℕ × ℕ → List ℕ = λ got. got.0 ++ ending stops in
    behind w (input.reading w f from stops most)
    (λ got. can_lay f (buffer got) >>= λ _. Ok (said got, reply_filling (length got.0) (buffer got) (cs got)))
    (λ got is. behind w (can_lay f (buffer got))
    (λ _. Ok (said got, reply_filling (length got.0) (buffer got) (cs got)))
    (λ _ _. fills w (said got) (length got.0) (buffer got) (cs got)
    (some_chars got stops (input.reading w f from stops most) is some)))

pub line_takes : (w : Scene) (f : FlatState) (width : ℕ) (args : List ℕ) → (arg args 2 == 0) ≡ false
    → Takes w (input.get_line width w f args)
line_takes w f width args some =
    by_test w (arg args 2 == 0) _ _ (λ none. absurd (let e = some in cc))
    (λ _. chars_take w f (arg args 0) true (arg args 2 - 1) width (arg args 1) (inl refl))

pub buffer_takes : (w : Scene) (f : FlatState) (width : ℕ) (args : List ℕ) → input.get_buffer_grows w f args ≡ true
    → Takes w (input.get_buffer width w f args)
buffer_takes w f width args some = chars_take w f (arg args 0) false (arg args 2) width (arg args 1) (inr some)

pub case_takes : (w : Scene) (f : FlatState) (first others : Case) (args : List ℕ)
    → nat_lt 0 (characters.buffer_of args).count ≡ true → Takes w (characters.buffer_to_case w f first others args)
unfolding characters.buffer_to_case
case_takes w f first others args some =
    let buffer = characters.buffer_of args in
    let chars : List ℕ = characters.recased first others (numbers_in 4 f.memory (arg args 0) buffer.count) in
    behind w (can_read f (arg args 0) (4 * buffer.count))
    (λ _. can_lay f buffer >>= λ _. answered w (reply_filling (arg args 2) buffer chars))
    (λ _ _. behind w (can_lay f buffer) (λ _. answered w (reply_filling (arg args 2) buffer chars))
    (λ _ _. fills w (silent w) (arg args 2) buffer chars (grind (arith, nat_tests, some))))

pub poll_takes : (w : Scene) (f : FlatState) (room : ℕ) (args : List ℕ) → (arg args 0 == 0) ≡ false
    → Takes w (events.select_poll w f room args)
unfolding events.select_poll
poll_takes w f room args some = gives_one w w f room 0 (arg args 0) _ _ some

asks_takes : (w : Scene) (r : Request) → events.may_ask w r.win ≡ true → Takes w (events.requested w r)
asks_takes w r may = leaves w _ _ (request_more w r may)

pub line_event_takes : (w : Scene) (wide : Bool) (args : List ℕ) → events.may_ask w (arg args 0) ≡ true
    → Takes w (events.request_line_event wide w args)
unfolding events.request_line_event
line_event_takes w wide args may = asks_takes w _ may

pub char_event_takes : (w : Scene) (wide : Bool) (args : List ℕ) → events.may_ask w (arg args 0) ≡ true
    → Takes w (events.request_char_event wide w args)
unfolding events.request_char_event
char_event_takes w wide args may = asks_takes w _ may

pub cancel_takes : (w : Scene) (f : FlatState) (room : ℕ) (args : List ℕ) → (arg args 1 == 0) ≡ false
    → Takes w (events.cancel_line_event w f room args)
unfolding events.cancel_line_event
cancel_takes w f room args some = elim (events.is_for true (requests.of w.requests (arg args 0))) as (λ b. Takes w
    (give f room 0 (arg args 1) (if b then events.event line_event_type (arg args 0) 0 else events.no_event)
    >>= λ reply. answered (if b then events.without_request w (arg args 0) else w) reply)) [
      | true ↦ gives_one w (events.without_request w (arg args 0)) f room 0 (arg args 1) _ _ some
      | false ↦ gives_one w w f room 0 (arg args 1) _ _ some
    ]

-- ---- those that take turns

pub file_takes : (w : Scene) (selector : ℕ) (args : List ℕ) (r : Said × Turn) → reference.opening_grows w args ≡ true
    → reference.stream_open_file selector w args ≡ Ok r → takes_some w r ≡ true
unfolding reference.stream_open_file reference.open_with
file_takes w selector args r some is =
    let loads : Bool = reference.mode_loads (arg args 1) in
    let left : Bool = is_identifier w.next_id in
    elim (there_or_not (arg args 1 == write_mode)) [
      | inl writes ↦
          let may : left ≡ true = (both (arg args 1 == write_mode || loads) left some).1 in
          let form : FileForm = reference.form_for selector (reference_at w (arg args 0)).usage in
          let kind : StreamKind = kinds.File (reference.file_name w (arg args 0)) [] form in
          leaves w _ _ (stream_more w kind (arg args 1) (arg args 2) may) r
          (rw writes at is)
      | inr other ↦ loading_takes w selector args r (loads && left) (rw other at some) (rw other at is)
    ]

close_takes : (w : Scene) (f : FlatState) (room : ℕ) (args : List ℕ) (r : Said × Turn) (file : Option (List ℕ × List ℕ))
    → (not (arg args 1 == 0) && not (is_some file)) ≡ true → stream.closing_by file w f room args ≡ Ok r
    → takes_some w r ≡ true
unfolding stream.close
close_takes w f room args r None some is =
    let given : (arg args 1 == 0) ≡ false = grind (arith, some) in
    let closed : Scene =
    if one.window_of (stream.stream_of w (arg args 0)) == 0 then without_stream w (arg args 0) else w in
    gives_one w closed f room 0 (arg args 1) _ _ given r is
close_takes w f room args r (Some file) some is = absurd (grind (arith, some))

pub closing_takes : (w : Scene) (f : FlatState) (room : ℕ) (args : List ℕ) (r : Said × Turn)
    → (not (arg args 1 == 0) && not (is_some (stream.file_to_store w (arg args 0)))) ≡ true
    → stream.stream_close w f room args ≡ Ok r → takes_some w r ≡ true
unfolding stream.stream_close
closing_takes w f room args r some is = close_takes w f room args r (stream.file_to_store w (arg args 0)) some is
