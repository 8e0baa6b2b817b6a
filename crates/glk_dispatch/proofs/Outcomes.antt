-- Over the table of calls: one may want memory only where it comes to something that takes some.
use Rattle.std.proofs.Common.{◌≡◌, ◌==◌, ◌||◌, not, nat_lt, ℕ, zero, suc}
use Rattle.std.proofs.Common.{Bool, true}
use Rattle.std.proofs.Common.{false}
use Rattle.std.proofs.Common.{if◌then◌else◌, List, [], ◌∷◌, ◌++◌, map, replicate, Option, Some, None}
use Rattle.std.proofs.Common.{Result, Ok, Err, IsOk, refl, subst, inl, inr, arith}
use Rattle.std.specs.List.{list_all}
use Rattle.std.proofs.lemmas.Bool.Decides.{nat_tests}
use Rattle.gx_words.specs.Results.{◌>>=◌}
use Rattle.gx_words.specs.declared.faults.Fault.{Fault}
use Rattle.gx_words.specs.declared.faults.Fault.TheVariants.{NoMemory}
use Rattle.gx_state.specs.Flat.{FlatState}
use Rattle.gx_state.specs.declared.effects.Reply.{Reply}
use Rattle.glk_world.specs.World.{Scene, Said, FlatWorld, MakesCall, silent, on_world, Outcome, answered}
use Rattle.glk_world.specs.World.{is_composed}
use Rattle.glk_world.specs.World.{arg}
use Rattle.glk_replies.specs.Numbers as selectors
use Rattle.glk_replies.specs.Parts.{give, give_each, some_given}
use Rattle.glk_replies.specs.declared.Turn.{Turn}
use Rattle.glk_dispatch.specs.declared.table.Selector.{Selector}
use Rattle.glk_object_calls.specs.Answers.{as_turn}
use Rattle.glk_dispatch.specs.Calls.{done, looked_at, is_on_none, nothing, gives_nothing, glk_call, grows, IsGrowing}
use Rattle.glk_dispatch.proofs.Ready.{call_by, grows_by}
use Rattle.glk_dispatch.specs.CallRows.{CallRow}
use Rattle.glk_dispatch.specs.ObjectCalls.{window_calls, stream_calls}
use Rattle.glk_dispatch.specs.TextCalls.{text_calls, event_calls, unicode_calls}
use Rattle.glk_dispatch.specs.Table.{call_table, row_in, row_for}
use Rattle.glk_dispatch.specs.Memory.{gives_some, takes_some, is_left_out, TakesMemory}
use Rattle.glk_dispatch.proofs.Memory.{not_so, there_or_not, both, Takes, gives, behind, by_test, give_some}
use Rattle.glk_dispatch.proofs.Memory.{give_each_some, prompt_takes, delete_takes, exist_takes, Law, no_stream}
use Rattle.glk_dispatch.proofs.Memory.{some_object}
use Rattle.glk_dispatch.proofs.Memory.{gestalt_ext_takes}
use Rattle.glk_dispatch.proofs.Memory.{iterate_takes, open_takes, closed_takes, size_takes, arrange_takes, arrangement_takes}
use Rattle.glk_dispatch.proofs.Memory.{stream_iterate_takes, memory_takes, temp_takes, by_name_takes}
use Rattle.glk_dispatch.proofs.Memory.{reference_iterate_takes, copied_takes, line_takes, buffer_takes, case_takes}
use Rattle.glk_dispatch.proofs.Memory.{poll_takes, line_event_takes, char_event_takes, cancel_takes, file_takes}
use Rattle.glk_dispatch.proofs.Memory.{closing_takes}

-- ---- over the table

abbrev AllLaw : List CallRow → Type 0
AllLaw [] = Unit {0}
AllLaw (row ∷ rows) = Law row × AllLaw rows

-- a call that never wants memory
never : {P : Type 0} → false ≡ true → P
never wants = absurd (cc)

window_laws : AllLaw window_calls
unfolding window_calls
window_laws = (
  (λ w f room args r e on wants is. never wants),
  (
    (λ w f room args r e on wants is. never wants),
    (
      (λ w f room args r e on wants is. never wants),
      (
        (λ w f room args r e on wants is. gestalt_ext_takes w f args wants r is),
        (
          (λ w f room args r e on wants is. iterate_takes w f room args (not_so (arg args 1 == 0) wants) r is),
          (
            (λ w f room args r e on wants is. never wants),
            (
              (λ w f room args r e on wants is. never wants),
              (
                (λ w f room args r e on wants is. open_takes w args wants r is),
                (
                  (λ w f room args r e on wants is. closed_takes w f room args wants r is),
                  (
                    (λ w f room args r e on wants is. size_takes w f room args wants r is),
                    (
                      (λ w f room args r e on wants is. arrange_takes w args wants r is),
                      (
                        (λ w f room args r e on wants is. arrangement_takes w f room args wants r is),
                        (
                          (λ w f room args r e on wants is. never wants),
                          (
                            (λ w f room args r e on wants is. never wants),
                            (
                              (λ w f room args r e on wants is. never wants),
                              (
                                (λ w f room args r e on wants is. never wants),
                                (
                                  (λ w f room args r e on wants is. never wants),
                                  (
                                    (λ w f room args r e on wants is. never wants),
                                    (
                                      (λ w f room args r e on wants is. never wants),
                                      (
                                        (λ w f room args r e on wants is. never wants),
                                        (
                                          (λ w f room args r e on wants is. never wants),
                                          tt,
                                        ),
                                      ),
                                    ),
                                  ),
                                ),
                              ),
                            ),
                          ),
                        ),
                      ),
                    ),
                  ),
                ),
              ),
            ),
          ),
        ),
      ),
    ),
  ),
)

stream_laws : AllLaw stream_calls
unfolding stream_calls
stream_laws = (
  (λ w f room args r e on wants is. stream_iterate_takes w f room args (not_so (arg args 1 == 0) wants) r is),
  (
    (λ w f room args r e on wants is. never wants),
    (
      (λ w f room args r e on wants is. file_takes w selectors.stream_open_file args r wants is),
      (
        (λ w f room args r e on wants is. memory_takes w args false wants r is),
        (
          (λ w f room args r e on wants is. closing_takes w f room args r wants is),
          (
            (λ w f room args r e on wants is. never wants),
            (
              (λ w f room args r e on wants is. never wants),
              (
                (λ w f room args r e on wants is. never wants),
                (
                  (λ w f room args r e on wants is. never wants),
                  (
                    (λ w f room args r e on wants is. temp_takes w args wants r is),
                    (
                      (λ w f room args r e on wants is. by_name_takes w f args wants r is),
                      (
                        (λ w f room args r e on wants is. prompt_takes w args r (not_so (is_composed w) wants) is),
                        (
                          (λ w f room args r e on wants is. never wants),
                          (
                            (λ w f room args r e on wants is.
                                reference_iterate_takes w f room args (not_so (arg args 1 == 0) wants) r is),
                            (
                              (λ w f room args r e on wants is. never wants),
                              (
                                (λ w f room args r e on wants is. delete_takes w args r is),
                                (
                                  (λ w f room args r e on wants is. exist_takes w args r is),
                                  (
                                    (λ w f room args r e on wants is. copied_takes w args wants r is),
                                    tt,
                                  ),
                                ),
                              ),
                            ),
                          ),
                        ),
                      ),
                    ),
                  ),
                ),
              ),
            ),
          ),
        ),
      ),
    ),
  ),
)

text_laws : AllLaw text_calls
unfolding text_calls
text_laws = (
  (λ w f room args r e on wants is. no_stream _ _ e wants),
  (
    (λ w f room args r e on wants is. some_object (arg args 0 == 0) e on),
    (
      (λ w f room args r e on wants is. no_stream _ _ e wants),
      (
        (λ w f room args r e on wants is. some_object (arg args 0 == 0) e on),
        (
          (λ w f room args r e on wants is. no_stream _ _ e wants),
          (
            (λ w f room args r e on wants is. some_object (arg args 0 == 0) e on),
            (
              (λ w f room args r e on wants is. never wants),
              (
                (λ w f room args r e on wants is. never wants),
                (
                  (λ w f room args r e on wants is. never wants),
                  (
                    (λ w f room args r e on wants is. line_takes w f 1 args (not_so (arg args 2 == 0) wants) r is),
                    (
                      (λ w f room args r e on wants is. buffer_takes w f 1 args wants r is),
                      (
                        (λ w f room args r e on wants is. never wants),
                        (
                          (λ w f room args r e on wants is. never wants),
                          (
                            (λ w f room args r e on wants is. never wants),
                            (
                              (λ w f room args r e on wants is. never wants),
                              (
                                (λ w f room args r e on wants is. never wants),
                                (
                                  (λ w f room args r e on wants is. never wants),
                                  tt,
                                ),
                              ),
                            ),
                          ),
                        ),
                      ),
                    ),
                  ),
                ),
              ),
            ),
          ),
        ),
      ),
    ),
  ),
)

event_laws : AllLaw event_calls
unfolding event_calls
event_laws = (
  (λ w f room args r e on wants is. never wants),
  (
    (λ w f room args r e on wants is. poll_takes w f room args (not_so (arg args 0 == 0) wants) r is),
    (
      (λ w f room args r e on wants is. line_event_takes w false args wants r is),
      (
        (λ w f room args r e on wants is. cancel_takes w f room args (not_so (arg args 1 == 0) wants) r is),
        (
          (λ w f room args r e on wants is. char_event_takes w false args wants r is),
          (
            (λ w f room args r e on wants is. never wants),
            tt,
          ),
        ),
      ),
    ),
  ),
)

unicode_laws : AllLaw unicode_calls
unfolding unicode_calls
unicode_laws = (
  (λ w f room args r e on wants is. case_takes w f _ _ args wants r is),
  (
    (λ w f room args r e on wants is. case_takes w f _ _ args wants r is),
    (
      (λ w f room args r e on wants is. case_takes w f _ _ args wants r is),
      (
        (λ w f room args r e on wants is. no_stream _ _ e wants),
        (
          (λ w f room args r e on wants is. no_stream _ _ e wants),
          (
            (λ w f room args r e on wants is. no_stream _ _ e wants),
            (
              (λ w f room args r e on wants is. some_object (arg args 0 == 0) e on),
              (
                (λ w f room args r e on wants is. some_object (arg args 0 == 0) e on),
                (
                  (λ w f room args r e on wants is. some_object (arg args 0 == 0) e on),
                  (
                    (λ w f room args r e on wants is. never wants),
                    (
                      (λ w f room args r e on wants is. buffer_takes w f 4 args wants r is),
                      (
                        (λ w f room args r e on wants is. line_takes w f 4 args (not_so (arg args 2 == 0) wants) r is),
                        (
                          (λ w f room args r e on wants is.
                              file_takes w selectors.stream_open_file_uni args r wants is),
                          (
                            (λ w f room args r e on wants is. memory_takes w args true wants r is),
                            (
                              (λ w f room args r e on wants is. char_event_takes w true args wants r is),
                              (
                                (λ w f room args r e on wants is. line_event_takes w true args wants r is),
                                (
                                  (λ w f room args r e on wants is. never wants),
                                  tt,
                                ),
                              ),
                            ),
                          ),
                        ),
                      ),
                    ),
                  ),
                ),
              ),
            ),
          ),
        ),
      ),
    ),
  ),
)

all_append : (rows more : List CallRow) → AllLaw rows → AllLaw more → AllLaw (rows ++ more)
all_append [] more laws rest = rest
all_append (row ∷ rows) more laws rest = (laws.0, all_append rows more laws.1 rest)

table_laws : AllLaw call_table
table_laws =
    all_append window_calls _ window_laws
    (all_append stream_calls _ stream_laws
    (all_append text_calls _ text_laws (all_append event_calls _ event_laws unicode_laws)))

row_law : (number : ℕ) (rows : List CallRow) (row : CallRow) → AllLaw rows → row_in rows number ≡ Some row
    → (Law row) × ((row.looks.number == number) ≡ true)
row_law number [] row all is = absurd (cc)
row_law number (first ∷ rows) row all is =
    elim (there_or_not (first.looks.number == number)) [
      | inl here ↦
          let same : first ≡ row = (let e = rw here at is in cc) in
          subst (λ (x : CallRow). (Law x) × ((x.looks.number == number) ≡ true)) same (all.0, here)
      | inr other ↦ row_law number rows row all.1 (rw other at is)
    ]

-- a reference that is given zeros is given some
abbrev gives_words : Selector → Bool
gives_words row = not (row.references == 1) || nat_lt 0 row.words

words_given : list_all gives_words (map (λ row. row.looks) call_table) ≡ true
unfolding window_calls stream_calls text_calls event_calls unicode_calls
words_given = refl

row_words : (number : ℕ) (rows : List CallRow) (row : CallRow) → list_all gives_words (map (λ row. row.looks) rows) ≡ true
    → row_in rows number ≡ Some row → gives_words row.looks ≡ true
row_words number [] row all is = absurd (cc)
row_words number (first ∷ rows) row all is =
    let parts = both (gives_words first.looks) (list_all gives_words (map (λ row. row.looks) rows)) all in
    elim (there_or_not (first.looks.number == number)) [
      | inl here ↦
          let same : first ≡ row = (let e = rw here at is in cc) in
          subst (λ (x : CallRow). gives_words x.looks ≡ true) same parts.0
      | inr other ↦ row_words number rows row parts.1 (rw other at is)
    ]

-- ---- of a call that does nothing, and of each call

zeros_give : (f : FlatState) (room at words : ℕ) (reply : Reply) → nat_lt 0 words ≡ true → (at == 0) ≡ false
    → give f room 0 at (replicate words 0) ≡ Ok reply → gives_some reply ≡ true
zeros_give f room at zero reply some given is = absurd (cc)
zeros_give f room at (suc n) reply some given is = give_some f room 0 at 0 (replicate n 0) reply given is

zeros_given : (f : FlatState) (room : ℕ) (row : Selector) (args : List ℕ) (reply : Reply) → gives_words row ≡ true
    → (row.references == 0) ≡ false → gives_nothing row args ≡ true
    → (if row.references == 1 then give f room 0 (arg args 1) (replicate row.words 0) else
    if row.references == 2 then give_each f room 0 (arg args 1 ∷ arg args 2 ∷ []) (0 ∷ 0 ∷ []) else
    give_each f room 0 (arg args 1 ∷ arg args 2 ∷ arg args 3 ∷ []) (0 ∷ 0 ∷ 0 ∷ [])) ≡ Ok reply
    → gives_some reply ≡ true
zeros_given f room row args reply words any some is = elim (there_or_not (row.references == 1)) [
  | inl one ↦
      let n : row.references ≡ 1 = grind (arith, nat_tests, one) in
      let given : (arg args 1 == 0) ≡ false = (let e = rw n at some in grind (arith, nat_tests, e)) in
      let has : nat_lt 0 row.words ≡ true = (let e = rw one at words in e) in
      zeros_give f room (arg args 1) row.words reply has given (rw one at is)
  | inr more ↦ elim (there_or_not (row.references == 2)) [
    | inl two ↦
        let n : row.references ≡ 2 = grind (arith, nat_tests, two) in
        let given : some_given (arg args 1 ∷ arg args 2 ∷ []) ≡ true =
        (let e = rw n at some in grind (arith, nat_tests, e)) in
        give_each_some f room 0 (arg args 1 ∷ arg args 2 ∷ []) (0 ∷ 0 ∷ []) reply (omega arith) given
        (rw (more, two) at is)
    | inr three ↦
        let given : some_given (arg args 1 ∷ arg args 2 ∷ arg args 3 ∷ []) ≡ true = grind (arith, nat_tests, some) in
        give_each_some f room 0 (arg args 1 ∷ arg args 2 ∷ arg args 3 ∷ []) (0 ∷ 0 ∷ 0 ∷ []) reply (omega arith) given
        (rw (more, three) at is)
  ]
]

nothing_takes : (w : Scene) (f : FlatState) (room : ℕ) (row : Selector) (args : List ℕ) → gives_words row ≡ true
    → gives_nothing row args ≡ true → Takes w (nothing w f room row args)
unfolding nothing
nothing_takes w f room row args words some =
    by_test w (row.references == 0) _ _
    (λ none. absurd (let n : row.references ≡ 0 = grind (arith, nat_tests, none) in let e = rw n at some in cc))
    (λ any. behind w _ (λ reply. answered w reply)
    (λ reply is. gives w (silent w) reply (zeros_given f room row args reply words any some is)))

on_row : (none : Bool) (w : Scene) (f : FlatState) (room : ℕ) (row : CallRow) (args : List ℕ) (r : Said × Turn) → Law row
    → is_on_none row.looks args ≡ none → gives_words row.looks ≡ true
    → is_left_out w row.looks.number args ≡ false
    → (if none then gives_nothing row.looks args else row.wants w f args) ≡ true
    → (if none then as_turn (nothing w f room row.looks args) else done row.does w f room args) ≡ Ok r
    → takes_some w r ≡ true
on_row true w f room row args r law on words within wants is = nothing_takes w f room row.looks args words wants r is
on_row false w f room row args r law on words within wants is = law w f room args r within on wants is

behind_looks : (look : Result (Unit {0}) Fault) (w : Scene) (does : Outcome Turn) (r : Said × Turn)
    → (does ≡ Ok r → takes_some w r ≡ true) → (look >>= λ _. does) ≡ Ok r → takes_some w r ≡ true
behind_looks (Ok _) w does r takes is = takes is
behind_looks (Err e) w does r takes is = absurd (cc)

found_takes : (found : Option CallRow) (w : Scene) (f : FlatState) (room selector : ℕ) (args : List ℕ) (r : Said × Turn)
    → row_in call_table selector ≡ found → is_left_out w selector args ≡ false → grows_by found w f args ≡ true
    → call_by found w f room selector args ≡ Ok r → takes_some w r ≡ true
found_takes None w f room selector args r same within wants is = absurd (cc)
found_takes (Some row) w f room selector args r same within wants is =
    let law = row_law selector call_table row table_laws same in
    let number : row.looks.number ≡ selector = (let e = law.1 in grind (arith, nat_tests, e)) in
    let words = row_words selector call_table row words_given same in
    let out : is_left_out w row.looks.number args ≡ false = rw number within in
    behind_looks (looked_at w row.looks args) w
    (if is_on_none row.looks args then as_turn (nothing w f room row.looks args) else done row.does w f room args) r
    (λ does. on_row (is_on_none row.looks args) w f room row args r law.0 refl words out wants does) is

call_takes : (w : Scene) (f : FlatState) (room selector : ℕ) (args : List ℕ) (r : Said × Turn)
    → is_left_out w selector args ≡ false → grows w f selector args ≡ true → glk_call w f room selector args ≡ Ok r
    → takes_some w r ≡ true
unfolding glk_call grows row_for
call_takes w f room selector args r within wants is =
    found_takes (row_in call_table selector) w f room selector args r refl within wants is

taking : (w : Scene) (old : FlatWorld) (outcome : Outcome Turn)
    → ((r : Said × Turn) → outcome ≡ Ok r → takes_some w r ≡ true)
    → IsOk (on_world old outcome) → TakesMemory w outcome
taking w old (Ok r) takes fine = takes r refl
taking w old (Err e) takes fine = absurd (cc)

pub wants_for : (result : Result Turn Fault) (old new : FlatWorld) (f : FlatState) (room selector : ℕ) (args : List ℕ)
    → MakesCall (IsGrowing old.scene f selector args) result old new (glk_call old.scene f room selector args)
    → is_left_out old.scene selector args ≡ false → result ≡ Err NoMemory
    → TakesMemory old.scene (glk_call old.scene f room selector args)
wants_for (Ok x) old new f room selector args is within none = absurd (cc)
wants_for (Err e) old new f room selector args is within none =
    let same : e ≡ NoMemory = (cc) in
    let refused = is.1.1 same in
    taking old.scene old (glk_call old.scene f room selector args)
    (λ r does. call_takes old.scene f room selector args r within refused.0 does) refused.1
