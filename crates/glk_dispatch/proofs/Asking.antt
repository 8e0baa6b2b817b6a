-- What a call asks, it goes on with: proved once over the rows that take turns.
use Rattle.std.proofs.Common.{◌≡◌, ◌⊎◌, ◌==◌, ◌&&◌, ℕ, Bool, true, false, if◌then◌else◌, List, [], ◌∷◌}
use Rattle.std.proofs.Common.{Option, Some, None, is_none, Result, Ok, Err, refl, subst, inl, inr}
use Rattle.std.specs.Prelude.{IfOk}
use Rattle.gx_words.specs.Results.{◌>>=◌}
use Rattle.gx_state.specs.Flat.{FlatState}
use Rattle.gx_state.specs.declared.effects.Reply.{Reply}
use Rattle.glk_streams.specs.Streams as streams
use Rattle.glk_events.specs.declared.requests.Request.{Request}
use Rattle.glk_events.specs.Requests.{oldest}
use Rattle.gx_words.specs.declared.faults.Fault.{Fault}
use Rattle.gx_words.specs.declared.faults.Fault.TheVariants.{BadGlk}
use Rattle.glk_world.specs.Shown.{show_prompt}
use Rattle.glk_world.specs.World.{Scene, Said, FlatWorld, MakesCall, silent, after, on_world, Outcome, has_reference}
use Rattle.glk_world.specs.World.{waits}
use Rattle.glk_world.specs.World.{arg}
use Rattle.glk_world.specs.Calls.{is_identifier, without_file}
use Rattle.glk_replies.specs.Numbers as selectors
use Rattle.glk_replies.specs.TextNumbers as texts
use Rattle.glk_replies.specs.Parts.{replies, give, can_give_pair}
use Rattle.glk_replies.specs.declared.Turn.{Turn}
use Rattle.glk_replies.specs.declared.Turn.TheVariants as turn
use Rattle.glk_replies.specs.declared.Given.{Given}
use Rattle.glk_replies.specs.declared.Given.TheVariants as given
use Rattle.glk_replies.specs.Turns.{IsGivenFor}
use Rattle.glk_streams.specs.Constants.{write_mode}
use Rattle.glk_object_calls.specs.Streams.{stream_close, closing_by, file_to_store, close}
use Rattle.glk_object_calls.specs.References.{stream_open_file, open_with, mode_loads, file_name}
use Rattle.glk_object_calls.specs.References.{fileref_create_by_prompt}
use Rattle.glk_object_calls.specs.References.{fileref_delete_file, fileref_does_file_exist}
use Rattle.glk_event_calls.specs.Events.{select, no_event}
use Rattle.glk_dispatch.specs.declared.table.Selector.{Selector}
use Rattle.glk_dispatch.specs.CallRows.{Doing, answers, turns, CallRow}
use Rattle.glk_dispatch.specs.ObjectCalls.{exits, window_calls, stream_calls}
use Rattle.glk_dispatch.specs.TextCalls.{text_calls, event_calls, unicode_calls}
use Rattle.glk_dispatch.specs.Table.{call_table, row_in, row_for, is_dropped}
use Rattle.glk_object_calls.specs.Answers.{tells, as_turn}
use Rattle.glk_dispatch.specs.Calls.{looked_at, is_on_none, nothing, done, glk_call}
use Rattle.glk_dispatch.specs.Ready.{IsReady}
use Rattle.glk_dispatch.specs.Turns.{HasRequest, Awaits, Looked}
use Rattle.glk_dispatch.proofs.Memory.{both}
use Rattle.glk_dispatch.proofs.Ready.{call_by, ready_looks}
use Rattle.glk_dispatch.proofs.Waiting.{taken_there, taken_windowless}

-- of a state of the machine, and room for what is pushed
module _ (f : FlatState) (room : ℕ) where
  -- a call goes on with this, and has looked at all that it gives
  abbrev IsReadyToGoOn : Scene → Given → Type 0
  IsReadyToGoOn w g = Awaits w g × Looked f room w g

  -- what a turn asks for is what the call goes on with, and what it needs was looked at
  abbrev IsAsked : Said × Turn → Type 0
  IsAsked r = (g : Given) → IsGivenFor r.1 g → IsReadyToGoOn r.0.0 g

  -- an answer asks for nothing
  answer_asks : (said : Said) (reply : Reply) → IsAsked (said, turn.Answer reply)
  answer_asks said reply g for = absurd for

  answered_asks : (outcome : Outcome Reply) (r : Said × Turn) → as_turn outcome ≡ Ok r → IsAsked r
  answered_asks (Ok said) r is = let same : (said.0, turn.Answer said.1) ≡ r = (cc) in
      subst IsAsked same (answer_asks said.0 said.1)
  answered_asks (Err e) r is = absurd (cc)

  abbrev Asks : (Scene → FlatState → ℕ → List ℕ → Outcome Turn) → Selector → Type 0
  Asks call looks =
      (w : Scene) (args : List ℕ) (r : Said × Turn) → IsReady looks w args → call w f room args ≡ Ok r → IsAsked r

  -- ---- the calls that take turns

  exits_asks : (w : Scene) (args : List ℕ) (r : Said × Turn) → exits w args ≡ Ok r → IsAsked r
  exits_asks w args r is = let same : (silent w, turn.Exit) ≡ r = (cc) in subst IsAsked same (λ g for. absurd for)

  load_asked : (w : Scene) (selector : ℕ) (args name : List ℕ)
      → (selector ≡ selectors.stream_open_file) ⊎ (selector ≡ selectors.stream_open_file_uni)
      → has_reference w (arg args 0) ≡ true → mode_loads (arg args 1) ≡ true
      → IsAsked (silent (waits w selector args), turn.Load name)
  unfolding Awaits Looked
  load_asked w selector args name opens there mode (given.Line line) for = absurd for
  load_asked w selector args name opens there mode (given.Loaded load) for = ((opens, there, mode, for), tt)
  load_asked w selector args name opens there mode given.Stored for = absurd for
  load_asked w selector args name opens there mode (given.Was was) for = absurd for

  -- an asking behind a look
  then_asks : {X : Type 0} (look : Result X Fault) (asked r : Said × Turn) → IsAsked asked
      → (look >>= λ _. Ok asked) ≡ Ok r → IsAsked r
  then_asks (Ok _) asked r asks is = let same : asked ≡ r = (cc) in subst IsAsked same asks
  then_asks (Err e) asked r asks is = absurd (cc)

  -- the same, where what is asked rests on the look
  looked_asks : (look : Result (Unit {0}) Fault) (asked r : Said × Turn) → (look ≡ Ok tt → IsAsked asked)
      → (look >>= λ _. Ok asked) ≡ Ok r → IsAsked r
  looked_asks (Ok _) asked r asks is = let same : asked ≡ r = (cc) in subst IsAsked same (asks refl)
  looked_asks (Err e) asked r asks is = absurd (cc)

  by_mode : (writes loading : Bool) (opened : Outcome Reply) (asked : Said × Turn) (w : Scene) (reply : Reply)
      (r : Said × Turn) → (loading ≡ true → IsAsked asked)
      → (if writes then as_turn opened else if loading then Ok asked
      else Ok (silent w, turn.Answer reply)) ≡ Ok r → IsAsked r
  by_mode true loading opened asked w reply r asks is = answered_asks opened r is
  by_mode false true opened asked w reply r asks is = let same : asked ≡ r = (cc) in subst IsAsked same (asks refl)
  by_mode false false opened asked w reply r asks is =
      let same : (silent w, turn.Answer reply) ≡ r = (cc) in subst IsAsked same (answer_asks (silent w) reply)

  open_asks : (w : Scene) (selector : ℕ) (args : List ℕ) (r : Said × Turn)
      → (selector ≡ selectors.stream_open_file) ⊎ (selector ≡ selectors.stream_open_file_uni)
      → has_reference w (arg args 0) ≡ true → stream_open_file selector w args ≡ Ok r → IsAsked r
  unfolding stream_open_file
  open_asks w selector args r opens there is =
      let loads : Bool = mode_loads (arg args 1) in
      let left : Bool = is_identifier w.next_id in
      by_mode (arg args 1 == write_mode) (loads && left) (open_with w selector args [])
      (silent (waits w selector args), turn.Load (file_name w (arg args 0))) w (replies 0) r
      (λ may. load_asked w selector args (file_name w (arg args 0)) opens there (both loads left may).0) is

  store_asked : (w : Scene) (args : List ℕ) (file : List ℕ × List ℕ) → can_give_pair f room (arg args 1) ≡ Ok tt
      → streams.has w.streams (arg args 0) ≡ true
      → IsAsked (silent (waits (without_file w (arg args 0)) selectors.stream_close args), turn.Store file.0 file.1)
  unfolding Awaits Looked
  store_asked w args file looks there (given.Line line) for = absurd for
  store_asked w args file looks there (given.Loaded load) for = absurd for
  store_asked w args file looks there given.Stored for =
      ((refl, taken_there w (arg args 0) there, taken_windowless w (arg args 0) there), looks)
  store_asked w args file looks there (given.Was was) for = absurd for

  closing_asks : (file : Option (List ℕ × List ℕ)) (w : Scene) (args : List ℕ) (r : Said × Turn)
      → streams.has w.streams (arg args 0) ≡ true → closing_by file w f room args ≡ Ok r → IsAsked r
  closing_asks None w args r there is = answered_asks (close w f room args) r is
  closing_asks (Some file) w args r there is = looked_asks (can_give_pair f room (arg args 1))
      (silent (waits (without_file w (arg args 0)) selectors.stream_close args), turn.Store file.0 file.1) r
      (λ looks. store_asked w args file looks there) is

  close_asks : (w : Scene) (args : List ℕ) (r : Said × Turn) → streams.has w.streams (arg args 0) ≡ true
      → stream_close w f room args ≡ Ok r → IsAsked r
  unfolding stream_close
  close_asks w args r there is = closing_asks (file_to_store w (arg args 0)) w args r there is

  prompt_asked : (w : Scene) (args text : List ℕ)
      → IsAsked ((waits w selectors.fileref_create_by_prompt args, text), turn.Prompt)
  unfolding Awaits Looked
  prompt_asked w args text (given.Line line) for = (inr refl, tt)
  prompt_asked w args text (given.Loaded load) for = absurd for
  prompt_asked w args text given.Stored for = absurd for
  prompt_asked w args text (given.Was was) for = absurd for

  prompt_asks : (w : Scene) (args : List ℕ) (r : Said × Turn) → fileref_create_by_prompt w args ≡ Ok r → IsAsked r
  unfolding fileref_create_by_prompt
  prompt_asks w args r is =
      let shown : Said = show_prompt w in
      let same : ((waits shown.0 selectors.fileref_create_by_prompt args, shown.1), turn.Prompt) ≡ r = (cc) in
      subst IsAsked same (prompt_asked shown.0 args shown.1)

  remove_asked : (w : Scene) (args name : List ℕ)
      → IsAsked (silent (waits w selectors.fileref_delete_file args), turn.Remove name)
  unfolding Awaits Looked
  remove_asked w args name (given.Line line) for = absurd for
  remove_asked w args name (given.Loaded load) for = absurd for
  remove_asked w args name given.Stored for = absurd for
  remove_asked w args name (given.Was was) for = (inl refl, tt)

  delete_asks : (w : Scene) (args : List ℕ) (r : Said × Turn) → fileref_delete_file w args ≡ Ok r → IsAsked r
  unfolding fileref_delete_file
  delete_asks w args r is =
      let name : List ℕ = file_name w (arg args 0) in
      let same : (silent (waits w selectors.fileref_delete_file args), turn.Remove name) ≡ r = (cc) in
      subst IsAsked same (remove_asked w args name)

  has_asked : (w : Scene) (args name : List ℕ)
      → IsAsked (silent (waits w selectors.fileref_does_file_exist args), turn.Has name)
  unfolding Awaits Looked
  has_asked w args name (given.Line line) for = absurd for
  has_asked w args name (given.Loaded load) for = absurd for
  has_asked w args name given.Stored for = absurd for
  has_asked w args name (given.Was was) for = (inr refl, tt)

  exist_asks : (w : Scene) (args : List ℕ) (r : Said × Turn) → fileref_does_file_exist w args ≡ Ok r → IsAsked r
  unfolding fileref_does_file_exist
  exist_asks w args r is =
      let name : List ℕ = file_name w (arg args 0) in
      let same : (silent (waits w selectors.fileref_does_file_exist args), turn.Has name) ≡ r = (cc) in
      subst IsAsked same (has_asked w args name)

  has_request : (all : List Request) → is_none (oldest all) ≡ false → HasRequest all
  has_request [] is = absurd (cc)
  has_request (first ∷ all) is = tt

  event_asked : (w : Scene) (args : List ℕ) → HasRequest w.requests
      → IsAsked (silent (waits w texts.select args), turn.Wait)
  unfolding Awaits Looked
  event_asked w args has (given.Line line) for = (inl (refl, has), tt)
  event_asked w args has (given.Loaded load) for = absurd for
  event_asked w args has given.Stored for = absurd for
  event_asked w args has (given.Was was) for = absurd for

  abbrev waits_if : Scene → List ℕ → Bool → Said × Turn
  waits_if w args none = if none then (silent w, turn.Stuck) else (silent (waits w texts.select args), turn.Wait)

  wait_asked : (w : Scene) (args : List ℕ) (none : Bool) → is_none (oldest w.requests) ≡ none
      → IsAsked (waits_if w args none)
  wait_asked w args true is = λ g for. absurd for
  wait_asked w args false is = event_asked w args (has_request w.requests is)

  select_asks : (w : Scene) (args : List ℕ) (r : Said × Turn) → select w f room args ≡ Ok r → IsAsked r
  unfolding select
  select_asks w args r is =
      let none : Bool = is_none (oldest w.requests) in
      then_asks (give f room 0 (arg args 0) no_event) (waits_if w args none) r (wait_asked w args none refl) is

  -- ---- over the table

  -- of a row that takes turns, beside those of the others
  abbrev AskAnd : Doing → Selector → Type 0 → Type 0
  AskAnd (answers call) looks rest = rest
  AskAnd (turns call) looks rest = Asks call looks × rest

  abbrev AllAsk : List CallRow → Type 0
  AllAsk [] = Unit {0}
  AllAsk (row ∷ rows) = AskAnd row.does row.looks (AllAsk rows)

  table_asks : AllAsk call_table
  unfolding window_calls stream_calls text_calls event_calls unicode_calls
  table_asks = (
    (λ w args r ready is. exits_asks w args r is),
    (
      (λ w args r ready is. open_asks w selectors.stream_open_file args r (inl refl) ready.0 is),
      (
        (λ w args r ready is. close_asks w args r ready.0 is),
        (
          (λ w args r ready is. prompt_asks w args r is),
          (
            (λ w args r ready is. delete_asks w args r is),
            (
              (λ w args r ready is. exist_asks w args r is),
              (
                (λ w args r ready is. select_asks w args r is),
                ((λ w args r ready is. open_asks w selectors.stream_open_file_uni args r (inr refl) ready.0 is), tt),
              ),
            ),
          ),
        ),
      ),
    ),
  )

  first_asks : (does : Doing) (looks : Selector) (rest : Type 0) → AskAnd does looks rest → Asks (done does) looks
  first_asks (answers call) looks rest all = λ w args r ready is. answered_asks (call w f room args) r is
  first_asks (turns call) looks rest all = all.0

  rest_ask : (does : Doing) (looks : Selector) (rest : Type 0) → AskAnd does looks rest → rest
  rest_ask (answers call) looks rest all = all
  rest_ask (turns call) looks rest all = all.1

  row_asks : (number : ℕ) (rows : List CallRow) (row : CallRow) → AllAsk rows → row_in rows number ≡ Some row
      → Asks (done row.does) row.looks
  row_asks number [] row all is = absurd (cc)
  row_asks number (one ∷ rows) row all is = elim (one.looks.number == number) as
      (λ b. (if b then Some one else row_in rows number) ≡ Some row → Asks (done row.does) row.looks) [
        | true ↦ λ h. let same : one ≡ row = (cc) in
            subst (λ x. Asks (done x.does) x.looks) same (first_asks one.does one.looks (AllAsk rows) all)
        | false ↦ λ h. row_asks number rows row (rest_ask one.does one.looks (AllAsk rows) all) h
      ] is

  -- ---- of the call

  on_none : (none : Bool) (w : Scene) (row : CallRow) (args : List ℕ) (r : Said × Turn) → is_on_none row.looks args ≡ none
      → looked_at w row.looks args ≡ Ok tt → Asks (done row.does) row.looks
      → (if none then as_turn (nothing w f room row.looks args) else done row.does w f room args) ≡ Ok r → IsAsked r
  on_none true w row args r same ok asks is = answered_asks (nothing w f room row.looks args) r is
  on_none false w row args r same ok asks is = asks w args r (ready_looks w row.looks args ok same) is

  on_looks : (look : Result (Unit {0}) Fault) (w : Scene) (row : CallRow) (args : List ℕ) (r : Said × Turn)
      → looked_at w row.looks args ≡ look → Asks (done row.does) row.looks
      → (look >>= λ _. if is_on_none row.looks args then as_turn (nothing w f room row.looks args)
      else done row.does w f room args) ≡ Ok r → IsAsked r
  on_looks (Ok _) w row args r same asks is = on_none (is_on_none row.looks args) w row args r refl same asks is
  on_looks (Err e) w row args r same asks is = absurd (cc)

  then_dropped : (drops : Bool) (w : Scene) (r : Said × Turn)
      → (if drops then as_turn (tells w 0) else Err BadGlk) ≡ Ok r → IsAsked r
  then_dropped true w r is = answered_asks (tells w 0) r is
  then_dropped false w r is = absurd (cc)

  found_asks : (found : Option CallRow) (w : Scene) (selector : ℕ) (args : List ℕ) (r : Said × Turn)
      → row_in call_table selector ≡ found → call_by found w f room selector args ≡ Ok r → IsAsked r
  found_asks None w selector args r same is = then_dropped (is_dropped selector) w r is
  found_asks (Some row) w selector args r same is =
      on_looks (looked_at w row.looks args) w row args r refl (row_asks selector call_table row table_asks same) is

  call_asks : (w : Scene) (selector : ℕ) (args : List ℕ) (r : Said × Turn) → glk_call w f room selector args ≡ Ok r
      → IsAsked r
  unfolding glk_call row_for
  call_asks w selector args r is = found_asks (row_in call_table selector) w selector args r refl is

  world_asks : (old new : FlatWorld) (asked : Turn) (outcome : Outcome Turn)
      → ((r : Said × Turn) → outcome ≡ Ok r → IsAsked r) → on_world old outcome ≡ Ok (new, asked) → (g : Given)
      → IsGivenFor asked g → IsReadyToGoOn new.scene g
  world_asks old new asked (Ok r) asks is =
      let same : (after old r.0, r.1) ≡ (new, asked) = (cc) in
      subst (λ (x : FlatWorld × Turn). (g : Given) → IsGivenFor x.1 g → IsReadyToGoOn x.0.scene g) same (asks r refl)
  world_asks old new asked (Err e) asks is = absurd (cc)

  asks_for : (old new : FlatWorld) (selector : ℕ) (args : List ℕ) (asked : Turn)
      → on_world old (glk_call old.scene f room selector args) ≡ Ok (new, asked) → (g : Given) → IsGivenFor asked g
      → IsReadyToGoOn new.scene g
  asks_for old new selector args asked is =
      world_asks old new asked (glk_call old.scene f room selector args) (call_asks old.scene selector args) is

-- what a call answers asks for what the world waits for, and the looks for that were made
pub turn_asks : (wants : Type 0) (result : Result Turn Fault) (old new : FlatWorld) (f : FlatState) (room selector : ℕ)
    (args : List ℕ) → MakesCall wants result old new (glk_call old.scene f room selector args)
    → IfOk result (λ asked. (g : Given) → IsGivenFor asked g → Awaits new.scene g)
turn_asks wants (Ok asked) old new f room selector args is =
    λ g for. (asks_for f room old new selector args asked is g for).0
turn_asks wants (Err e) old new f room selector args is = tt

pub turn_looks : (wants : Type 0) (result : Result Turn Fault) (old new : FlatWorld) (f : FlatState) (room selector : ℕ)
    (args : List ℕ) → MakesCall wants result old new (glk_call old.scene f room selector args)
    → IfOk result (λ asked. (g : Given) → IsGivenFor asked g → Looked f room new.scene g)
turn_looks wants (Ok asked) old new f room selector args is =
    λ g for. (asks_for f room old new selector args asked is g for).1
turn_looks wants (Err e) old new f room selector args is = tt
