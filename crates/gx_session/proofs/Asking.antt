-- What the effects of a step, and the answers to what it asks, make of a run.
use Rattle.std.proofs.Common.{◌≡◌, ◌≢◌, ℕ, ◌<◌, ◌≤◌, List, [], ◌∷◌, ◌++◌, length, ◌⊎◌, inl, inr, Bool, true, false}
use Rattle.std.proofs.Common.{Option, Some, None, is_some, IsSome, IsTrue, Result, Ok, Err, IsOk, IfOk, if◌then◌else◌, refl}
use Rattle.std.proofs.Common.{ap, subst, sym, ◌∙◌, append_assoc, arith}
use Rattle.arrayvec.specs.ArrayVec.{ArrayVec}
use Rattle.std.specs.List.{concat}
use Rattle.gx_words.specs.declared.faults.Fault.{Fault}
use Rattle.gx_words.specs.declared.faults.Fault.TheVariants as fault
use Rattle.gx_state.specs.Copies.{Copy}
use Rattle.gx_state.specs.Flat.{FlatState}
use Rattle.gx_state.specs.declared.effects.Effect.{Effect}
use Rattle.gx_state.specs.declared.effects.Effect.TheVariants as effect
use Rattle.gx_state.specs.declared.effects.Reply.{Reply}
use Rattle.gx_machine.specs.declared.askings.Asking.{Asking}
use Rattle.gx_machine.specs.Machine.{FlatMachine, Whole}
use Rattle.gx_machine.specs.Log.{Log, logged}
use Rattle.gx_machine.specs.Advancing.{logged_by}
use Rattle.gx_machine.specs.Step.{asking_of, stepped, IsStepWriting}
use Rattle.gx_machine.specs.WaysBack.{HasWaysBack}
use Rattle.gx_outside.specs.Outside.{FlatSource, FlatShelf}
use Rattle.gx_outside.specs.Shelves.{Request, Answer, Trace}
use Rattle.glk_world.specs.World.{Scene, FlatWorld, Said, after, on_world}
use Rattle.glk_world.specs.Shown.{show_grids, show_line, ShowWants}
use Rattle.glk_replies.specs.declared.Turn.{Turn}
use Rattle.glk_replies.specs.declared.Turn.TheVariants as turn
use Rattle.glk_replies.specs.declared.Given.{Given}
use Rattle.glk_replies.specs.declared.Given.TheVariants as given
use Rattle.glk_replies.specs.Turns.{IsAnswered}
use Rattle.glk_dispatch.specs.Calls.{glk_call, IsGrowing}
use Rattle.glk_dispatch.specs.Going.{glk_go_on, go_grows}
use Rattle.glk_dispatch.specs.Turns.{Awaits}
use Rattle.glk_text_calls.specs.Output.{putting}
use Rattle.glk_text_calls.specs.Putting.{put_grows_one}
use Rattle.gx_session.specs.declared.ends.Stop.{Stop}
use Rattle.gx_session.specs.declared.ends.Stop.TheVariants as stop
use Rattle.gx_session.specs.declared.ends.Halt.{Halt}
use Rattle.gx_session.specs.declared.ends.Halt.TheVariants as halt
use Rattle.gx_session.specs.declared.ends.Next.{Next}
use Rattle.gx_session.specs.Constants.{piece}
use Rattle.gx_session.specs.declared.questions.Question.{Question}
use Rattle.gx_session.specs.declared.questions.Question.TheVariants as asks-for
use Rattle.gx_session.specs.declared.running.GlkWait.{GlkWait}
use Rattle.gx_session.specs.Cuts.{IsLineStop}
use Rattle.gx_session.specs.Wants.{IsWait, ReplyWants, TurnWants, AskingWants}
use Rattle.gx_session.specs.Wants.{LineWants, WantsMemory}
use Rattle.gx_session.specs.Input.{NextLine, line, next_line}
use Rattle.gx_session.specs.Questions.{turn_of, request_for}
use Rattle.gx_session.specs.Reading.{ReadsFew}
use Rattle.glk_replies.specs.Parts.{replies}
use Rattle.gx_session.specs.Constants.{failed}
use Rattle.gx_session.specs.Saving.{is_save_begun, is_restore_begun, saving, restoring}
use Rattle.gx_session.specs.Configurations.{Configuration, Phase, steps, asks, goes_on, moves_to, stops}
use Rattle.gx_session.specs.Moves.{after_reply, after_restoring, asking_for, after_turn, after_given}
use Rattle.gx_session.specs.Moves.{request_of, after_line, given_of, shelf_gives, act_by, after_effect}
use Rattle.gx_session.specs.Asked.{effect_at, asked, asked_at}
use Rattle.gx_session.specs.Holding.{SendStep, Handed, HeldRun, WordIs, History, configuration_of, IsHistory}
use Rattle.gx_session.specs.Standing.{act_of, Standing, Ready, Going, IsInCall, HasStopped, Early, Follows, Resumes}
use Rattle.gx_session.specs.Standing.{ResumesWithReply, TakesTurn, GoesOn, TakesInput}
use Rattle.gx_session.specs.Outcomes.{EventGives, FaultGives}
use Rattle.gx_session.specs.Sound.{IsReadBack, IsSoundStep, IsSoundCall, IsSoundBy}
use Rattle.gx_session.proofs.Parts.{AnswerWants, BeginsSave, RestoreWants}
use Rattle.std.specs.Prelude.{IsOkAnd}
use Rattle.gx_session.proofs.Calling.{answered-and}
use Rattle.gx_session.proofs.Steps.{step-does, step-faults, step-asks, step-effect, step-only, step-none}
use Rattle.gx_session.proofs.Steps.{step-asks-nothing, ok-is, asked-same}
use Rattle.gx_session.proofs.NextLines.{shorter-input}
use Rattle.gx_session.proofs.Playing.{here, moves-on, stops-at, wants, wants-line}
use Rattle.gx_session.proofs.Sound.{RestoresBack, step-sound, only-one, only-none}
use Rattle.rand_core.specs.Stream.{Stream, next_u32}

-- a call on a world that is answered
pub world-ok : {X : Type 0} (w w' : FlatWorld) (r : Result (Said × X) Fault) (x : X) → on_world w r ≡ Ok (w', x)
    → (said : Said) × (r ≡ Ok (said, x)) × (w' ≡ after w said)
world-ok w w' (Ok p) x e =
    let same : (after w p.0, p.1) ≡ (w', x) = ok-is (after w p.0, p.1) (w', x) e in
    (p.0, ap (λ y. Ok (p.0, y)) (ap (λ q. q.1) same), sym (ap (λ q. q.0) same))
world-ok w w' (Err f) x e = cc

pub world-err : {X : Type 0} (w : FlatWorld) (r : Result (Said × X) Fault) (f : Fault) → on_world w r ≡ Err f
    → r ≡ Err f
world-err w (Ok p) f e = cc
world-err w (Err g) f e =
    let same : g ≡ f = cc in
    ap (λ (x : Fault). Err x) same

-- one that has no fault
pub world-fine : {X : Type 0} (w : FlatWorld) (r : Result (Said × X) Fault) → IsOk (on_world w r) → IsOk r
world-fine w (Ok p) fine = refl
world-fine w (Err g) fine = fine

word-drawn : (word : ℕ) (mine : Option ℕ) (stream words : Stream) → mine ≡ Some word → WordIs mine stream words
    → next_u32 words ≡ (word, stream)
word-drawn word mine stream words drawn is = subst (λ (w : Option ℕ). WordIs w stream words) drawn is

-- a fault stops the run where it isn't want of memory
pub fault-gives : {K : Type 0} {sending : SendStep K} → (start : Configuration) (entry : Handed sending) (h : HeldRun)
    (asking : Option Asking) (d : Handed sending) (f : Fault) (result : Result Next Halt) → FaultGives f result
    → (f ≡ fault.NoMemory → Early start entry h asking d halt.NoMemory)
    → (f ≢ fault.NoMemory → HasStopped start entry h asking d (stop.Faulted f))
    → EventGives start entry h asking d result
fault-gives start entry h asking d f result (inl e) early stopped =
    subst (EventGives start entry h asking d) (sym e.1) (early e.0)
fault-gives start entry h asking d f result (inr e) early stopped =
    subst (EventGives start entry h asking d) (sym e.1) (stopped e.0)

-- a turn that waits may want memory where what is shown then may
wait-wants : (log : Option Log) (machine : FlatMachine) (said : Said) (t : Turn) → IsWait t → ShowWants said.0
    → TurnWants log machine (said, t)
wait-wants log machine said (turn.Answer reply) is some = absurd is
wait-wants log machine said t is some = (is, some)

-- an effect that asks is done
not-spent : (does : Effect) → IsSome (asking_of does) → does ≢ effect.Spent
not-spent does some spent = let none : is_some (asking_of does) ≡ false =
    ap (λ (x : Effect). is_some (asking_of x)) spent in cc

-- an asking ends no event
asking-unlogged : (does : Effect) (log : Option Log) (m : FlatMachine) → IsSome (asking_of does)
    → logged_by does log m ≡ log
asking-unlogged (effect.Put c) log m some = refl
asking-unlogged (effect.Glk selector args room) log m some = refl
asking-unlogged (effect.Save stream) log m some = refl
asking-unlogged (effect.Restore stream) log m some = refl
asking-unlogged effect.Went log m some = cc
asking-unlogged effect.Drew log m some = cc
asking-unlogged effect.Quit log m some = cc
asking-unlogged effect.Spent log m some = cc

-- what a turn says of a question
pub request-is : (q : Question) → request_of (turn_of q) ≡ Some (request_for q)
request-is (asks-for.Load name) = refl
request-is (asks-for.Store name bytes) = refl
request-is (asks-for.Remove name) = refl
request-is (asks-for.Has name) = refl

pub question-gives : (m : Configuration) (w : GlkWait) (q : Question)
    → act_by (asks (turn_of q) w) m ≡ shelf_gives m w (Some (request_for q))
question-gives m w (asks-for.Load name) = refl
question-gives m w (asks-for.Store name bytes) = refl
question-gives m w (asks-for.Remove name) = refl
question-gives m w (asks-for.Has name) = refl

pub question-turns : (m : Configuration) (w : GlkWait) (said : Said) (q : Question)
    → after_turn m w (Ok (said, turn_of q)) ≡ asking_for m w (after m.world said) (turn_of q)
question-turns m w said (asks-for.Load name) = refl
question-turns m w said (asks-for.Store name bytes) = refl
question-turns m w said (asks-for.Remove name) = refl
question-turns m w said (asks-for.Has name) = refl

-- a restore that wants memory
restore-wants : (log : Option Log) (machine : FlatMachine) (r : Result (Said × Option Copy) Fault)
    → RestoreWants log machine r
    → (G : Type 0) → IsOkAnd r (λ p. G ⊎ IsSome p.1 ⊎ ReplyWants log machine (replies failed))
restore-wants log machine (Ok (said, Some copy)) is G = inr (inl refl)
restore-wants log machine (Ok (said, None)) is G = inr (inr is)
restore-wants log machine (Err fault) is G = absurd is

-- what an answer may want memory for: what it makes grow, or what it is
grows-fine : {X : Type 0} (G : Type 0) (P : X → Type 0) (r : Result X Fault) → IsOk r → G → IsOkAnd r (λ x. G ⊎ P x)
grows-fine G P (Ok x) fine grows = inl grows
grows-fine G P (Err f) fine grows = cc

takes-fine : {X : Type 0} (G : Type 0) (P : X → Type 0) (r : Result X Fault) (x : X) → r ≡ Ok x → P x
    → IsOkAnd r (λ x. G ⊎ P x)
takes-fine {X} G P r x e takes = subst (λ (y : Result X Fault). IsOkAnd y (λ x. G ⊎ P x)) (sym e) (inr takes)

-- a turn that waits
pub wait-asks : (m : Configuration) (w : GlkWait) (t : Turn) → IsWait t
    → act_by (asks t w) m ≡ after_line m w (next_line m.input)
wait-asks m w turn.Wait is = refl
wait-asks m w turn.Prompt is = refl
wait-asks m w (turn.Answer reply) is = absurd is
wait-asks m w turn.Stuck is = absurd is
wait-asks m w (turn.Load name) is = absurd is
wait-asks m w (turn.Store name bytes) is = absurd is
wait-asks m w (turn.Remove name) is = absurd is
wait-asks m w (turn.Has name) is = absurd is
wait-asks m w turn.Exit is = absurd is

pub wait-turns : (m : Configuration) (w : GlkWait) (said : Said) (t : Turn) → IsWait t
    → after_turn m w (Ok (said, t)) ≡ asking_for m w (after (after m.world said) (show_grids said.0)) t
wait-turns m w said turn.Wait is = refl
wait-turns m w said turn.Prompt is = refl
wait-turns m w said (turn.Answer reply) is = absurd is
wait-turns m w said turn.Stuck is = absurd is
wait-turns m w said (turn.Load name) is = absurd is
wait-turns m w said (turn.Store name bytes) is = absurd is
wait-turns m w said (turn.Remove name) is = absurd is
wait-turns m w said (turn.Has name) is = absurd is
wait-turns m w said turn.Exit is = absurd is

-- a turn that is answered is no other
pub answered-is : (t : Turn) → IsAnswered t → ((reply : Reply) → t ≡ turn.Answer reply → ⊥) → ⊥
answered-is (turn.Answer reply) is other = other reply refl
answered-is turn.Wait is other = is
answered-is turn.Stuck is other = is
answered-is turn.Prompt is other = is
answered-is (turn.Load name) is other = is
answered-is (turn.Store name bytes) is other = is
answered-is (turn.Remove name) is other = is
answered-is (turn.Has name) is other = is
answered-is turn.Exit is other = is

-- a world that has said something, with what was sent before
pub sent-before : (sent : List ℕ) (w : FlatWorld) (said : Said)
    → after (record { scene = w.scene; text = sent ++ w.text }) said
    ≡ record { scene = (after w said).scene; text = sent ++ (after w said).text }
sent-before sent w said = ap (λ (x : List ℕ). let y : FlatWorld = record { scene = said.0; text = x } in y)
    (append_assoc sent w.text said.1)

module _ {K : Type 0} {sending : SendStep K} (start : Configuration) (entry : Handed sending) (h : HeldRun)
    (d : Handed sending) where
  -- A step was answered with an effect, or refused.
  module _ (asking : Option Asking) (word : ℕ) (drawn : h.word ≡ Some word) (g : Going start entry h d) where
    abbrev m : Configuration
    m = here start entry h d steps g.now

    first : (next_u32 g.now.past.words).0 ≡ word
    first = ap (λ (p : ℕ × Stream). p.0) (word-drawn word h.word d.words g.now.past.words drawn g.now.is_past.word)

    pub step-follows : (w : Whole) (left : ℕ) (does : Effect)
        → stepped (record { machine = h.machine; asking = asking }) word h.left ≡ Ok ((w, left), does)
        → (IsSome (asking_of does) → w.machine ≡ h.machine) → (log : Option Log)
        → log ≡ logged_by does h.log h.machine → HasWaysBack h.machine
        → Follows start entry (record h { machine = w.machine; log = log }) d left does
    step-follows w left does e stand log logs backs = record {
      before = h.machine;
      recorded = h.log;
      word = word;
      drawn = drawn;
      going = g;
      event = step-does m asking word first w left does e;
      asks = step-asks m asking word first w left does e;
      effect = step-effect m asking word first w left does e;
      only = step-only m asking word first w left does e;
      backs = backs;
      stands = stand;
      logs = logs;
    }

    -- a step that wants memory
    pub step-wants : (now : Option Asking) (machine : FlatMachine) (log : Option Log) → machine ≡ h.machine
        → log ≡ h.log → asking ≡ None → now ≡ None
        → IsSome h.log ⊎ (IsStepWriting h.machine h.left
        × IsOk (stepped (record { machine = h.machine; asking = asking }) word h.left))
        → Early start entry (record h { machine = machine; log = log }) now d halt.NoMemory
    step-wants now machine log same stands nothing nothing' (inl recorded) =
        wants start entry h d steps g (record h { machine = machine; log = log }) now
        (inl (nothing', inl recorded)) same refl stands refl
    step-wants now machine log same stands nothing nothing' (inr lack) =
        let is : IsOk (stepped (record { machine = h.machine; asking = None }) (next_u32 g.now.past.words).0 h.left) =
        subst (λ (x : ℕ). IsOk (stepped (record { machine = h.machine; asking = None }) x h.left)) (sym first)
        (subst (λ (a : Option Asking). IsOk (stepped (record { machine = h.machine; asking = a }) word h.left))
        nothing lack.1) in
        wants start entry h d steps g (record h { machine = machine; log = log }) now
        (inl (nothing', inr (lack.0, is))) same refl stands refl

    pub step-stops : (machine : FlatMachine) (log : Option Log) (f : Fault) (now : Option Asking)
        → machine ≡ h.machine → log ≡ h.log → now ≡ None
        → stepped (record { machine = h.machine; asking = asking }) word h.left ≡ Err f → HasWaysBack h.machine
        → HasStopped start entry (record h { machine = machine; log = log }) now d (stop.Faulted f)
    step-stops machine log f now same stands nothing e backs =
        subst (λ (x : FlatMachine). HasStopped start entry (record h { machine = x; log = log }) now d
        (stop.Faulted f)) (sym same)
        (subst (λ (l : Option Log). HasStopped start entry (record h { log = l }) now d (stop.Faulted f)) (sym stands)
        (stops-at start entry h d steps g (stop.Faulted f) g.now.past steps h d now g.now.is_past (λ long. g.now.few)
        (λ wait. g.now.reads)
        (step-faults m asking word first f e)
        (step-sound m effect.Went (only-none m effect.Went (step-none m asking word first f e)) backs tt
        (λ begins. absurd begins))
        (nothing ∙ sym (step-asks-nothing m asking word first f e))))

  module _ (left : ℕ) where
    -- what was done stands
    stood : (before : FlatMachine) (recorded : Option Log) (p : History)
        → IsHistory start entry p (record h { machine = before; log = recorded }) d
        → IsHistory start entry p (record h { left = left }) d
    stood before recorded p i = record {
      taken = i.taken;
      answers = i.answers;
      answered = i.answered;
      word = i.word;
      left = i.left;
      fewer = i.fewer;
      reads = i.reads;
    }

    -- the step that it comes from
    abbrev at-step : (does : Effect) → Follows start entry h d left does → Configuration
    at-step does f = here start entry (record h { machine = f.before; log = f.recorded }) d steps f.going.now

    follows-soundly : (does : Effect) (f : Follows start entry h d left does) → RestoresBack (at-step does f) (Some does)
        → (BeginsSave (at-step does f) (Some does) → ⊥) → IsSoundStep (at-step does f)
    follows-soundly does f restores none =
        step-sound (at-step does f) does f.only f.backs restores (λ begins. absurd (none begins))

    -- the configuration that the step comes to
    abbrev stepped-to : History → Option Log → Configuration
    stepped-to p log = configuration_of p steps (record h { left = left; log = log }) d

    pub went-on : Follows start entry h d left effect.Went → Going start entry (record h { left = left }) d
    went-on f =
        let g = f.going in
        let act : act_of (here start entry (record h { machine = f.before; log = f.recorded }) d steps g.now)
        ≡ moves_to (stepped-to g.now.past h.log) =
        f.event ∙ ap (λ (l : Option Log). moves_to (stepped-to g.now.past l)) (sym f.logs) in
        record {
          now = moves-on start entry (record h { machine = f.before; log = f.recorded }) d steps g g.now.past steps
              (record h { left = left }) d (stood f.before f.recorded g.now.past g.now.is_past) g.now.few g.now.reads
              act (follows-soundly effect.Went f tt (λ begins. begins));
          quiet = g.quiet;
        }

    pub drew-on : Follows start entry h d left effect.Drew → Going start entry (record h { left = left; word = None }) d
    drew-on f =
        let g = f.going in
        let i = g.now.is_past in
        let used : History = record g.now.past { words = (next_u32 g.now.past.words).1 } in
        let is : IsHistory start entry used (record h { left = left; word = None }) d = record {
          taken = i.taken;
          answers = i.answers;
          answered = i.answered;
          word = ap (λ (p : ℕ × Stream). p.1) (word-drawn f.word h.word d.words g.now.past.words f.drawn i.word);
          left = i.left;
          fewer = i.fewer;
          reads = i.reads;
        } in
        let act : act_of (here start entry (record h { machine = f.before; log = f.recorded }) d steps g.now)
        ≡ moves_to (stepped-to used h.log) =
        f.event ∙ ap (λ (l : Option Log). moves_to (stepped-to used l)) (sym f.logs) in
        record {
          now = moves-on start entry (record h { machine = f.before; log = f.recorded }) d steps g used steps
              (record h { left = left; word = None }) d is g.now.few g.now.reads act
              (follows-soundly effect.Drew f tt (λ begins. begins));
          quiet = g.quiet;
        }

    pub quit-on : (asking : Option Asking) → asking ≡ None → Follows start entry h d left effect.Quit
        → HasStopped start entry (record h { left = left }) asking d stop.Ended
    quit-on asking nothing f =
        let g = f.going in
        stops-at start entry (record h { machine = f.before; log = f.recorded }) d steps g stop.Ended g.now.past steps
        (record h { left = left }) d asking (stood f.before f.recorded g.now.past g.now.is_past)
        (λ long. g.now.few) (λ wait. g.now.reads)
        (f.event ∙ ap (λ (l : Option Log). stops stop.Ended (stepped-to g.now.past l)) (sym f.logs))
        (follows-soundly effect.Quit f tt (λ begins. begins)) nothing

    pub spent-on : (asking : Option Asking) → asking ≡ None → Follows start entry h d left effect.Spent
        → HasStopped start entry (record h { left = left }) asking d stop.Spent
    spent-on asking nothing f =
        let g = f.going in
        stops-at start entry (record h { machine = f.before; log = f.recorded }) d steps g stop.Spent g.now.past steps
        (record h { left = left }) d asking (stood f.before f.recorded g.now.past g.now.is_past)
        (λ long. g.now.few) (λ wait. g.now.reads)
        (f.event ∙ ap (λ (l : Option Log). stops stop.Spent (stepped-to g.now.past l)) (sym f.logs))
        (follows-soundly effect.Spent f tt (λ begins. begins)) nothing

    -- An asking: the machine stands as before the step, and nothing more is recorded.
    pub record Asks (machine : FlatMachine) (recorded : Option Log) (does : Effect) : Type 0 where
      pub going : Going start entry (record h { machine = machine; log = recorded }) d
      pub event : let m = configuration_of going.now.past steps (record h { machine = machine; log = recorded }) d in
          act_of m ≡ after_effect m left (Ok (h.machine, does))
      pub asking_is : let m = configuration_of going.now.past steps
          (record h { machine = machine; log = recorded }) d in asked m ≡ asking_of does
      pub effect_is : let m = configuration_of going.now.past steps
          (record h { machine = machine; log = recorded }) d in effect_at m ≡ Some does
      pub backs : HasWaysBack machine

    pub asks-now : (does : Effect) → Follows start entry h d left does → IsSome (asking_of does)
        → Asks h.machine h.log does
    asks-now does f some =
        let at_before : Asks f.before f.recorded does =
        record {
          going = f.going;
          event = f.event;
          asking_is = f.asks some;
          effect_is = f.effect (not-spent does some);
          backs = f.backs;
        } in
        subst (λ (l : Option Log). Asks h.machine l does) (sym (f.logs ∙ asking-unlogged does f.recorded f.before some))
        (subst (λ (x : FlatMachine). Asks x f.recorded does) (sym (f.stands some)) at_before)

  -- A move from here has a fault.
  module _ (phase : Phase) (g : Ready start entry h d phase) where
    pub fault-stops : (f : Fault) (world : FlatWorld) (asking : Option Asking) → world ≡ h.world
        → asking ≡ asked (here start entry h d phase g.now)
        → act_of (here start entry h d phase g.now) ≡ stops (stop.Faulted f) (here start entry h d phase g.now)
        → IsSoundBy phase (here start entry h d phase g.now)
        → HasStopped start entry (record h { world = world }) asking d (stop.Faulted f)
    fault-stops f world asking same asks-is e sound =
        subst (λ (x : FlatWorld). HasStopped start entry (record h { world = x }) asking d (stop.Faulted f)) (sym same)
        (stops-at start entry h d phase g (stop.Faulted f) g.now.past phase h d asking g.now.is_past
        (λ long. g.now.few) (λ wait. g.now.reads) e sound asks-is)

  -- THE ANSWER TO AN ASKING, or the way back to a copy
  module _ (asking : Option Asking) (left : ℕ) (machine : FlatMachine) (wanted : Type 0)
      (r : Resumes start entry h asking d left machine wanted) where
    abbrev before : HeldRun
    before = record h { world = r.world }

    abbrev at : Configuration
    at = here start entry before d r.phase r.going.now

    abbrev resumed-held : HeldRun
    resumed-held = record h { machine = machine; left = left; log = logged h.log h.machine }

    resumed-past : IsHistory start entry r.going.now.past resumed-held d
    resumed-past = let i = r.going.now.is_past in
        record {
          taken = i.taken;
          answers = i.answers;
          answered = i.answered;
          word = i.word;
          left = i.left;
          fewer = i.fewer;
          reads = i.reads;
        }

    -- the configuration after it
    resumed-act : act_of at ≡ moves_to (configuration_of r.going.now.past steps resumed-held d)
    resumed-act =
        r.event
        ∙ ap (λ (w : FlatWorld). moves_to (record at
        { machine = machine; world = w; left = left; log = logged at.log at.machine; phase = steps }))
        (sent-before (concat r.going.now.past.sent) r.world r.said
        ∙ ap (λ (w : FlatWorld). let x : FlatWorld =
        record { scene = w.scene; text = concat r.going.now.past.sent ++ w.text } in x) (sym r.moved))

    pub resumed-on : Standing start entry resumed-held d steps
    resumed-on = moves-on start entry before d r.phase r.going r.going.now.past steps resumed-held d resumed-past
        r.going.now.few r.going.now.reads resumed-act r.sound

    pub resumed-early : wanted → (h' : HeldRun) → h'.machine ≡ h.machine → h'.left ≡ h.left → h'.log ≡ h.log
        → h'.coming ≡ h.coming → (asking' : Option Asking) → asking' ≡ asking
        → Early start entry h' asking' d halt.NoMemory
    resumed-early wants-it h' stands units log coming asking' same =
        wants start entry before d r.phase r.going h' asking'
        (subst (WantsMemory r.phase at) (sym same) (r.memory wants-it)) stands units log coming

  -- THE TURN OF A CALL
  module _ (asking : Option Asking) (w : GlkWait) (t : Turn) (r : TakesTurn start entry h asking d w t) where
    abbrev pub turning : HeldRun
    turning = record h { world = r.world }

    abbrev pub called : Configuration
    called = here start entry turning d steps r.going.now

    turn-past : (h' : HeldRun) → h'.word ≡ h.word → h'.ahead ≡ h.ahead → h'.coming ≡ h.coming → h'.over ≡ h.over
        → IsHistory start entry r.going.now.past h' d
    turn-past h' word ahead coming over =
        let i = r.going.now.is_past in
        let input : h'.ahead ++ h'.coming ≡ h.ahead ++ h.coming =
        ap (λ (x : List ℕ). x ++ h'.coming) ahead ∙ ap (λ (x : List ℕ). h.ahead ++ x) coming in
        record {
          taken = i.taken;
          answers = i.answers;
          answered = i.answered;
          word = subst (λ (x : Option ℕ). WordIs x d.words r.going.now.past.words) (sym word) i.word;
          left = λ tells. coming ∙ i.left tells;
          fewer = subst (λ (x : List ℕ). length x ≤ length start.input) (sym input) i.fewer;
          reads = subst (λ (x : List ℕ). ReadsFew false h'.over entry.source d.source start.input x 0) (sym coming)
              (subst (λ (b : Bool). ReadsFew false b entry.source d.source start.input h.coming 0) (sym over) i.reads);
        }

    -- the world that was called, with what was sent
    turned-world : after called.world r.said
        ≡ record { scene = h.world.scene; text = concat r.going.now.past.sent ++ h.world.text }
    turned-world = sent-before (concat r.going.now.past.sent) r.world r.said
        ∙ ap (λ (x : FlatWorld). let y : FlatWorld =
        record { scene = x.scene; text = concat r.going.now.past.sent ++ x.text } in y) (sym r.moved)

    -- it asks the shelf
    pub turn-asks : after_turn called w (Ok (r.said, t)) ≡ asking_for called w (after called.world r.said) t
        → IsInCall start entry h asking d (asks t w)
    turn-asks e =
        let act : act_of called ≡ moves_to (configuration_of r.going.now.past (asks t w) h d) =
        r.event ∙ e ∙ ap (λ (x : FlatWorld). moves_to (record called { world = x; phase = asks t w })) turned-world in
        record {
          now = moves-on start entry turning d steps r.going r.going.now.past (asks t w) h d
              (turn-past h refl refl refl refl) r.going.now.few r.going.now.reads act r.sound;
          asking_is = r.asks ∙ asked-same called (configuration_of r.going.now.past (asks t w) h d) refl refl;
        }

    -- it waits for a line: what the view shows is shown
    pub turn-waits : (world : FlatWorld) → world ≡ after h.world (show_grids h.world.scene)
        → after_turn called w (Ok (r.said, t))
        ≡ asking_for called w (after (after called.world r.said) (show_grids r.said.0)) t
        → IsInCall start entry (record h { world = world }) asking d (asks t w)
    turn-waits world shown e =
        let h' : HeldRun = record h { world = after h.world (show_grids h.world.scene) } in
        let scene : r.said.0 ≡ h.world.scene = ap (λ (x : FlatWorld). x.scene) (sym r.moved) in
        let grids : after (after called.world r.said) (show_grids r.said.0)
        ≡ record { scene = h'.world.scene; text = concat r.going.now.past.sent ++ h'.world.text } =
        ap (λ (x : Scene). after (after called.world r.said) (show_grids x)) scene
        ∙ ap (λ (x : FlatWorld). after x (show_grids h.world.scene)) turned-world
        ∙ sent-before (concat r.going.now.past.sent) h.world (show_grids h.world.scene) in
        let act : act_of called ≡ moves_to (configuration_of r.going.now.past (asks t w) h' d) =
        r.event ∙ e ∙ ap (λ (x : FlatWorld). moves_to (record called { world = x; phase = asks t w })) grids in
        let waits : IsInCall start entry h' asking d (asks t w) = record {
          now = moves-on start entry turning d steps r.going r.going.now.past (asks t w) h' d
              (turn-past h' refl refl refl refl) r.going.now.few r.going.now.reads act r.sound;
          asking_is = r.asks ∙ asked-same called (configuration_of r.going.now.past (asks t w) h' d) refl refl;
        } in
        subst (λ (x : FlatWorld). IsInCall start entry (record h { world = x }) asking d (asks t w)) (sym shown) waits

    -- it ends the program, or waits in vain
    pub turn-exits : t ≡ turn.Exit → HasStopped start entry (record h { left = w.left }) asking d stop.Exited
    turn-exits e =
        let act : act_of called ≡ stops stop.Exited
        (configuration_of r.going.now.past steps (record h { left = w.left }) d) =
        r.event ∙ ap (λ (x : Turn). after_turn called w (Ok (r.said, x))) e
        ∙ ap (λ (x : FlatWorld). stops stop.Exited (record called { world = x; left = w.left })) turned-world in
        stops-at start entry turning d steps r.going stop.Exited r.going.now.past steps
        (record h { left = w.left }) d asking (turn-past (record h { left = w.left }) refl refl refl refl)
        (λ long. r.going.now.few) (λ wait. r.going.now.reads) act r.sound
        (r.asks ∙ asked-same called (configuration_of r.going.now.past steps (record h { left = w.left }) d) refl refl)

    pub turn-stuck : t ≡ turn.Stuck → HasStopped start entry h asking d stop.Stuck
    turn-stuck e =
        let act : act_of called ≡ stops stop.Stuck (configuration_of r.going.now.past steps h d) =
        r.event ∙ ap (λ (x : Turn). after_turn called w (Ok (r.said, x))) e
        ∙ ap (λ (x : FlatWorld). stops stop.Stuck (record called { world = x })) turned-world in
        stops-at start entry turning d steps r.going stop.Stuck r.going.now.past steps h d asking
        (turn-past h refl refl refl refl) (λ long. r.going.now.few) (λ wait. r.going.now.reads) act r.sound
        (r.asks ∙ asked-same called (configuration_of r.going.now.past steps h d) refl refl)

    -- it is answered at once
    pub turn-answers : (reply : Reply) → t ≡ turn.Answer reply → ResumesWithReply start entry h asking d w.left reply
    turn-answers reply e = record {
      world = r.world;
      said = r.said;
      phase = steps;
      moved = r.moved;
      going = r.going;
      event = r.event ∙ ap (λ (x : Turn). after_turn called w (Ok (r.said, x))) e;
      sound = r.sound;
      asks = r.asks;
      memory = λ takes. r.memory (subst (λ (x : Turn). TurnWants h.log h.machine (r.said, x)) (sym e) takes);
    }

    -- that wants memory
    pub turn-wants : IsWait t → ShowWants h.world.scene → (h' : HeldRun) → h'.machine ≡ h.machine → h'.left ≡ h.left
        → h'.log ≡ h.log → h'.coming ≡ h.coming → Early start entry h' asking d halt.NoMemory
    turn-wants is some h' machine units log coming =
        let scene : r.said.0 ≡ h.world.scene = ap (λ (x : FlatWorld). x.scene) (sym r.moved) in
        wants start entry turning d steps r.going h' asking
        (r.memory (wait-wants h.log h.machine r.said t is (subst ShowWants (sym scene) some))) machine units log coming

  -- A call goes on.
  abbrev pub on-ready : (asking : Option Asking) (g : Given) (w : GlkWait)
      → IsInCall start entry h asking d (goes_on g w) → Ready start entry h d (goes_on g w)
  on-ready asking g w waits = record { now = waits.now; quiet = refl }

  -- THE SHELF HAS ANSWERED
  module _ (asking : Option Asking) (w : GlkWait) (q : Question) (g : Ready start entry h d (asks (turn_of q) w))
      (shelf : FlatShelf) where
    pub shelf-answers : (answer : Answer) → start.answers d.asked (request_for q) ≡ answer
        → asking ≡ asked (here start entry h d (asks (turn_of q) w) g.now)
        → IsInCall start entry h asking (record d
        { shelf = shelf; asked = d.asked ++ (request_for q, Ok answer) ∷ [] }) (goes_on (given_of answer) w)
    shelf-answers answer told asks-is =
        let m : Configuration = here start entry h d (asks (turn_of q) w) g.now in
        let i = g.now.is_past in
        let p : History = g.now.past in
        let d' : Handed sending = record d { shelf = shelf; asked = d.asked ++ (request_for q, Ok answer) ∷ [] } in
        let past : IsHistory start entry p h d' = record {
          taken = i.taken;
          answers = i.answers;
          answered = answered-and d.asked ((request_for q, Ok answer) ∷ []) i.answered tt;
          word = i.word;
          left = i.left;
          fewer = i.fewer;
          reads = i.reads;
        } in
        let same : m.answers m.asked (request_for q) ≡ answer =
        ap (λ (f : Trace → Request → Answer). f d.asked (request_for q)) i.answers ∙ told in
        let act : act_of m ≡ moves_to (configuration_of p (goes_on (given_of answer) w) h d') =
        question-gives m w q ∙ ap (λ (a : Answer). moves_to
        (record m { asked = m.asked ++ (request_for q, Ok a) ∷ []; phase = goes_on (given_of a) w })) same in
        record {
          now = moves-on start entry h d (asks (turn_of q) w) g p
              (goes_on (given_of answer) w) h d' past g.now.few g.now.reads act
              (inr (subst (λ (o : Option Request). IsSome o) (sym (request-is q)) refl));
          asking_is = asks-is ∙ asked-same m (configuration_of p (goes_on (given_of answer) w) h d') refl refl;
        }

  -- A LINE IS AWAITED
  module _ (asking : Option Asking) (w : GlkWait) (t : Turn) (is : IsWait t) (g : Ready start entry h d (asks t w))
      (asks-is : asking ≡ asked (here start entry h d (asks t w) g.now)) where
    abbrev awaiting : Configuration
    awaiting = here start entry h d (asks t w) g.now

    line-act : (l : NextLine) → next_line (h.ahead ++ h.coming) ≡ l → act_of awaiting ≡ after_line awaiting w l
    line-act l e = wait-asks awaiting w t is ∙ ap (after_line awaiting w) e

    -- the input that is read and not taken is the same
    still-awaiting : (h' : HeldRun) → h'.ahead ++ h'.coming ≡ h.ahead ++ h.coming
        → (p : History) (source : FlatSource) → (source.tells ≡ true → h'.coming ≡ source.left)
        → ReadsFew false h'.over entry.source source start.input h'.coming 0 → h'.word ≡ h.word
        → IsHistory start entry p h d → IsHistory start entry p h' (record d { source = source })
    still-awaiting h' same p source left reads word i = record {
      taken = i.taken;
      answers = i.answers;
      answered = i.answered;
      word = subst (λ (x : Option ℕ). WordIs x d.words p.words) (sym word) i.word;
      left = left;
      fewer = subst (λ (x : List ℕ). length x ≤ length start.input) (sym same) i.fewer;
      reads = reads;
    }

    -- none is left, or it is too long
    pub line-stops : (why : Stop) (l : NextLine) (h' : HeldRun) (source : FlatSource)
        → next_line (h.ahead ++ h.coming) ≡ l → after_line awaiting w l ≡ stops why awaiting → IsLineStop why
        → h' ≡ record h { ahead = h'.ahead; coming = h'.coming; over = h'.over }
        → h'.ahead ++ h'.coming ≡ h.ahead ++ h.coming → (source.tells ≡ true → h'.coming ≡ source.left)
        → ReadsFew false h'.over entry.source source start.input h'.coming 0
        → (why ≢ stop.LineTooLong → length h'.ahead < piece) → asked_at why awaiting ≡ asked awaiting
        → HasStopped start entry h' asking (record d { source = source }) why
    line-stops why l h' source e e' line-stop held same left reads few at =
        let p : History = g.now.past in
        let same-configuration : configuration_of p (asks t w) h' (record d { source = source }) ≡ awaiting =
        ap (λ (x : HeldRun). configuration_of p (asks t w)
        (record x { ahead = h'.ahead; coming = h'.coming; over = h'.over }) (record d { source = source })) held
        ∙ ap (λ (x : List ℕ). record awaiting { input = x }) same in
        stops-at start entry h d (asks t w) g why p (asks t w) h' (record d { source = source }) asking
        (still-awaiting h' same p source left reads (ap (λ (x : HeldRun). x.word) held) g.now.is_past) few
        (λ other. absurd (other line-stop))
        (line-act l e ∙ e' ∙ ap (stops why) (sym same-configuration)) (inl is)
        (asks-is ∙ sym at ∙ ap (asked_at why) (sym same-configuration))

  -- A LINE WAS TAKEN
  module _ (asking : Option Asking) (w : GlkWait) (chars : List ℕ) (r : TakesInput start entry h asking d chars w) where
    abbrev was : HeldRun
    was = record h { ahead = r.ahead; coming = r.coming; over = r.over }

    abbrev d-was : Handed sending
    d-was = record d { source = r.source }

    abbrev asking-at : Configuration
    asking-at = here start entry was d-was (asks r.turn w) r.going.now

    taken-act : act_of asking-at ≡ after_line asking-at w (line chars (h.ahead ++ h.coming))
    taken-act = wait-asks asking-at w r.turn r.is_wait ∙ ap (after_line asking-at w) r.taken

    -- the showing of the line wants memory
    pub line-wants : (h' : HeldRun) → h.echo ≡ true → h'.machine ≡ h.machine → h'.left ≡ h.left → h'.log ≡ h.log
        → Early start entry h' asking d halt.NoMemory
    line-wants h' shows machine units log =
        let shown : LineWants h.echo (line chars (h.ahead ++ h.coming)) =
        subst (λ (b : Bool). LineWants b (line chars (h.ahead ++ h.coming))) (sym shows) tt in
        wants-line start entry was d-was (asks r.turn w) r.going h' d.source asking r.is_wait
        (r.asking_is, r.is_wait, subst (LineWants h.echo) (sym r.taken) shown) machine units log

    -- it is shown, where lines are
    pub line-taken : (world : FlatWorld) → world
        ≡ (if h.echo then after h.world (show_line h.world.scene chars) else h.world)
        → IsInCall start entry (record h { world = world }) asking d (goes_on (given.Line chars) w)
    line-taken world shown =
        let p : History = r.going.now.past in
        let i = r.going.now.is_past in
        let shorter : length (h.ahead ++ h.coming) < length (r.ahead ++ r.coming) =
        shorter-input (r.ahead ++ r.coming) chars (h.ahead ++ h.coming) r.taken in
        let before : length (r.ahead ++ r.coming) ≤ length start.input = i.fewer in
        let less : length (h.ahead ++ h.coming) < length start.input = omega arith in
        let h' : HeldRun = record h {
          world = if h.echo then after h.world (show_line h.world.scene chars)
              else h.world;
        } in
        let past : IsHistory start entry p h' d = record {
          taken = i.taken;
          answers = i.answers;
          answered = i.answered;
          word = i.word;
          left = r.left;
          fewer = omega arith;
          reads = r.reads;
        } in
        let act : act_of asking-at ≡ moves_to (configuration_of p (goes_on (given.Line chars) w) h' d) =
        taken-act ∙ shown-line p h.echo in
        let waits : IsInCall start entry h' asking d (goes_on (given.Line chars) w) = record {
          now = moves-on start entry was d-was (asks r.turn w) r.going p
              (goes_on (given.Line chars) w) h' d past r.few (inr less) act (inl r.is_wait);
          asking_is = r.asking_is ∙ asked-same asking-at (configuration_of p (goes_on (given.Line chars) w) h' d) refl
              refl;
        } in
        subst (λ (x : FlatWorld). IsInCall start entry (record h { world = x }) asking d
        (goes_on (given.Line chars) w)) (sym shown) waits
      where
        shown-line : (p : History) (b : Bool)
            → moves_to (record asking-at {
              world =
                  if b then after (record { scene = h.world.scene; text = concat p.sent ++ h.world.text })
                  (show_line h.world.scene chars) else
                  record { scene = h.world.scene; text = concat p.sent ++ h.world.text };
              input = h.ahead ++ h.coming;
              phase = goes_on (given.Line chars) w;
            })
            ≡ moves_to (record asking-at {
              world =
                  (let x : FlatWorld = if b then after h.world (show_line h.world.scene chars) else h.world in
                  record { scene = x.scene; text = concat p.sent ++ x.text });
              input = h.ahead ++ h.coming;
              phase = goes_on (given.Line chars) w;
            })
        shown-line p true =
            ap (λ (x : FlatWorld). moves_to (record asking-at
            { world = x; input = h.ahead ++ h.coming; phase = goes_on (given.Line chars) w }))
            (sent-before (concat p.sent) h.world (show_line h.world.scene chars))
        shown-line p false = refl

  -- A CHARACTER IS PUT, A CALL IS MADE, A GAME IS SAVED OR RESTORED, A CALL GOES ON
  module _ (left : ℕ) (does : Effect) (a : Asks left h.machine h.log does) where
    abbrev pub asking-here : Configuration
    asking-here = here start entry h d steps a.going.now

    pub put-does : (c : ℕ) (flat : FlatState) (r : Result (Said × Reply) Fault) → does ≡ effect.Put c
        → flat ≡ h.machine.flat → putting h.world.scene flat c ≡ r → act_of asking-here ≡ after_reply asking-here left r
    put-does c flat r is same e =
        a.event ∙ ap (λ (e : Effect). after_effect asking-here left (Ok (h.machine, e))) is
        ∙ ap (after_reply asking-here left) (subst (λ (x : FlatState). putting h.world.scene x c ≡ r) same e)

    pub call-does : (selector : ℕ) (args : ArrayVec ℕ) (xs : List ℕ) (w : GlkWait) (flat : FlatState)
        (r : Result (Said × Turn) Fault) → does ≡ effect.Glk selector args w.room → left ≡ w.left
        → flat ≡ h.machine.flat → xs ≡ args.items → glk_call h.world.scene flat w.room selector xs ≡ r
        → act_of asking-here ≡ after_turn asking-here w r
    call-does selector args xs w flat r is units same listed e =
        a.event ∙ ap (λ (e : Effect). after_effect asking-here left (Ok (h.machine, e))) is
        ∙ ap (λ (n : ℕ). after_turn asking-here (record { room = w.room; left = n })
        (glk_call h.world.scene h.machine.flat w.room selector args.items)) units
        ∙ ap (after_turn asking-here w)
        (subst (λ (ys : List ℕ). glk_call h.world.scene h.machine.flat w.room selector ys ≡ r) listed
        (subst (λ (x : FlatState). glk_call h.world.scene x w.room selector xs ≡ r) same e))

    pub saving-does : (stream : ℕ) (r : Result (Said × Reply) Fault) → does ≡ effect.Save stream
        → saving h.world.scene h.machine.flat stream ≡ r → act_of asking-here ≡ after_reply asking-here left r
    saving-does stream r is e = a.event ∙ ap (λ (e : Effect). after_effect asking-here left (Ok (h.machine, e))) is
        ∙ ap (after_reply asking-here left) e

    pub restoring-does : (stream : ℕ) (r : Result (Said × Option Copy) Fault) → does ≡ effect.Restore stream
        → restoring h.world.scene h.machine.flat stream ≡ r
        → act_of asking-here ≡ after_restoring asking-here left r
    restoring-does stream r is e = a.event ∙ ap (λ (e : Effect). after_effect asking-here left (Ok (h.machine, e))) is
        ∙ ap (after_restoring asking-here left) e

    -- What Glk does for it may want memory, and so may the reply.
    abbrev AsksMemory : Type 0
    AsksMemory = AskingWants h.log h.machine h.world.scene (Some does)

    pub put-grows : (c : ℕ) (flat : FlatState) → does ≡ effect.Put c → flat ≡ h.machine.flat
        → IsTrue (put_grows_one h.world.scene h.world.scene.current c)
        → IsOk (on_world h.world (putting h.world.scene flat c)) → AsksMemory
    put-grows c flat is same grows fine =
        subst (λ (e : Effect). AskingWants h.log h.machine h.world.scene (Some e)) (sym is)
        (grows-fine {X = Said × Reply} (IsTrue (put_grows_one h.world.scene h.world.scene.current c))
        (λ r. ReplyWants h.log h.machine r.1) (putting h.world.scene h.machine.flat c)
        (subst (λ (x : FlatState). IsOk (putting h.world.scene x c)) same
        (world-fine h.world (putting h.world.scene flat c) fine)) grows)

    pub put-takes : (c : ℕ) (flat : FlatState) (said : Said) (reply : Reply) → does ≡ effect.Put c
        → flat ≡ h.machine.flat → putting h.world.scene flat c ≡ Ok (said, reply) → ReplyWants h.log h.machine reply
        → AsksMemory
    put-takes c flat said reply is same e takes =
        subst (λ (x : Effect). AskingWants h.log h.machine h.world.scene (Some x)) (sym is)
        (takes-fine {X = Said × Reply} (IsTrue (put_grows_one h.world.scene h.world.scene.current c))
        (λ r. ReplyWants h.log h.machine r.1) (putting h.world.scene h.machine.flat c) (said, reply)
        (subst (λ (x : FlatState). putting h.world.scene x c ≡ Ok (said, reply)) same e) takes)

    pub call-grows : (selector : ℕ) (args : ArrayVec ℕ) (xs : List ℕ) (w : GlkWait) (flat : FlatState)
        → does ≡ effect.Glk selector args w.room → flat ≡ h.machine.flat → xs ≡ args.items
        → IsGrowing h.world.scene flat selector xs
        → IsOk (on_world h.world (glk_call h.world.scene flat w.room selector xs)) → AsksMemory
    call-grows selector args xs w flat is same listed grows fine =
        let ok : IsOk (glk_call h.world.scene flat w.room selector xs) =
        world-fine {X = Turn} h.world (glk_call h.world.scene flat w.room selector xs) fine in
        subst (λ (e : Effect). AskingWants h.log h.machine h.world.scene (Some e)) (sym is)
        (grows-fine {X = Said × Turn} (IsGrowing h.world.scene h.machine.flat selector args.items)
        (TurnWants h.log h.machine) (glk_call h.world.scene h.machine.flat w.room selector args.items)
        (subst (λ (ys : List ℕ). IsOk (glk_call h.world.scene h.machine.flat w.room selector ys)) listed
        (subst (λ (x : FlatState). IsOk (glk_call h.world.scene x w.room selector xs)) same ok))
        (subst (λ (ys : List ℕ). IsGrowing h.world.scene h.machine.flat selector ys) listed
        (subst (λ (x : FlatState). IsGrowing h.world.scene x selector xs) same grows)))

    pub call-takes : (selector : ℕ) (args : ArrayVec ℕ) (xs : List ℕ) (w : GlkWait) (flat : FlatState) (said : Said)
        (t : Turn) → does ≡ effect.Glk selector args w.room → flat ≡ h.machine.flat → xs ≡ args.items
        → glk_call h.world.scene flat w.room selector xs ≡ Ok (said, t) → TurnWants h.log h.machine (said, t)
        → AsksMemory
    call-takes selector args xs w flat said t is same listed e takes =
        let call : glk_call h.world.scene h.machine.flat w.room selector args.items ≡ Ok (said, t) =
        subst (λ (ys : List ℕ). glk_call h.world.scene h.machine.flat w.room selector ys ≡ Ok (said, t)) listed
        (subst (λ (x : FlatState). glk_call h.world.scene x w.room selector xs ≡ Ok (said, t)) same e) in
        subst (λ (x : Effect). AskingWants h.log h.machine h.world.scene (Some x)) (sym is)
        (takes-fine {X = Said × Turn} (IsGrowing h.world.scene h.machine.flat selector args.items)
        (TurnWants h.log h.machine) (glk_call h.world.scene h.machine.flat w.room selector args.items)
        (said, t) call takes)

    pub save-begun : (stream : ℕ) → does ≡ effect.Save stream
        → IsTrue (is_save_begun h.world.scene h.machine.flat stream) → AsksMemory
    save-begun stream is begun = subst (λ (e : Effect). AskingWants h.log h.machine h.world.scene (Some e)) (sym is)
        (inl begun)

    pub save-takes : (stream : ℕ) (said : Said) (reply : Reply) → does ≡ effect.Save stream
        → saving h.world.scene h.machine.flat stream ≡ Ok (said, reply) → ReplyWants h.log h.machine reply → AsksMemory
    save-takes stream said reply is e takes =
        subst (λ (x : Effect). AskingWants h.log h.machine h.world.scene (Some x)) (sym is)
        (inr (subst (AnswerWants h.log h.machine) (sym e) takes))

    pub restore-reads : (stream : ℕ) → does ≡ effect.Restore stream
        → IsTrue (is_restore_begun h.world.scene h.machine.flat stream)
        → IsOk (on_world h.world (restoring h.world.scene h.machine.flat stream)) → AsksMemory
    restore-reads stream is reads fine =
        subst (λ (e : Effect). AskingWants h.log h.machine h.world.scene (Some e)) (sym is)
        (grows-fine {X = Said × Option Copy} (IsTrue (is_restore_begun h.world.scene h.machine.flat stream))
        (λ r. IsSome r.1 ⊎ ReplyWants h.log h.machine (replies failed))
        (restoring h.world.scene h.machine.flat stream)
        (world-fine {X = Option Copy} h.world (restoring h.world.scene h.machine.flat stream) fine) reads)

    pub restore-takes : (stream : ℕ) (said : Said) (r : Option Copy) → does ≡ effect.Restore stream
        → restoring h.world.scene h.machine.flat stream ≡ Ok (said, r) → RestoreWants h.log h.machine (Ok (said, r))
        → AsksMemory
    restore-takes stream said r is e takes =
        subst (λ (x : Effect). AskingWants h.log h.machine h.world.scene (Some x)) (sym is)
        (restore-wants h.log h.machine (restoring h.world.scene h.machine.flat stream)
        (subst (RestoreWants h.log h.machine) (sym e) takes)
        (IsTrue (is_restore_begun h.world.scene h.machine.flat stream)))

    asking-wants : (asking : Option Asking) → asking ≡ asking_of does → AsksMemory
        → WantsMemory steps asking-here asking
    asking-wants asking asks-is takes = inr
        (asks-is ∙ sym a.asking_is, subst (AskingWants h.log h.machine h.world.scene) (sym a.effect_is) takes)

    pub asking-early : (world : FlatWorld) (asking : Option Asking) → asking ≡ asking_of does → AsksMemory
        → Early start entry (record h { world = world }) asking d halt.NoMemory
    asking-early world asking asks-is takes = wants start entry h d steps a.going (record h { world = world }) asking
        (asking-wants asking asks-is takes) refl refl refl refl

    -- what it asks is done soundly
    pub asking-sound : RestoresBack asking-here (Some does)
        → (BeginsSave asking-here (Some does) → IsReadBack h.machine.flat) → IsSoundStep asking-here
    asking-sound restores saves =
        step-sound asking-here does (only-one asking-here does a.effect_is) a.backs restores saves

    -- the machine takes an answer, or goes back to a copy
    pub asking-resumes : (asking : Option Asking) (world : FlatWorld) (said : Said) (machine : FlatMachine)
        (wanted : Type 0) → asking ≡ asking_of does → world ≡ after h.world said
        → act_of asking-here ≡ moves_to (record asking-here {
          machine = machine;
          world = after asking-here.world said;
          left = left;
          log = logged asking-here.log asking-here.machine;
          phase = steps;
        })
        → RestoresBack asking-here (Some does) → (BeginsSave asking-here (Some does) → IsReadBack h.machine.flat)
        → (wanted → AsksMemory) → Resumes start entry (record h { world = world }) asking d left machine wanted
    asking-resumes asking world said machine wanted asks-is moved e restores saves takes = record {
      world = h.world;
      said = said;
      phase = steps;
      moved = moved;
      going = a.going;
      event = e;
      sound = asking-sound restores saves;
      asks = asks-is ∙ sym a.asking_is;
      memory = λ x. asking-wants asking asks-is (takes x);
    }

    pub call-turns : (asking : Option Asking) (world : FlatWorld) (said : Said) (w : GlkWait) (t : Turn)
        → asking ≡ asking_of does → world ≡ after h.world said
        → act_of asking-here ≡ after_turn asking-here w (Ok (said, t))
        → RestoresBack asking-here (Some does) → (BeginsSave asking-here (Some does) → IsReadBack h.machine.flat)
        → (TurnWants h.log h.machine (said, t) → AsksMemory)
        → TakesTurn start entry (record h { world = world }) asking d w t
    call-turns asking world said w t asks-is moved e restores saves takes = record {
      world = h.world;
      said = said;
      moved = moved;
      going = a.going;
      event = e;
      sound = asking-sound restores saves;
      asks = asks-is ∙ sym a.asking_is;
      memory = λ x. asking-wants asking asks-is (takes x);
    }

  module _ (asking : Option Asking) (g : Given) (w : GlkWait) (waits : IsInCall start entry h asking d (goes_on g w))
    where
      abbrev pub going-on : Configuration
      going-on = here start entry h d (goes_on g w) waits.now

      pub given-does : (flat : FlatState) (r : Result (Said × Turn) Fault) → flat ≡ h.machine.flat
          → glk_go_on h.world.scene flat w.room g ≡ r → act_of going-on ≡ after_given going-on w r
      given-does flat r same e = ap (after_given going-on w)
          (subst (λ (x : FlatState). glk_go_on h.world.scene x w.room g ≡ r) same e)

      -- a call waits for it, and is answered or has a fault
      pub given-sound : (flat : FlatState) (r : Result (Said × Turn) Fault) → flat ≡ h.machine.flat
          → glk_go_on h.world.scene flat w.room g ≡ r → Awaits h.world.scene g → IfOk r (λ p. IsAnswered p.1)
          → IsSoundCall going-on g w
      given-sound flat r same e awaits answers = record {
        awaits = awaits;
        answers = subst (λ (x : Result (Said × Turn) Fault). IfOk x (λ p. IsAnswered p.1))
            (sym (subst (λ (x : FlatState). glk_go_on h.world.scene x w.room g ≡ r) same e)) answers;
      }

      -- it wants memory
      pub given-early : (world : FlatWorld) (flat : FlatState) → flat ≡ h.machine.flat
          → IsTrue (go_grows h.world.scene flat g) → IsOk (glk_go_on h.world.scene flat w.room g)
          → Early start entry (record h { world = world }) asking d halt.NoMemory
      given-early world flat same grows fine =
          wants start entry h d (goes_on g w) (on-ready asking g w waits) (record h { world = world }) asking (
            waits.asking_is,
            grows-fine {X = Said × Turn} (IsTrue (go_grows h.world.scene h.machine.flat g)) (TurnWants h.log h.machine)
                (glk_go_on h.world.scene h.machine.flat w.room g)
                (subst (λ (x : FlatState). IsOk (glk_go_on h.world.scene x w.room g)) same fine)
                (subst (λ (x : FlatState). IsTrue (go_grows h.world.scene x g)) same grows),
          ) refl refl refl refl

      pub given-turns : (world : FlatWorld) (said : Said) (t : Turn) (flat : FlatState) → world ≡ after h.world said
          → flat ≡ h.machine.flat → glk_go_on h.world.scene flat w.room g ≡ Ok (said, t) → Awaits h.world.scene g
          → IsAnswered t → GoesOn start entry (record h { world = world }) asking d w t
      given-turns world said t flat moved same e awaits answered = record {
        world = h.world;
        said = said;
        given = g;
        moved = moved;
        going = on-ready asking g w waits;
        event = given-does flat (Ok (said, t)) same e;
        sound = given-sound flat (Ok (said, t)) same e awaits answered;
        asks = waits.asking_is;
        memory = λ takes. (
          waits.asking_is,
          takes-fine {X = Said × Turn} (IsTrue (go_grows h.world.scene h.machine.flat g)) (TurnWants h.log h.machine)
              (glk_go_on h.world.scene h.machine.flat w.room g) (said, t)
              (subst (λ (x : FlatState). glk_go_on h.world.scene x w.room g ≡ Ok (said, t)) same e) takes,
        );
      }

  -- it is answered
  pub given-answers : (asking : Option Asking) (w : GlkWait) (t : Turn) (reply : Reply) → t ≡ turn.Answer reply
      → GoesOn start entry h asking d w t → ResumesWithReply start entry h asking d w.left reply
  given-answers asking w t reply is r = record {
    world = r.world;
    said = r.said;
    phase = goes_on r.given w;
    moved = r.moved;
    going = r.going;
    event = r.event ∙ ap (λ (x : Turn). after_given
        (here start entry (record h { world = r.world }) d (goes_on r.given w) r.going.now) w (Ok (r.said, x))) is;
    sound = r.sound;
    asks = r.asks;
    memory = λ takes. r.memory (subst (λ (x : Turn). TurnWants h.log h.machine (r.said, x)) (sym is) takes);
  }
