-- What comes next in a run in a view that wraps, beside the same in the view that doesn't.
use Rattle.std.proofs.Common.{◌≡◌, ◌≤◌, ℕ, suc, ◌+◌, arith, ◌-◌, ◌==◌, nat_lt, if◌then◌else◌, Bool, true, false, List, [], ◌∷◌, ◌++◌, Option, Some, None}
use Rattle.std.proofs.Common.{unwrap_or, option_and_then, Result, Ok, Err, refl, sym, ◌∙◌, ap, subst}
use Rattle.std.specs.Result.{result_ok}
use Rattle.std.specs.Str.{encode_utf8_all}
use Rattle.gx_words.specs.declared.faults.Fault.{Fault}
use Rattle.gx_words.specs.Constants.{ceiling, glk_system}
use Rattle.gx_outside.specs.Shelves.{Request, Answer, loaded, was_stored, was_there}
use Rattle.gx_state.specs.Flat.{FlatState}
use Rattle.gx_state.specs.Copies.{Copy}
use Rattle.gx_state.specs.declared.effects.Effect.{Effect}
use Rattle.gx_state.specs.declared.effects.Effect.TheVariants as effect
use Rattle.gx_state.specs.declared.effects.Reply.{Reply}
use Rattle.gx_machine.specs.Machine.{FlatMachine}
use Rattle.gx_machine.specs.SavedCopies.{saved_copy, restored}
use Rattle.gx_machine.specs.Answer.{answer_of}
use Rattle.gx_machine.specs.Step.{cost_of, step_of}
use Rattle.glk_screen.specs.Wrapper.{FlatWrapper, LetGo}
use Rattle.glk_screen.proofs.Flowing.{enc_append}
use Rattle.glk_world.specs.World.{FlatWorld, Scene, Said, Outcome, after}
use Rattle.glk_world.specs.Shown.{show_grids, show_line}
use Rattle.glk_replies.specs.declared.Turn.{Turn}
use Rattle.glk_replies.specs.declared.Turn.TheVariants as turn
use Rattle.glk_replies.specs.declared.Given.{Given}
use Rattle.glk_replies.specs.declared.Given.TheVariants as given
use Rattle.glk_replies.specs.Parts.{replies}
use Rattle.glk_dispatch.specs.Calls.{glk_call}
use Rattle.glk_dispatch.specs.Going.{glk_go_on}
use Rattle.glk_text_calls.specs.Output.{putting}
use Rattle.glk_views.specs.Parts.{Part, as_it_comes, lines_taken, wrapped}
use Rattle.glk_views.specs.Beside.{in_wrapping, in_plain, SaysBeside, ComesBeside, comes_to, fails}
use Rattle.glk_views.specs.Calls.{lines_in}
use Rattle.glk_views.proofs.Says.{both_come, both_taken, both_wrapped, quiet, line_says}
use Rattle.glk_views.proofs.Shown.{grids_say}
use Rattle.glk_views.proofs.Outcomes.{comes_if}
use Rattle.glk_views.proofs.Texts.{program_puts, puts_save, takes_rest, answers_as}
use Rattle.glk_views.proofs.Calls.{glk_calls, glk_goes}
use Rattle.quetzal.specs.ReadingSaves.{copy_in_save}
use Rattle.quetzal.specs.Writing.{save_bytes}
use Rattle.rand_core.specs.Stream.{next_u32}
use Rattle.gx_session.specs.declared.ends.Stop.{Stop}
use Rattle.gx_session.specs.declared.ends.Stop.TheVariants as stop
use Rattle.gx_session.specs.declared.running.GlkWait.{GlkWait}
use Rattle.gx_session.specs.Constants.{failed}
use Rattle.gx_session.specs.Input.{NextLine, too_long, none, line, next_line}
use Rattle.gx_session.specs.Saving.{saving, restoring}
use Rattle.gx_session.specs.Configurations.{Phase, Configuration, Verdict, steps, asks, goes_on, moves_to, stops}
use Rattle.gx_session.specs.Moves.{event_done, after_reply, asking_for, after_turn, after_given, after_line, given_of}
use Rattle.gx_session.specs.Moves.{shelf_gives, after_restoring, after_effect, act_by}
use Rattle.gx_play.specs.Wrapped.{TakesLines, one_more}

-- ---- saves

saves : (rows : Bool) (limit : ℕ) (r : FlatWrapper) (w : Scene) (f : FlatState) (stream : ℕ)
    → ComesBeside 0 rows limit r (saving (in_wrapping rows r w) f stream) (saving (in_plain rows limit w) f stream)
unfolding saving
saves rows limit r w f stream =
    comes_if rows limit (f.iosys.0 == glk_system)
    (answers_as rows limit (λ o. unwrap_or o (replies failed))
    (puts_save rows limit r w f stream (save_bytes f.story (saved_copy f)))) (comes_to (quiet rows limit r w))

restores : (rows : Bool) (limit : ℕ) (r : FlatWrapper) (w : Scene) (f : FlatState) (stream : ℕ)
    → ComesBeside 0 rows limit r (restoring (in_wrapping rows r w) f stream) (restoring (in_plain rows limit w) f stream)
unfolding restoring
restores rows limit r w f stream =
    comes_if rows limit (f.iosys.0 == glk_system)
    (answers_as rows limit (λ o. option_and_then (λ bytes. result_ok (copy_in_save ceiling bytes f.story)) o)
    (takes_rest rows limit r w f stream)) (comes_to (quiet rows limit r w))

-- ---- worlds, configurations and verdicts

-- the worlds after the same parts, from a row on, where so many lines are taken at most
pub record Worlds (rows : Bool) (limit : ℕ) (r : FlatWrapper) (most : ℕ) (a b : FlatWorld) : Type 0 where
  pub scene : Scene
  pub parts : List Part
  pub wraps : a ≡ record { scene = in_wrapping rows (wrapped r parts).1 scene; text = encode_utf8_all (wrapped r parts).0 }
  pub comes : b ≡ record { scene = in_plain rows limit scene; text = encode_utf8_all (as_it_comes parts) }
  pub lines : lines_taken parts ≤ most

-- the lines that were taken, with one that a call is to go on with
abbrev pub with_line : Phase → ℕ → ℕ
with_line (goes_on (given.Line chars) w) n = suc n
with_line (goes_on (given.Loaded load) w) n = n
with_line (goes_on given.Stored w) n = n
with_line (goes_on (given.Was was) w) n = n
with_line steps n = n
with_line (asks t w) n = n

-- the same configurations, but for world and what was sent, after so many lines of an input
pub data Runs (rows : Bool) (limit : ℕ) (r : FlatWrapper) (input : List ℕ) : Configuration → Configuration → Type 0 where
  runs : (m : Configuration) (a b : FlatWorld) (s t : List (List ℕ)) (n : ℕ) → TakesLines input (with_line m.phase n) m.input
      → Worlds rows limit r n a b → Runs rows limit r input (record m { world = a; sent = s }) (record m { world = b; sent = t })

pub data Verdicts (rows : Bool) (limit : ℕ) (r : FlatWrapper) (input : List ℕ) : Verdict → Verdict → Type 0 where
  both_move : {x y : Configuration} → Runs rows limit r input x y → Verdicts rows limit r input (moves_to x) (moves_to y)
  both_stop : (s : Stop) {x y : Configuration} → Runs rows limit r input x y
      → Verdicts rows limit r input (stops s x) (stops s y)

module _ (rows : Bool) (limit : ℕ) (r : FlatWrapper) where
  pub said_more : {n : ℕ} (most k : ℕ) → n + k ≤ most → (a b : FlatWorld) (h : Worlds rows limit r n a b) (x y : Said)
      → SaysBeside k rows limit (wrapped r h.parts).1 x y → Worlds rows limit r most (after a x) (after b y)
  said_more most k less a b h x y s =
      let first = wrapped r h.parts in
      let second = wrapped first.1 s.parts in
      let world1 : FlatWorld = record { scene = in_wrapping rows first.1 h.scene; text = encode_utf8_all first.0 } in
      let world2 : FlatWorld = record { scene = in_plain rows limit h.scene; text = encode_utf8_all (as_it_comes h.parts) } in
      let shape1 : LetGo → FlatWorld = λ out. record { scene = in_wrapping rows out.1 s.scene; text = encode_utf8_all out.0 } in
      let shape2 : List ℕ → FlatWorld = λ t. record { scene = in_plain rows limit s.scene; text = t } in
      let text1 : List ℕ → FlatWorld = λ t. record { scene = in_wrapping rows second.1 s.scene; text = t } in
      record {
        scene = s.scene;
        parts = h.parts ++ s.parts;
        wraps = ap (λ (v : FlatWorld). after v x) h.wraps ∙ ap (λ (z : Said). after world1 z) s.wraps
            ∙ ap text1 (sym (enc_append first.0 second.0)) ∙ sym (ap shape1 (both_wrapped r h.parts s.parts));
        comes = ap (λ (v : FlatWorld). after v y) h.comes ∙ ap (λ (z : Said). after world2 z) s.comes
            ∙ ap shape2 (sym (enc_append (as_it_comes h.parts) (as_it_comes s.parts))
            ∙ ap encode_utf8_all (sym (both_come h.parts s.parts)));
        lines = let few = h.lines in let more = s.lines in omega (arith, few, more, less, both_taken h.parts s.parts);
      }

  -- what is said or called of scenes, at those of the worlds
  pub says_at : {n : ℕ} (a b : FlatWorld) (h : Worlds rows limit r n a b) (say : Scene → Said)
      → ((r' : FlatWrapper) (w : Scene) → SaysBeside 0 rows limit r' (say (in_wrapping rows r' w)) (say (in_plain rows limit w)))
      → SaysBeside 0 rows limit (wrapped r h.parts).1 (say a.scene) (say b.scene)
  says_at a b h say on =
      let now = (wrapped r h.parts).1 in
      subst (λ (v : FlatWorld). SaysBeside 0 rows limit now (say v.scene) (say b.scene)) (sym h.wraps)
      (subst (λ (v : FlatWorld). SaysBeside 0 rows limit now (say (in_wrapping rows now h.scene)) (say v.scene)) (sym h.comes)
      (on now h.scene))

  comes_at : {X : Type 0} {n : ℕ} (k : ℕ) (a b : FlatWorld) (h : Worlds rows limit r n a b) (call : Scene → Outcome X)
      → ((r' : FlatWrapper) (w : Scene) → ComesBeside k rows limit r' (call (in_wrapping rows r' w)) (call (in_plain rows limit w)))
      → ComesBeside k rows limit (wrapped r h.parts).1 (call a.scene) (call b.scene)
  comes_at k a b h call on =
      let now = (wrapped r h.parts).1 in
      subst (λ (v : FlatWorld). ComesBeside k rows limit now (call v.scene) (call b.scene)) (sym h.wraps)
      (subst (λ (v : FlatWorld). ComesBeside k rows limit now (call (in_wrapping rows now h.scene)) (call v.scene)) (sym h.comes)
      (on now h.scene))

  pub world_says : {n : ℕ} (a b : FlatWorld) → Worlds rows limit r n a b → (say : Scene → Said)
      → ((r' : FlatWrapper) (w : Scene) → SaysBeside 0 rows limit r' (say (in_wrapping rows r' w)) (say (in_plain rows limit w)))
      → Worlds rows limit r n (after a (say a.scene)) (after b (say b.scene))
  world_says {n} a b h say on =
      said_more n 0 (omega arith) a b h (say a.scene) (say b.scene) (says_at a b h say on)

  lined : {n : ℕ} (echo : Bool) (a b : FlatWorld) → Worlds rows limit r n a b → (chars : List ℕ)
      → Worlds rows limit r n (if echo then after a (show_line a.scene chars) else a)
      (if echo then after b (show_line b.scene chars) else b)
  lined true a b h chars = world_says a b h (λ w. show_line w chars) (λ r' w. line_says rows limit r' w chars)
  lined false a b h chars = h

  verdict_if : {input : List ℕ} (c : Bool) {u1 v1 u2 v2 : Verdict} → Verdicts rows limit r input u1 v1
      → Verdicts rows limit r input u2 v2
      → Verdicts rows limit r input (if c then u1 else u2) (if c then v1 else v2)
  verdict_if true h k = h
  verdict_if false h k = k

-- ---- what comes next

none_given : (answer : Answer) (w : GlkWait) (n : ℕ) → with_line (goes_on (given_of answer) w) n ≡ n
none_given (loaded load) w n = refl
none_given was_stored w n = refl
none_given (was_there b) w n = refl

given_most : (g : Given) (w : GlkWait) (n : ℕ) → n + lines_in g ≤ with_line (goes_on g w) n
given_most (given.Line chars) w n = omega arith
given_most (given.Loaded load) w n = omega arith
given_most given.Stored w n = omega arith
given_most (given.Was was) w n = omega arith

module _ (rows : Bool) (limit : ℕ) (r : FlatWrapper) (input : List ℕ) (m : Configuration) (a b : FlatWorld)
    (s t : List (List ℕ)) (n : ℕ) (h : Worlds rows limit r n a b) where
  abbrev first : Configuration
  first = record m { world = a; sent = s }

  abbrev second : Configuration
  second = record m { world = b; sent = t }

  -- where the lines so far are those that were taken of the input, or one more is on the way
  abbrev Standing : Type 0
  Standing = Runs rows limit r input first second

  -- what is said of a call, of so many lines
  module _ (k most : ℕ) (less : n + k ≤ most) (took : TakesLines input most m.input) (stand : Standing) where
    more : (x y : Said) → SaysBeside k rows limit (wrapped r h.parts).1 x y
        → Worlds rows limit r most (after a x) (after b y)
    more x y says = said_more rows limit r most k less a b h x y says

    answers : (left : ℕ) (x y : Said) (reply : Reply) → SaysBeside k rows limit (wrapped r h.parts).1 x y
        → Verdicts rows limit r input (after_reply first left (Ok (x, reply))) (after_reply second left (Ok (y, reply)))
    answers left x y reply says =
        let next : Configuration = record (event_done m (answer_of m.machine reply) left) { phase = steps } in
        both_move (runs next (after a x) (after b y) s t most took (more x y says))

    replies_both : (left : ℕ) {o p : Outcome Reply} → ComesBeside k rows limit (wrapped r h.parts).1 o p
        → Verdicts rows limit r input (after_reply first left o) (after_reply second left p)
    replies_both left (comes_to {a = x} {b = y} {x = reply} says) = answers left x y reply says
    replies_both left (fails e) = both_stop (stop.Faulted e) stand

    gives : (w : GlkWait) (x y : Said) → SaysBeside k rows limit (wrapped r h.parts).1 x y → (made : Turn)
        → Verdicts rows limit r input (after_given first w (Ok (x, made))) (after_given second w (Ok (y, made)))
    gives w x y says (turn.Answer reply) = answers w.left x y reply says
    gives w x y says turn.Wait = both_stop stop.Stuck stand
    gives w x y says turn.Stuck = both_stop stop.Stuck stand
    gives w x y says turn.Prompt = both_stop stop.Stuck stand
    gives w x y says (turn.Load name) = both_stop stop.Stuck stand
    gives w x y says (turn.Store name bytes) = both_stop stop.Stuck stand
    gives w x y says (turn.Remove name) = both_stop stop.Stuck stand
    gives w x y says (turn.Has name) = both_stop stop.Stuck stand
    gives w x y says turn.Exit = both_stop stop.Stuck stand

    gives_both : (w : GlkWait) {o p : Outcome Turn} → ComesBeside k rows limit (wrapped r h.parts).1 o p
        → Verdicts rows limit r input (after_given first w o) (after_given second w p)
    gives_both w (comes_to {a = x} {b = y} {x = made} says) = gives w x y says made
    gives_both w (fails e) = both_stop (stop.Faulted e) stand

  module _ (took : TakesLines input n m.input) (stand : Standing) where
    none_more : n + 0 ≤ n
    none_more = omega arith

    said_at : (x y : Said) → SaysBeside 0 rows limit (wrapped r h.parts).1 x y → Worlds rows limit r n (after a x) (after b y)
    said_at x y says = said_more rows limit r n 0 none_more a b h x y says

    shown_at : (x y : Said) → SaysBeside 0 rows limit (wrapped r h.parts).1 x y
        → Worlds rows limit r n (after (after a x) (show_grids x.0)) (after (after b y) (show_grids y.0))
    shown_at x y says =
        world_says rows limit r (after a x) (after b y) (said_at x y says) show_grids (λ r' w. grids_say rows limit r' w)

    -- a device is asked
    asks_for : (w : GlkWait) (made : Turn) (u v : FlatWorld) → Worlds rows limit r n u v
        → Verdicts rows limit r input (asking_for first w u made) (asking_for second w v made)
    asks_for w made u v is = both_move (runs (record m { phase = asks made w }) u v s t n took is)

    turns : (w : GlkWait) (x y : Said) → SaysBeside 0 rows limit (wrapped r h.parts).1 x y → (made : Turn)
        → m.phase ≡ steps
        → Verdicts rows limit r input (after_turn first w (Ok (x, made))) (after_turn second w (Ok (y, made)))
    turns w x y says (turn.Answer reply) begins = answers 0 n none_more took stand w.left x y reply says
    turns w x y says turn.Wait begins = asks_for w turn.Wait _ _ (shown_at x y says)
    turns w x y says turn.Stuck begins =
        both_stop stop.Stuck (runs m (after a x) (after b y) s t n
        (subst (λ (p : Phase). TakesLines input (with_line p n) m.input) (sym begins) took) (said_at x y says))
    turns w x y says turn.Prompt begins = asks_for w turn.Prompt _ _ (shown_at x y says)
    turns w x y says (turn.Load name) begins = asks_for w (turn.Load name) _ _ (said_at x y says)
    turns w x y says (turn.Store name bytes) begins = asks_for w (turn.Store name bytes) _ _ (said_at x y says)
    turns w x y says (turn.Remove name) begins = asks_for w (turn.Remove name) _ _ (said_at x y says)
    turns w x y says (turn.Has name) begins = asks_for w (turn.Has name) _ _ (said_at x y says)
    turns w x y says turn.Exit begins =
        both_stop stop.Exited (runs (record m { left = w.left }) (after a x) (after b y) s t n
        (subst (λ (p : Phase). TakesLines input (with_line p n) m.input) (sym begins) took) (said_at x y says))

    turns_both : (w : GlkWait) {o p : Outcome Turn} → m.phase ≡ steps → ComesBeside 0 rows limit (wrapped r h.parts).1 o p
        → Verdicts rows limit r input (after_turn first w o) (after_turn second w p)
    turns_both w begins (comes_to {a = x} {b = y} {x = made} says) = turns w x y says made begins
    turns_both w begins (fails e) = both_stop (stop.Faulted e) stand

    lines : (w : GlkWait) (l : NextLine) → next_line m.input ≡ l
        → Verdicts rows limit r input (after_line first w l) (after_line second w l)
    lines w too_long is = both_stop stop.LineTooLong stand
    lines w none is = both_stop stop.InputEnded stand
    lines w (line chars rest) is =
        both_move (runs (record m { input = rest; phase = goes_on (given.Line chars) w }) _ _ s t n (one_more took is)
        (lined rows limit r m.echo a b h chars))

    asks_shelf : (w : GlkWait) (request : Request)
        → Verdicts rows limit r input (shelf_gives first w (Some request)) (shelf_gives second w (Some request))
    asks_shelf w request =
        let answer = m.answers m.asked request in
        let next : Configuration =
        record m { asked = m.asked ++ (request, Ok answer) ∷ []; phase = goes_on (given_of answer) w } in
        both_move (runs next a b s t n
        (subst (λ (i : ℕ). TakesLines input i m.input) (sym (none_given answer w n)) took) h)

    goes_back : (left : ℕ) (x y : Said) → SaysBeside 0 rows limit (wrapped r h.parts).1 x y → (found : Option Copy)
        → Verdicts rows limit r input (after_restoring first left (Ok (x, found)))
        (after_restoring second left (Ok (y, found)))
    goes_back left x y says (Some copy) =
        let next : Configuration = record (event_done m (restored m.machine copy) left) { phase = steps } in
        both_move (runs next (after a x) (after b y) s t n took (said_at x y says))
    goes_back left x y says None = answers 0 n none_more took stand left x y (replies failed) says

    restores_both : (left : ℕ) {o p : Outcome (Option Copy)} → ComesBeside 0 rows limit (wrapped r h.parts).1 o p
        → Verdicts rows limit r input (after_restoring first left o) (after_restoring second left p)
    restores_both left (comes_to {a = x} {b = y} {x = found} says) = goes_back left x y says found
    restores_both left (fails e) = both_stop (stop.Faulted e) stand

    effects : (left : ℕ) (now : FlatMachine) (does : Effect) → m.phase ≡ steps
        → Verdicts rows limit r input (after_effect first left (Ok (now, does))) (after_effect second left (Ok (now, does)))
    effects left now effect.Went begins =
        both_move (runs (event_done m now left) a b s t n
        (subst (λ (p : Phase). TakesLines input (with_line p n) m.input) (sym begins) took) h)
    effects left now effect.Drew begins =
        both_move (runs (record (event_done m now left) { words = (next_u32 m.words).1 }) a b s t n
        (subst (λ (p : Phase). TakesLines input (with_line p n) m.input) (sym begins) took) h)
    effects left now (effect.Put c) begins =
        replies_both 0 n none_more took stand left (comes_at rows limit r 0 a b h (λ w. putting w m.machine.flat c)
        (λ r' w. program_puts rows limit r' w m.machine.flat c))
    effects left now (effect.Glk selector args room) begins =
        turns_both (record { room = room; left = left }) begins
        (comes_at rows limit r 0 a b h (λ w. glk_call w m.machine.flat room selector args.items)
        (λ r' w. glk_calls rows limit r' w m.machine.flat room selector args.items))
    effects left now (effect.Save stream) begins =
        replies_both 0 n none_more took stand left (comes_at rows limit r 0 a b h (λ w. saving w m.machine.flat stream)
        (λ r' w. saves rows limit r' w m.machine.flat stream))
    effects left now (effect.Restore stream) begins =
        restores_both left (comes_at rows limit r 0 a b h (λ w. restoring w m.machine.flat stream)
        (λ r' w. restores rows limit r' w m.machine.flat stream))
    effects left now effect.Quit begins =
        both_stop stop.Ended (runs (event_done m now left) a b s t n
        (subst (λ (p : Phase). TakesLines input (with_line p n) m.input) (sym begins) took) h)
    effects left now effect.Spent begins =
        both_stop stop.Spent (runs (record m { machine = now; left = left }) a b s t n
        (subst (λ (p : Phase). TakesLines input (with_line p n) m.input) (sym begins) took) h)

    effects_both : (left : ℕ) (step : Result (FlatMachine × Effect) Fault) → m.phase ≡ steps
        → Verdicts rows limit r input (after_effect first left step) (after_effect second left step)
    effects_both left (Ok done) begins = effects left done.0 done.1 begins
    effects_both left (Err e) begins = both_stop (stop.Faulted e) stand

  pub acts : (phase : Phase) → m.phase ≡ phase → TakesLines input (with_line phase n) m.input → Standing
      → Verdicts rows limit r input (act_by phase first) (act_by phase second)
  acts steps is took stand =
      verdict_if rows limit r (nat_lt m.left (cost_of m.machine)) (both_stop stop.Spent stand)
      (effects_both took stand (m.left - cost_of m.machine) (step_of m.machine (next_u32 m.words).0) is)
  acts (asks (turn.Answer reply) w) is took stand = both_stop stop.Stuck stand
  acts (asks turn.Wait w) is took stand = lines took stand w (next_line m.input) refl
  acts (asks turn.Stuck w) is took stand = both_stop stop.Stuck stand
  acts (asks turn.Prompt w) is took stand = lines took stand w (next_line m.input) refl
  acts (asks (turn.Load name) w) is took stand = asks_shelf took stand w _
  acts (asks (turn.Store name bytes) w) is took stand = asks_shelf took stand w _
  acts (asks (turn.Remove name) w) is took stand = asks_shelf took stand w _
  acts (asks (turn.Has name) w) is took stand = asks_shelf took stand w _
  acts (asks turn.Exit w) is took stand = both_stop stop.Stuck stand
  acts (goes_on g w) is took stand =
      gives_both (lines_in g) (with_line (goes_on g w) n) (given_most g w n) took stand w
      (comes_at rows limit r (lines_in g) a b h (λ v. glk_go_on v m.machine.flat w.room g)
      (λ r' v. glk_goes rows limit r' v m.machine.flat w.room g))
