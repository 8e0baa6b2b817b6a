-- Characters that are put behind one another are events of the session, one by one.
use Rattle.std.proofs.Common.{◌≡◌, ◌≢◌, ℕ, suc, ◌+◌, ◌-◌, ◌*◌, ◌<◌, ◌≤◌, nat_le, List, [], ◌∷◌, ◌++◌, length}
use Rattle.std.proofs.Common.{Bool, true, false, Option, Some, None, Result, Ok, Err, refl, ap, subst, sym, ◌∙◌, arith}
use Rattle.std.proofs.Common.{◌==◌, nat_lt, if◌then◌else◌}
use Rattle.std.proofs.Common.{append_assoc, length-append}
use Rattle.std.proofs.lemmas.Bool.{lt-leb}
use Rattle.std.proofs.lemmas.Bool.Decides.{nat_tests}
use Rattle.gx_words.specs.declared.faults.Fault.{Fault}
use Rattle.gx_words.specs.declared.faults.Fault.TheVariants.{BadFrame}
use Rattle.gx_state.specs.Flat.{FlatState, sp_of}
use Rattle.gx_state.specs.Copies.{Copy, restored_to}
use Rattle.gx_state.specs.Returns.{returned}
use Rattle.gx_state.specs.declared.effects.Effect.{Effect}
use Rattle.gx_state.specs.declared.effects.Effect.TheVariants as effect
use Rattle.gx_state.specs.declared.modes.Mode.{Mode}
use Rattle.gx_state.specs.declared.modes.Mode.TheVariants as mode
use Rattle.gx_words.specs.declared.strings.Printing.{Printing}
use Rattle.ops_print.specs.Asks.{printed, item_by, mode_after}
use Rattle.ops_print.specs.Puts.{PutsEach}
use Rattle.gx_machine.specs.declared.askings.Asking.TheVariants as asking
use Rattle.gx_machine.specs.Machine.{FlatMachine, Whole}
use Rattle.gx_machine.specs.Answer.{answer_of, answered_state}
use Rattle.gx_machine.specs.WaysBack.{laid_over, HasWayBack, HasWaysBack}
use Rattle.gx_machine.specs.Log.{Log, logged}
use Rattle.gx_machine.specs.Puts.{put_on}
use Rattle.gx_machine.specs.Step.{cost_of, step_of, mode_step, stepped}
use Rattle.gx_machine.proofs.Steps.{print_ok}
use Rattle.gx_machine.proofs.Puts.{item_answered, printed_on}
use Rattle.glk_world.specs.World.{FlatWorld, after, is_wrapping}
use Rattle.glk_world.specs.Putting.{put_of, put_chars}
use Rattle.glk_world.specs.Each.{ShowsOne, ShowsEach}
use Rattle.glk_world.proofs.Texts.{nothing_said}
use Rattle.glk_replies.specs.Parts.{replies}
use Rattle.glk_text_calls.specs.Output.{putting}
use Rattle.glk_text_calls.proofs.Puts.{text_put}
use Rattle.gx_session.specs.Constants.{enough}
use Rattle.gx_session.specs.Configurations.{Configuration, steps}
use Rattle.gx_session.specs.Wants.{ReplyWants}
use Rattle.gx_session.specs.Asked.{effect_at}
use Rattle.gx_session.specs.declared.running.Running.{Running}
use Rattle.gx_session.specs.Holding.{SendStep, Handed, HeldRun, held_by}
use Rattle.gx_session.specs.Standing.{Standing, Ready}
use Rattle.gx_session.proofs.Parts.{effect_of}
use Rattle.gx_session.proofs.Playing.{due-is}
use Rattle.gx_session.proofs.Asking.{step-follows, asks-now, asking-resumes, resumed-on, put-does, put-takes, world-ok}
use Rattle.rand_core.specs.Stream.{next_u32}

-- ---- the machine

not-running : (f : FlatState) (c : ℕ) → printed f ≡ Ok (f, effect.Put c) → (f.mode ≡ mode.Running → ⊥)
not-running f c is running =
    let none : item_by f f.mode ≡ Err BadFrame = ap (item_by f) running in
    let same : (let r : Result (FlatState × Effect) Fault = Err BadFrame in r) ≡ Ok (f, effect.Put c) = sym none ∙ is in
    cc

-- a character that a string or number puts is answered: the mode is the one behind it
answer-put : (m : FlatMachine) (c : ℕ) → printed m.flat ≡ Ok (m.flat, effect.Put c)
    → answer_of m (replies 0) ≡ record m { flat = record m.flat { mode = mode_after m.flat } }
unfolding answer_of
answer-put m c is = ap (λ (f : FlatState). let x : FlatMachine = record m { flat = f } in x)
    (item_answered m.flat (not-running m.flat c is))

printing-of : (d : Mode) → (d ≡ mode.Running → ⊥) → (p : Printing) × (d ≡ mode.Printing p)
printing-of mode.Running none = absurd (none refl)
printing-of (mode.Printing p) none = (p, refl)

-- A machine that puts a character once it is answered was printing: only its mode has changed.
answered-same : (m : FlatMachine) (c : ℕ) (cs : List ℕ) (behind : Mode)
    → PutsEach (c ∷ cs) (answer_of m (replies 0)).flat behind
    → (d : Mode) × (answer_of m (replies 0) ≡ record m { flat = record m.flat { mode = d } })
unfolding answer_of
answered-same m c cs behind puts =
    let g : FlatState = answered_state m.flat (replies 0) in
    let on = printing-of g.mode (not-running g c puts.0) in (
      mode.Printing on.0,
      ap (λ (f : FlatState). let x : FlatMachine = record m { flat = f } in x)
          (printed_on m.flat m.flat.mode on.0 refl on.1),
    )

-- what it puts it puts with a stack, if the step that asked had one
pub puts-live : (m : FlatMachine) (cs : List ℕ) (behind : Mode) → 0 < sp_of m.flat
    → PutsEach cs (answer_of m (replies 0)).flat behind → cs ≢ [] → 0 < sp_of (answer_of m (replies 0)).flat
puts-live m [] behind live puts some = absurd (some refl)
puts-live m (c ∷ cs) behind live puts some =
    subst (λ (x : FlatMachine). 0 < sp_of x.flat) (sym (answered-same m c cs behind puts).1) live

-- the way back to the copies is a matter of no mode
back-by : (f h : FlatState) (c : Copy) → returned (laid_over f c) (length c.stack) 0xFFFFFFFF ≡ Ok (h, false)
    → restored_to f c ≡ h
unfolding restored_to
back-by f h c is = ap (λ (r : Result (FlatState × Bool) Fault). let g : FlatState =
    elim r [ Ok x ↦ x.0 | Err fault ↦ f ] in g) is

mode-back : (f : FlatState) (d : Mode) (c : Copy) → HasWayBack f c → HasWayBack (record f { mode = d }) c
mode-back f d c way =
    let g : FlatState = record f { mode = d } in
    let is : returned (laid_over g c) (length c.stack) 0xFFFFFFFF ≡ Ok (restored_to f c, false) = way in
    is ∙ ap (λ (h : FlatState). let r : Result (FlatState × Bool) Fault = Ok (h, false) in r)
    (sym (back-by g (restored_to f c) c is))

mode-backs : (m : FlatMachine) (d : Mode) → HasWaysBack m → HasWaysBack (record m { flat = record m.flat { mode = d } })
mode-backs m d ways = λ k x inside. mode-back m.flat d _ (ways k x inside)

pub puts-backs : (m : FlatMachine) (cs : List ℕ) (behind : Mode) → HasWaysBack m
    → PutsEach cs (answer_of m (replies 0)).flat behind → cs ≢ [] → HasWaysBack (answer_of m (replies 0))
puts-backs m [] behind ways puts some = absurd (some refl)
puts-backs m (c ∷ cs) behind ways puts some =
    let same = answered-same m c cs behind puts in
    subst (λ (x : FlatMachine). HasWaysBack x) (sym same.1) (mode-backs m same.0 ways)

-- ---- the session

not-due : (text : List ℕ) → length text < enough → nat_le enough (length text) ≡ false
not-due text few = lt-leb enough (length text) few

-- what is held once a character is put and answered
abbrev pub put-held : HeldRun → ℕ → HeldRun
put-held h c = record h {
  machine = record h.machine { flat = record h.machine.flat { mode = mode_after h.machine.flat } };
  world = after h.world (put_of h.world.scene h.world.scene.current c);
  left = h.left - 1;
  log = logged h.log h.machine;
}

-- and once all of these are
abbrev pub puts-held : HeldRun → List ℕ → Mode → HeldRun
puts-held h cs behind = record h {
  machine = record h.machine { flat = record h.machine.flat { mode = behind } };
  world = after h.world (put_chars h.world.scene h.world.scene.current cs);
  left = h.left - length cs;
}

-- what is put after one is what is put after it
world-more : (w : FlatWorld) (stream c : ℕ) (cs : List ℕ) → (put_of w.scene stream c).0.current ≡ stream
    → (let one : FlatWorld = after w (put_of w.scene stream c) in
    after one (put_chars one.scene one.scene.current cs)) ≡ after w (put_chars w.scene stream (c ∷ cs))
unfolding put_chars
world-more w stream c cs current =
    let one : FlatWorld = after w (put_of w.scene stream c) in
    ap (λ (s : ℕ). after one (put_chars one.scene s cs)) current
    ∙ ap (λ (text : List ℕ). let v : FlatWorld =
    record { scene = (put_chars one.scene stream cs).0; text = text } in v)
    (append_assoc w.text (put_of w.scene stream c).1 (put_chars one.scene stream cs).1)

world-none : (w : FlatWorld) (stream : ℕ) → after w (put_chars w.scene stream []) ≡ w
unfolding put_chars
world-none w stream = nothing_said w

-- an effect comes of a step that was made with a stack
live-by : (size : ℕ) (r : Result (FlatMachine × Effect) Fault) (does : Effect) (empty short : Bool)
    → (size == 0) ≡ empty
    → (if short then None else effect_of (if empty then Err BadFrame else r)) ≡ Some does → 0 < size
live-by size r does empty true is e = cc
live-by size r does true false is e = cc
live-by size r does false false is e = grind (arith, nat_tests)

pub effect-live : (m : Configuration) (does : Effect) → effect_at m ≡ Some does → 0 < sp_of m.machine.flat
unfolding step_of
effect-live m does e = live-by (sp_of m.machine.flat)
    (mode_step m.machine (next_u32 m.words).0 m.machine.flat.mode) does (sp_of m.machine.flat == 0)
    (nat_lt m.left (cost_of m.machine)) refl e

module _ {K : Type 0} {sending : SendStep K} (start : Configuration) (entry d : Handed sending) (word : ℕ) where
  -- one character more
  put-one : (h : HeldRun) (c : ℕ) → h.word ≡ Some word → Standing start entry h d steps
      → length h.world.text < enough → printed h.machine.flat ≡ Ok (h.machine.flat, effect.Put c)
      → 0 < sp_of h.machine.flat → HasWaysBack h.machine → 1 ≤ h.left
      → ShowsOne h.world h.world.scene.current c → Standing start entry (put-held h c) d steps
  unfolding putting
  put-one h c drawn s few puts live backs some shows =
      let f : FlatState = h.machine.flat in
      let stream : ℕ = h.world.scene.current in
      let world : FlatWorld = after h.world (put_of h.world.scene stream c) in
      let ready : Ready start entry h d steps =
      record { now = s; quiet = due-is enough s.past.sent h.world.text false (not-due h.world.text few) } in
      let w : Whole = record { machine = h.machine; asking = Some asking.Put } in
      let step : stepped (record { machine = h.machine; asking = None }) word h.left ≡ Ok ((w, h.left - 1), effect.Put c) =
      print_ok (record { machine = h.machine; asking = None }) word h.left f (effect.Put c) (Some asking.Put) some live
      (not-running f c puts) refl puts in
      let follows = step-follows start entry h d None word drawn ready w (h.left - 1) (effect.Put c) step (λ some. refl)
      h.log refl backs in
      let a = asks-now start entry h d (h.left - 1) (effect.Put c) follows refl in
      let said = world-ok h.world world (putting h.world.scene f c) (replies 0)
      (text_put h.world f stream c shows.plain (shows.places 1)) in
      let r = asking-resumes start entry h d (h.left - 1) (effect.Put c) a (Some asking.Put) world said.0
      (answer_of h.machine (replies 0)) (ReplyWants h.log h.machine (replies 0)) refl said.2
      (put-does start entry h d (h.left - 1) (effect.Put c) a c f (Ok (said.0, replies 0)) refl refl said.1)
      tt (λ begins. absurd begins)
      (put-takes start entry h d (h.left - 1) (effect.Put c) a c f said.0 (replies 0) refl refl said.1) in
      subst (λ (m : FlatMachine). Standing start entry
      (record h { machine = m; world = world; left = h.left - 1; log = logged h.log h.machine }) d steps)
      (answer-put h.machine c puts)
      (resumed-on start entry (record h { world = world }) d (Some asking.Put) (h.left - 1)
      (answer_of h.machine (replies 0)) (ReplyWants h.log h.machine (replies 0)) r)

  none-logged : (log : Option Log) (m : FlatMachine) → log ≡ None → logged log m ≡ None
  none-logged log m none = ap (λ (l : Option Log). logged l m) none

  same-held : (h : HeldRun) (c : ℕ) (cs : List ℕ) (behind : Mode) (world : FlatWorld) → h.log ≡ None
      → after (put-held h c).world (put_chars (put-held h c).world.scene (put-held h c).world.scene.current cs) ≡ world
      → puts-held (put-held h c) cs behind ≡ record (puts-held h (c ∷ cs) behind) { world = world }
  same-held h c cs behind world none shown =
      let units : h.left - 1 - length cs ≡ h.left - suc (length cs) = omega arith in
      ap (λ (w : FlatWorld). let x : HeldRun = record (puts-held (put-held h c) cs behind) { world = w } in x) shown
      ∙ ap (λ (n : ℕ). let x : HeldRun =
      record (puts-held (put-held h c) cs behind) { world = world; left = n } in x) units
      ∙ ap (λ (l : Option Log). let x : HeldRun =
      record (puts-held h (c ∷ cs) behind) { world = world; log = l } in x)
      (none-logged h.log h.machine none ∙ sym none)

  -- ALL OF THEM: no text is due before the last one is put
  pub puts-standing : (cs : List ℕ) (h : HeldRun) (behind : Mode) → h.word ≡ Some word
      → Standing start entry h d steps → PutsEach cs h.machine.flat behind
      → ShowsEach h.world h.world.scene.current cs → is_wrapping h.world.scene ≡ false
      → length h.world.text + 4 * length cs ≤ enough → 0 < sp_of h.machine.flat → HasWaysBack h.machine
      → length cs ≤ h.left → h.log ≡ None → Standing start entry (puts-held h cs behind) d steps
  puts-standing [] h behind drawn s puts shows free room live backs units unlogged =
      let left : h.left - 0 ≡ h.left = omega arith in
      subst (λ (n : ℕ). Standing start entry (record (puts-held h [] behind) { left = n }) d steps) (sym left)
      (subst (λ (w : FlatWorld). Standing start entry (record (puts-held h [] behind) { world = w; left = h.left }) d steps)
      (sym (world-none h.world h.world.scene.current))
      (subst (λ (m : Mode). Standing start entry
      (record h { machine = record h.machine { flat = record h.machine.flat { mode = m } } }) d steps) puts s))
  puts-standing (c ∷ cs) h behind drawn s puts shows free room live backs units unlogged =
      let shown : ShowsOne h.world h.world.scene.current c = shows.0 in
      let added : length (put_of h.world.scene h.world.scene.current c).1 ≤ 4 = shown.few free in
      let longer : length (h.world.text ++ (put_of h.world.scene h.world.scene.current c).1)
      ≡ length h.world.text + length (put_of h.world.scene h.world.scene.current c).1 =
      length-append h.world.text (put_of h.world.scene h.world.scene.current c).1 in
      let one = put-one h c drawn s (omega arith) puts.0 live backs (omega arith) shown in
      let all = puts-standing cs (put-held h c) behind drawn one puts.1
      (subst (λ (x : ℕ). ShowsEach (put-held h c).world x cs) (sym shown.current) shows.1)
      (shown.unwrapped free) (omega arith) live (mode-backs h.machine (mode_after h.machine.flat) backs) (omega arith)
      (none-logged h.log h.machine unlogged) in
      subst (λ (x : HeldRun). Standing start entry x d steps)
      (same-held h c cs behind (after h.world (put_chars h.world.scene h.world.scene.current (c ∷ cs))) unlogged
      (world-more h.world h.world.scene.current c cs shown.current)) all

-- there are characters
pub some-are : (cs : List ℕ) → false ≡ (length cs == 0) → cs ≢ []
some-are [] some none = absurd cc
some-are (c ∷ cs) some none = cc

-- what is held once the machine was given the answers, with the world to which the characters were put
pub given-held : {E : Type 0} (whole : E → Whole) (log : E → Option Log) (old new : Running E) (coming : List ℕ)
    (cs : List ℕ) (behind : Mode) (left units : ℕ) (world : FlatWorld)
    → new ≡ record old { engine = new.engine; world = world; left = units }
    → whole new.engine ≡ put_on (whole old.engine) behind → log new.engine ≡ logged (log old.engine) (whole old.engine).machine
    → world ≡ after old.world (put_chars old.world.scene old.world.scene.current cs) → units ≡ left - length cs
    → (let h : HeldRun = held_by whole log old coming in
    held_by whole log new coming ≡ puts-held (record h {
      machine = answer_of h.machine (replies 0);
      left = left;
      log = logged h.log h.machine;
    }) cs behind)
given-held whole log old new coming cs behind left units world same engine logs shown count =
    let h : HeldRun = held_by whole log old coming in
    ap (λ (x : Running _). held_by whole log x coming) same
    ∙ ap (λ (w : Whole). let x : HeldRun =
    record h { machine = w.machine; world = world; left = units; log = log new.engine } in x) engine
    ∙ ap (λ (l : Option Log). let x : HeldRun =
    record h { machine = (put_on (whole old.engine) behind).machine; world = world; left = units; log = l } in x) logs
    ∙ ap (λ (w : FlatWorld). let x : HeldRun = record h {
      machine = (put_on (whole old.engine) behind).machine;
      world = w;
      left = units;
      log = logged h.log h.machine;
    } in x) shown
    ∙ ap (λ (n : ℕ). let x : HeldRun = record h {
      machine = (put_on (whole old.engine) behind).machine;
      world = after old.world (put_chars old.world.scene old.world.scene.current cs);
      left = n;
      log = logged h.log h.machine;
    } in x) count
