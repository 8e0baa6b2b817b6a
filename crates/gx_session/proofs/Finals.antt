-- Moves bring a session nearer to its stop, which stays the same.
use Rattle.std.proofs.Common.{◌≡◌, ℕ, suc, zero, ◌+◌, ◌-◌, ◌*◌, ◌<◌, ◌≤◌, nat_lt, if◌then◌else◌, Bool, true, false}
use Rattle.std.proofs.Common.{List, [], ◌∷◌, ◌++◌, length, length-append, length-drop, Option, Some, None, Result, Ok}
use Rattle.std.proofs.Common.{Err, refl, ap, subst, sym, ◌∙◌, arith, option_and_then}
use Rattle.std.proofs.lemmas.Bool.{ltb-false, lt-leb}
use Rattle.std.proofs.lemmas.List.Folds.{concat-append}
use Rattle.std.specs.List.{concat}
use Rattle.gx_words.specs.declared.faults.Fault.{Fault}
use Rattle.gx_state.specs.declared.effects.Effect.{Effect}
use Rattle.gx_state.specs.declared.effects.Effect.TheVariants as effect
use Rattle.gx_state.specs.declared.effects.Reply.{Reply}
use Rattle.gx_state.specs.Copies.{Copy}
use Rattle.gx_machine.specs.Machine.{FlatMachine}
use Rattle.gx_machine.specs.Step.{cost_of, step_of}
use Rattle.gx_machine.proofs.Costs.{cost-positive}
use Rattle.glk_world.specs.World.{Said}
use Rattle.glk_world.specs.Shown.{show_grids}
use Rattle.glk_replies.specs.declared.Turn.{Turn}
use Rattle.glk_dispatch.specs.Calls.{glk_call}
use Rattle.glk_dispatch.specs.Going.{glk_go_on}
use Rattle.glk_text_calls.specs.Output.{putting}
use Rattle.gx_session.specs.declared.ends.Stop.{Stop}
use Rattle.gx_session.specs.declared.ends.Stop.TheVariants as stop
use Rattle.gx_session.specs.Constants.{enough as enough_text}
use Rattle.gx_session.specs.declared.running.GlkWait.{GlkWait}
use Rattle.gx_session.specs.Input.{next_line}
use Rattle.gx_session.specs.Saving.{saving, restoring}
use Rattle.gx_session.specs.Sending.{pending, is_due}
use Rattle.gx_session.specs.Configurations.{Configuration, Phase, steps, asks, goes_on, Verdict, moves_to, stops}
use Rattle.gx_session.specs.Moves.{after_reply, after_restoring, after_turn, after_effect}
use Rattle.gx_session.specs.Moves.{act_by, is_due_by, sends_now, all_sent, move_of}
use Rattle.gx_session.specs.Session.{RunEnd, end_after, final_in, moves_by, stop_of, next_configuration}
use Rattle.gx_session.specs.Session.{run_of, StopsByMove}
use Rattle.gx_session.proofs.Parts.{with_all, step_from, moves_left}
use Rattle.gx_session.specs.Standing.{act_of}
use Rattle.gx_session.proofs.Cases.{turn-cases, given-cases, line-cases, asking-cases}
use Rattle.rand_core.specs.Stream.{next_u32}

at-most-one : (b : Bool) → (if b then 1 else 0) ≤ 1
at-most-one true = omega arith
at-most-one false = omega arith

-- Once all text is sent none is due.
none-due : (enough : ℕ) (s : List (List ℕ)) (text : List ℕ) → 0 < enough → is_due enough (with_all s text) text ≡ false
none-due enough s text some =
    let size : length (concat (with_all s text)) ≡ length (concat s) + (length (pending s text) + 0) =
    ap length (concat-append s (pending s text ∷ [])) ∙ length-append (concat s) (pending s text ++ [])
    ∙ ap (λ (n : ℕ). length (concat s) + n) (length-append (pending s text) []) in
    let rest : length (pending s text) ≡ length text - length (concat s) = length-drop (length (concat s)) text in
    let none : length (pending (with_all s text) text) ≡ length text - length (concat (with_all s text)) =
    length-drop (length (concat (with_all s text))) text in
    lt-leb enough (length (pending (with_all s text) text)) (omega arith)

pub quiet-sent : (phase : Phase) (s : List (List ℕ)) (text : List ℕ) → is_due_by phase (with_all s text) text ≡ false
quiet-sent steps s text = none-due enough_text s text (omega arith)
quiet-sent (asks t w) s text = none-due 1 s text (omega arith)
quiet-sent (goes_on g w) s text = refl

-- a verdict that is nearer to the end
abbrev Near : ℕ → Verdict → Type 0
Near n (moves_to m) = moves_left m < n
Near n (stops s m) = Unit {0}

nearer : (base extra n : ℕ) (b : Bool) → base + extra + 1 < n → base + extra + (if b then 1 else 0) < n
nearer base extra n b less =
    let few : (if b then 1 else 0) ≤ 1 = at-most-one b in
    omega arith

replied-near : (n : ℕ) (m : Configuration) (left : ℕ) (r : Result (Said × Reply) Fault) → 5 * left + 1 < n
    → Near n (after_reply m left r)
replied-near n m left (Ok r) less =
    let few : (if is_due enough_text m.sent (m.world.text ++ r.0.1) then 1 else 0) ≤ 1 =
    at-most-one (is_due enough_text m.sent (m.world.text ++ r.0.1)) in
    omega arith
replied-near n m left (Err f) less = tt

restored-near : (n : ℕ) (m : Configuration) (left : ℕ) (r : Result (Said × Option Copy) Fault) → 5 * left + 1 < n
    → Near n (after_restoring m left r)
restored-near n m left (Ok (said, Some copy)) less =
    let few : (if is_due enough_text m.sent (m.world.text ++ said.1) then 1 else 0) ≤ 1 =
    at-most-one (is_due enough_text m.sent (m.world.text ++ said.1)) in
    omega arith
restored-near n m left (Ok (said, None)) less =
    let few : (if is_due enough_text m.sent (m.world.text ++ said.1) then 1 else 0) ≤ 1 =
    at-most-one (is_due enough_text m.sent (m.world.text ++ said.1)) in
    omega arith
restored-near n m left (Err f) less = tt

asks-near : (n : ℕ) (w : GlkWait) (b : Bool) → 5 * w.left + 4 < n → 5 * w.left + 3 + (if b then 1 else 0) < n
asks-near n w b less =
    let few : (if b then 1 else 0) ≤ 1 = at-most-one b in
    omega arith

turned-near : (n : ℕ) (m : Configuration) (w : GlkWait) (r : Result (Said × Turn) Fault) → 5 * w.left + 4 < n
    → Near n (after_turn m w r)
turned-near n m w r less =
    turn-cases (Near n) m w r (λ said reply. replied-near n m w.left (Ok (said, reply)) (omega arith))
    (λ said t. asks-near n w (is_due 1 m.sent (m.world.text ++ said.1)) less)
    (λ said t. asks-near n w (is_due 1 m.sent (m.world.text ++ said.1 ++ (show_grids said.0).1)) less)
    (λ said. tt) (λ said. tt) (λ f. tt)

went-near : (n : ℕ) (left : ℕ) (b : Bool) → 5 * left + 4 < n → 5 * left + (if b then 1 else 0) < n
went-near n left b less =
    let few : (if b then 1 else 0) ≤ 1 = at-most-one b in
    omega arith

-- a step that leaves so many units
effected-near : (n : ℕ) (m : Configuration) (left : ℕ) (machine : FlatMachine) (does : Effect) → m.phase ≡ steps
    → 5 * left + 4 < n → Near n (after_effect m left (Ok (machine, does)))
effected-near n m left machine effect.Went is less =
    subst (λ (d : Phase). moves_by d left + (if is_due_by d m.sent m.world.text then 1 else 0) < n) (sym is)
    (went-near n left (is_due enough_text m.sent m.world.text) less)
effected-near n m left machine effect.Drew is less =
    subst (λ (d : Phase). moves_by d left + (if is_due_by d m.sent m.world.text then 1 else 0) < n) (sym is)
    (went-near n left (is_due enough_text m.sent m.world.text) less)
effected-near n m left machine (effect.Put c) is less =
    replied-near n m left (putting m.world.scene m.machine.flat c) (omega arith)
effected-near n m left machine (effect.Glk selector args room) is less =
    turned-near n m (record { room = room; left = left })
    (glk_call m.world.scene m.machine.flat room selector args.items) less
effected-near n m left machine (effect.Save stream) is less =
    replied-near n m left (saving m.world.scene m.machine.flat stream) (omega arith)
effected-near n m left machine (effect.Restore stream) is less =
    restored-near n m left (restoring m.world.scene m.machine.flat stream) (omega arith)
effected-near n m left machine effect.Quit is less = tt
effected-near n m left machine effect.Spent is less = tt

stepped-near : (n : ℕ) (m : Configuration) (left : ℕ) (r : Result (FlatMachine × Effect) Fault) → m.phase ≡ steps
    → 5 * left + 4 < n → Near n (after_effect m left r)
stepped-near n m left (Ok r) is less = effected-near n m left r.0 r.1 is less
stepped-near n m left (Err f) is less = tt

tested-near : (m : Configuration) (cost : ℕ) (r : Result (FlatMachine × Effect) Fault) (b : Bool) → m.phase ≡ steps
    → nat_lt m.left cost ≡ b → 1 ≤ cost
    → Near (5 * m.left) (if b then stops stop.Spent m else after_effect m (m.left - cost) r)
tested-near m cost r true phase is positive = tt
tested-near m cost r false phase is positive =
    let enough : cost ≤ m.left = ltb-false m.left cost is in
    stepped-near (5 * m.left) m (m.left - cost) r phase (omega arith)

step-near : (m : Configuration) → m.phase ≡ steps → Near (5 * m.left) (step_from m)
step-near m is =
    tested-near m (cost_of m.machine) (step_of m.machine (next_u32 m.words).0)
    (nat_lt m.left (cost_of m.machine)) is refl (cost-positive m.machine)

-- what comes next
act-near : (phase : Phase) (m : Configuration) → m.phase ≡ phase → Near (moves_by phase m.left) (act_by phase m)
act-near steps m is = step-near m is
act-near (asks t w) m is =
    asking-cases (Near (5 * w.left + 3)) m w t
    (line-cases (Near (5 * w.left + 3)) m w (next_line m.input) tt tt (λ chars rest. omega arith))
    (λ r. omega arith) tt
act-near (goes_on g w) m is =
    given-cases (Near (5 * w.left + 2)) m w (glk_go_on m.world.scene m.machine.flat w.room g)
    (λ said reply. replied-near (5 * w.left + 2) m w.left (Ok (said, reply)) (omega arith)) tt (λ f. tt)

moved-near : (m : Configuration) (b : Bool) → sends_now m ≡ b
    → Near (moves_left m) (if b then moves_to (all_sent m) else act_of m)
moved-near m true is =
    let before : moves_left m ≡ moves_by m.phase m.left + 1 =
    ap (λ (b : Bool). moves_by m.phase m.left + (if b then 1 else 0)) is in
    let now : moves_left (all_sent m) ≡ moves_by m.phase m.left + 0 =
    ap (λ (b : Bool). moves_by m.phase m.left + (if b then 1 else 0)) (quiet-sent m.phase m.sent m.world.text) in
    omega arith
moved-near m false is =
    let before : moves_left m ≡ moves_by m.phase m.left + 0 =
    ap (λ (b : Bool). moves_by m.phase m.left + (if b then 1 else 0)) is in
    let same : moves_by m.phase m.left ≡ moves_left m = omega arith in
    subst (λ (n : ℕ). Near n (act_of m)) same (act-near m.phase m refl)

move-near : (m : Configuration) → Near (moves_left m) (move_of m)
unfolding move_of
move-near m = moved-near m (sends_now m) refl

-- A move brings nearer to the end.
pub goes-nearer : (m m' : Configuration) → move_of m ≡ moves_to m' → moves_left m' < moves_left m
goes-nearer m m' e = subst (Near (moves_left m)) e (move-near m)

-- two ways to go on that agree at the next moment
agree : (v : Verdict) (f g : Configuration → RunEnd) → ((m : Configuration) → v ≡ moves_to m → f m ≡ g m)
    → end_after v f ≡ end_after v g
agree (stops s m) f g same = refl
agree (moves_to m) f g same = same m refl

-- more moves than are left are enough
enough : (n k : ℕ) (m : Configuration) → moves_left m < n → moves_left m < k → final_in n m ≡ final_in k m
enough zero k m h h' = absurd (omega arith)
enough (suc n) zero m h h' = absurd (omega arith)
enough (suc n) (suc k) m h h' =
    agree (move_of m) (final_in n) (final_in k)
    (λ m' e. let near : moves_left m' < moves_left m = goes-nearer m m' e in
    enough n k m' (omega arith) (omega arith))

-- The stop stays the same over a move.
pub stop-stays : (m m' : Configuration) → move_of m ≡ moves_to m' → stop_of m' ≡ stop_of m
unfolding stop_of
stop-stays m m' e =
    let near : moves_left m' < moves_left m = goes-nearer m m' e in
    let at_move : final_in (suc (moves_left m)) m ≡ final_in (moves_left m) m' =
    ap (λ (v : Verdict). end_after v (final_in (moves_left m))) e in
    enough (suc (moves_left m')) (moves_left m) m' (omega arith) near ∙ sym at_move

-- A move that stops comes to it.
pub stop-comes : (m m' : Configuration) (s : Stop) → move_of m ≡ stops s m'
    → stop_of m ≡ record { stop = s; configuration = m' }
unfolding stop_of
stop-comes m m' s e = ap (λ (v : Verdict). end_after v (final_in (moves_left m))) e

-- One more move is one more configuration of the run.
pub reached-goes : (start m m' : Configuration) (j : ℕ) → run_of start j ≡ Some m → move_of m ≡ moves_to m'
    → run_of start (suc j) ≡ Some m'
reached-goes start m m' j reached e = ap (λ (o : Option Configuration).
    option_and_then (λ m. next_configuration (move_of m)) o) reached ∙ ap next_configuration e

-- The text that is due is sent, and else what comes next is done.
pub move-sends : (m : Configuration) → sends_now m ≡ true → move_of m ≡ moves_to (all_sent m)
unfolding move_of
move-sends m is = ap (λ (b : Bool). if b then moves_to (all_sent m) else act_of m) is

pub move-acts : (m : Configuration) → sends_now m ≡ false → move_of m ≡ act_of m
unfolding move_of
move-acts m is = ap (λ (b : Bool). if b then moves_to (all_sent m) else act_of m) is

-- A run comes to its stop by a move: each move before brings it nearer.
module _ (start : Configuration) where
  comes-by : (m : Configuration) (j : ℕ) (v : Verdict) → move_of m ≡ v → run_of start j ≡ Some m
      → stop_of m ≡ stop_of start
      → ((m' : Configuration) → move_of m ≡ moves_to m' → StopsByMove start) → StopsByMove start
  comes-by m j (stops s m') e reached same on =
      let end : record { stop = s; configuration = m' } ≡ stop_of start = sym (stop-comes m m' s e) ∙ same in
      (j, m, reached, e ∙ ap (λ (x : RunEnd). stops x.stop x.configuration) end)
  comes-by m j (moves_to m') e reached same on = on m' e

  comes : (n : ℕ) (m : Configuration) (j : ℕ) → moves_left m < n → run_of start j ≡ Some m → stop_of m ≡ stop_of start
      → StopsByMove start
  comes zero m j less reached same = absurd (omega arith)
  comes (suc n) m j less reached same =
      comes-by m j (move_of m) refl reached same
      (λ m' e.
      let near : moves_left m' < moves_left m = goes-nearer m m' e in
      comes n m' (suc j) (omega arith) (reached-goes start m m' j reached e) (stop-stays m m' e ∙ same))

  pub stops-by-move : StopsByMove start
  stops-by-move = comes (suc (moves_left start)) start 0 (omega arith) refl refl
