-- The text of a session grows.
use Rattle.std.proofs.Common.{ℕ, suc, zero, ◌-◌, nat_lt, if◌then◌else◌, List, [], ◌++◌, Bool, true, false, Option}
use Rattle.std.proofs.Common.{Some, None, Result, Ok, Err, ◌≡◌, refl, ap, subst, sym, ◌∙◌, append_assoc, append-nil}
use Rattle.gx_words.specs.declared.faults.Fault.{Fault}
use Rattle.gx_state.specs.declared.effects.Effect.{Effect}
use Rattle.gx_state.specs.declared.effects.Effect.TheVariants as effect
use Rattle.gx_state.specs.declared.effects.Reply.{Reply}
use Rattle.gx_state.specs.Copies.{Copy}
use Rattle.gx_machine.specs.Machine.{FlatMachine}
use Rattle.gx_machine.specs.Step.{cost_of, step_of}
use Rattle.glk_world.specs.World.{Said, after}
use Rattle.glk_world.specs.Shown.{show_grids, show_line, end_text}
use Rattle.glk_replies.specs.declared.Turn.{Turn}
use Rattle.glk_dispatch.specs.Calls.{glk_call}
use Rattle.glk_dispatch.specs.Going.{glk_go_on}
use Rattle.glk_text_calls.specs.Output.{putting}
use Rattle.gx_session.specs.declared.ends.Stop.TheVariants as stop
use Rattle.gx_session.specs.declared.running.GlkWait.{GlkWait}
use Rattle.gx_session.specs.Input.{next_line}
use Rattle.gx_session.specs.Saving.{saving, restoring}
use Rattle.gx_session.specs.Configurations.{Configuration, Phase, steps, asks, goes_on, Verdict, moves_to, stops}
use Rattle.gx_session.specs.Moves.{after_reply, after_restoring, after_turn, after_effect}
use Rattle.gx_session.specs.Moves.{act_by, sends_now, all_sent, move_of}
use Rattle.gx_session.specs.Standing.{act_of}
use Rattle.gx_session.specs.Session.{RunEnd, end_after, final_in, stop_of, final_of}
use Rattle.gx_session.proofs.Parts.{IsFront, step_from, moves_left}
use Rattle.gx_session.proofs.Cases.{turn-cases, given-cases, line-cases, asking-cases}
use Rattle.rand_core.specs.Stream.{next_u32}

pub front-refl : (xs : List ℕ) → IsFront xs xs
front-refl xs = ([], sym (append-nil xs))

pub front-trans : (xs ys zs : List ℕ) → IsFront xs ys → IsFront ys zs → IsFront xs zs
front-trans xs ys zs a b = (a.0 ++ b.0, b.1 ∙ ap (λ (x : List ℕ). x ++ b.0) a.1 ∙ append_assoc xs a.0 b.0)

-- the text of what an event comes to
abbrev text_in : Verdict → List ℕ
text_in (moves_to m) = m.world.text
text_in (stops s m) = m.world.text

replied-grows : (m : Configuration) (left : ℕ) (r : Result (Said × Reply) Fault)
    → IsFront m.world.text (text_in (after_reply m left r))
replied-grows m left (Ok r) = (r.0.1, refl)
replied-grows m left (Err f) = front-refl m.world.text

restored-grows : (m : Configuration) (left : ℕ) (r : Result (Said × Option Copy) Fault)
    → IsFront m.world.text (text_in (after_restoring m left r))
restored-grows m left (Ok (said, Some copy)) = (said.1, refl)
restored-grows m left (Ok (said, None)) = (said.1, refl)
restored-grows m left (Err f) = front-refl m.world.text

turned-grows : (m : Configuration) (w : GlkWait) (r : Result (Said × Turn) Fault)
    → IsFront m.world.text (text_in (after_turn m w r))
turned-grows m w r =
    turn-cases (λ v. IsFront m.world.text (text_in v)) m w r (λ said reply. (said.1, refl)) (λ said t. (said.1, refl))
    (λ said t. (said.1 ++ (show_grids said.0).1, append_assoc m.world.text said.1 (show_grids said.0).1))
    (λ said. (said.1, refl)) (λ said. (said.1, refl)) (λ f. front-refl m.world.text)

effected-grows : (m : Configuration) (left : ℕ) (machine : FlatMachine) (does : Effect)
    → IsFront m.world.text (text_in (after_effect m left (Ok (machine, does))))
effected-grows m left machine effect.Went = front-refl m.world.text
effected-grows m left machine effect.Drew = front-refl m.world.text
effected-grows m left machine (effect.Put c) = replied-grows m left (putting m.world.scene m.machine.flat c)
effected-grows m left machine (effect.Glk selector args room) =
    turned-grows m (record { room = room; left = left })
    (glk_call m.world.scene m.machine.flat room selector args.items)
effected-grows m left machine (effect.Save stream) = replied-grows m left (saving m.world.scene m.machine.flat stream)
effected-grows m left machine (effect.Restore stream) =
    restored-grows m left (restoring m.world.scene m.machine.flat stream)
effected-grows m left machine effect.Quit = front-refl m.world.text
effected-grows m left machine effect.Spent = front-refl m.world.text

stepped-grows : (m : Configuration) (left : ℕ) (r : Result (FlatMachine × Effect) Fault)
    → IsFront m.world.text (text_in (after_effect m left r))
stepped-grows m left (Ok r) = effected-grows m left r.0 r.1
stepped-grows m left (Err f) = front-refl m.world.text

tested-grows : (m : Configuration) (left : ℕ) (r : Result (FlatMachine × Effect) Fault) (b : Bool)
    → IsFront m.world.text (text_in (if b then stops stop.Spent m else after_effect m left r))
tested-grows m left r true = front-refl m.world.text
tested-grows m left r false = stepped-grows m left r

step-grows : (m : Configuration) → IsFront m.world.text (text_in (step_from m))
step-grows m = tested-grows m (m.left - cost_of m.machine) (step_of m.machine (next_u32 m.words).0)
    (nat_lt m.left (cost_of m.machine))

-- a line that is shown
shown-grows : (m : Configuration) (chars : List ℕ) (b : Bool)
    → IsFront m.world.text (if b then after m.world (show_line m.world.scene chars) else m.world).text
shown-grows m chars true = ((show_line m.world.scene chars).1, refl)
shown-grows m chars false = front-refl m.world.text

act-grows : (phase : Phase) (m : Configuration) → IsFront m.world.text (text_in (act_by phase m))
act-grows steps m = step-grows m
act-grows (asks t w) m =
    asking-cases (λ v. IsFront m.world.text (text_in v)) m w t
    (line-cases (λ v. IsFront m.world.text (text_in v)) m w (next_line m.input) (front-refl m.world.text)
    (front-refl m.world.text) (λ chars rest. shown-grows m chars m.echo))
    (λ r. front-refl m.world.text) (front-refl m.world.text)
act-grows (goes_on g w) m =
    given-cases (λ v. IsFront m.world.text (text_in v)) m w (glk_go_on m.world.scene m.machine.flat w.room g)
    (λ said reply. (said.1, refl)) (front-refl m.world.text) (λ f. front-refl m.world.text)

moved-grows : (m : Configuration) (b : Bool)
    → IsFront m.world.text (text_in (if b then moves_to (all_sent m) else act_of m))
moved-grows m true = front-refl m.world.text
moved-grows m false = act-grows m.phase m

move-grows : (m : Configuration) → IsFront m.world.text (text_in (move_of m))
unfolding move_of
move-grows m = moved-grows m (sends_now m)

after-grows : (v : Verdict) (on : Configuration → RunEnd)
    → ((m : Configuration) → IsFront m.world.text (on m).configuration.world.text)
    → IsFront (text_in v) (end_after v on).configuration.world.text
after-grows (moves_to m) on grows = grows m
after-grows (stops s m) on grows = front-refl m.world.text

final_in-grows : (n : ℕ) (m : Configuration) → IsFront m.world.text (final_in n m).configuration.world.text
final_in-grows zero m = front-refl m.world.text
final_in-grows (suc n) m =
    front-trans m.world.text (text_in (move_of m)) (end_after (move_of m) (final_in n)).configuration.world.text
    (move-grows m) (after-grows (move_of m) (final_in n) (final_in-grows n))

-- The text of the stop begins with that of each configuration.
stop-grows : (m : Configuration) → IsFront m.world.text (stop_of m).configuration.world.text
unfolding stop_of
stop-grows m = final_in-grows (suc (moves_left m)) m

-- The last screen comes behind it.
pub last-grows : (start : Configuration)
    → IsFront (stop_of start).configuration.world.text (final_of start).configuration.world.text
unfolding final_of
last-grows start = ((end_text (stop_of start).configuration.world.scene).1, refl)

-- So the text of the end begins with that of each configuration.
pub final-grows : (m start : Configuration) → stop_of m ≡ stop_of start
    → IsFront m.world.text (final_of start).configuration.world.text
final-grows m start same =
    let here : IsFront m.world.text (stop_of start).configuration.world.text =
    subst (λ (e : RunEnd). IsFront m.world.text e.configuration.world.text) same (stop-grows m) in
    front-trans m.world.text (stop_of start).configuration.world.text (final_of start).configuration.world.text
    here (last-grows start)
