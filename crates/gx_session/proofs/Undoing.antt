-- The copies of each configuration of a run are those of the saveundos that are alive there.
use Rattle.std.proofs.Common.{◌≡◌, ℕ, suc, zero, ◌+◌, ◌-◌, ◌==◌, ◌||◌, nat_lt, if◌then◌else◌, List, [], ◌∷◌, take}
use Rattle.std.proofs.Common.{drop, Bool, true, false, Option, Some, None, option_and_then, Result, Ok, Err, refl, ap}
use Rattle.std.proofs.Common.{subst, sym, ◌∙◌}
use Rattle.std.proofs.lemmas.Bool.{eqb-true}
use Rattle.std.specs.Option.{option_map_or}
use Rattle.gx_words.specs.declared.faults.Fault.{Fault}
use Rattle.gx_words.specs.declared.faults.Fault.TheVariants.{BadOpcode, BadFrame, Overflow, DebugTrap}
use Rattle.gx_words.specs.Results.{◌>>=◌}
use Rattle.gx_rows.specs.Numbers as numbers
use Rattle.gx_rows.specs.declared.instructions.Class.{Class}
use Rattle.gx_rows.specs.declared.instructions.Class.TheVariants as class
use Rattle.gx_state.specs.declared.effects.Effect.{Effect}
use Rattle.gx_state.specs.declared.effects.Effect.TheVariants as effect
use Rattle.gx_state.specs.declared.effects.Reply.{Reply}
use Rattle.gx_state.specs.declared.modes.Mode.{Mode}
use Rattle.gx_state.specs.declared.modes.Mode.TheVariants as mode
use Rattle.gx_state.specs.Flat.{FlatState, cut, sp_of}
use Rattle.gx_state.specs.Copies.{Copy, copy_of, restored_to}
use Rattle.gx_undo.specs.Undo.{FlatUndo, with_newest, without_newest}
use Rattle.gx_operands.specs.Instructions.{Instruction, instruction, going_to}
use Rattle.gx_operands.specs.Stores.{settled, goes as row-goes}
use Rattle.ops_print.specs.Items.{item}
use Rattle.ops_flow.specs.FlowRows as flow
use Rattle.ops_memory.specs.MemoryRows as memory
use Rattle.ops_print.specs.PrintRows as print
use Rattle.gx_machine.specs.Machine.{FlatMachine}
use Rattle.gx_machine.specs.Answer.{answer_of}
use Rattle.gx_machine.specs.SavedCopies as whole
use Rattle.gx_machine.specs.MachineRows.{row_effect, glk, with_copies}
use Rattle.gx_machine.proofs.Games.{with_both}
use Rattle.gx_machine.specs.Step.{cost_of, step_of, mode_step}
use Rattle.ops_game.specs.GameRows as game
use Rattle.glk_world.specs.World.{Said}
use Rattle.glk_replies.specs.declared.Turn.{Turn}
use Rattle.glk_dispatch.specs.Calls.{glk_call}
use Rattle.glk_dispatch.specs.Going.{glk_go_on}
use Rattle.glk_text_calls.specs.Output.{putting}
use Rattle.glk_replies.specs.Parts.{replies}
use Rattle.gx_session.specs.Constants.{failed}
use Rattle.gx_session.specs.declared.ends.Stop.TheVariants as stop
use Rattle.gx_session.specs.declared.running.GlkWait.{GlkWait}
use Rattle.gx_session.specs.Input.{next_line}
use Rattle.gx_session.specs.Saving.{saving, restoring}
use Rattle.gx_session.specs.Configurations.{Configuration, Phase, steps, asks as asks-for, goes_on, Verdict, moves_to}
use Rattle.gx_session.specs.Configurations.{stops}
use Rattle.gx_session.specs.Moves.{after_reply, after_restoring, after_turn, after_given, after_effect}
use Rattle.gx_session.specs.Moves.{act_by, sends_now, all_sent, move_of}
use Rattle.gx_session.proofs.Parts.{step_from}
use Rattle.gx_session.specs.Standing.{act_of}
use Rattle.gx_session.specs.Session.{next_configuration, run_of}
use Rattle.gx_session.specs.Undoing.{alive, alive_by, alive_next, IsTaken, AreTaken, LastsUndo}
use Rattle.gx_session.proofs.Cases.{turn-cases, given-cases, line-cases, asking-cases}
use Rattle.gx_session.proofs.Steps.{ok-is}
use Rattle.rand_core.specs.Stream.{next_u32}

-- what a step is to the copies: a saveundo, a restoreundo or a discardundo, or neither
data Undoing : Type 0 where
  saves : Undoing
  takes_newest : Undoing
  neither : Undoing

abbrev undoing_row : Class → ℕ → Undoing
undoing_row class.Game number =
    if number == numbers.saveundo then saves else
    if number == numbers.restoreundo || number == numbers.discardundo then takes_newest else neither
undoing_row c number = neither

abbrev undoing_next : Phase → Mode → Result Instruction Fault → Undoing
undoing_next steps mode.Running (Ok i) = undoing_row i.row.class i.row.number
undoing_next d m r = neither

-- and to the saveundos that are alive
module _ (depth j : ℕ) (live : List ℕ) where
  abbrev alive_to : Undoing → List ℕ
  alive_to saves = take depth (j ∷ live)
  alive_to takes_newest = drop 1 live
  alive_to neither = live

  kind-alive : (saving taking : Bool) → alive_to (if saving then saves else if taking then takes_newest else neither)
      ≡ (if saving then take depth (j ∷ live) else if taking then drop 1 live else live)
  kind-alive true taking = refl
  kind-alive false true = refl
  kind-alive false false = refl

  row-alive : (c : Class) (number : ℕ) → alive_to (undoing_row c number) ≡ alive_by depth j live c number
  row-alive class.Game number = kind-alive (number == numbers.saveundo)
      (number == numbers.restoreundo || number == numbers.discardundo)
  row-alive c number = refl

  next-alive : (d : Phase) (m : Mode) (r : Result Instruction Fault)
      → alive_to (undoing_next d m r) ≡ alive_next depth j live d m r
  next-alive steps mode.Running (Ok i) = row-alive i.row.class i.row.number
  next-alive d m r = refl

  moved-alive : (d : Phase) (m : Mode) (r : Result Instruction Fault) (b : Bool)
      → alive_to (if b then neither else undoing_next d m r) ≡ (if b then live else alive_next depth j live d m r)
  moved-alive d m r true = refl
  moved-alive d m r false = next-alive d m r

-- what a step is to the copies, and a move
abbrev undoing_in : Mode → Result Instruction Fault → Undoing
undoing_in d r = undoing_next steps d r

abbrev undoing : FlatState → Undoing
undoing f = undoing_in f.mode (instruction f)

abbrev undoing_move : Configuration → Undoing
undoing_move m = if sends_now m then neither else undoing_next m.phase m.machine.flat.mode (instruction m.machine.flat)

-- the saveundos that are alive after a move
abbrev alive_from : ℕ → ℕ → List ℕ → Option Configuration → List ℕ
alive_from depth j live o =
    option_map_or (λ (m : Configuration). if sends_now m then live
    else alive_next depth j live m.phase m.machine.flat.mode (instruction m.machine.flat)) o live

-- what a step makes of the copies, by what it is to them
abbrev Undone : FlatMachine → FlatUndo → Effect → Undoing → Type 0
Undone m u e saves = (i : Instruction) × (instruction m.flat ≡ Ok i)
    × (u ≡ with_newest m.undo (copy_of m.flat i.dest i.next)) × (e ≡ effect.Went)
Undone m u e takes_newest = (u ≡ without_newest m.undo) × (e ≡ effect.Went)
Undone m u e neither = u ≡ m.undo

-- THE ROWS OF GAME

-- what a row makes leaves the copies
record Stays (u : FlatUndo) (r : Result ((FlatState × FlatUndo) × Effect) Fault) : Type 0 where
  stays : (p : (FlatState × FlatUndo) × Effect) → r ≡ Ok p → p.0.1 ≡ u

lifted-stays : (u : FlatUndo) (r : Result (FlatState × Effect) Fault) (p : (FlatState × FlatUndo) × Effect)
    → game.leaving_copies u r ≡ Ok p → p.0.1 ≡ u
lifted-stays u (Ok x) p h = sym (ap (λ (y : (FlatState × FlatUndo) × Effect). y.0.1)
    (ok-is {A = (FlatState × FlatUndo) × Effect} ((x.0, u), x.1) p h))
lifted-stays u (Err fault) p h = absurd cc

stays-lifted : (u : FlatUndo) (r : Result (FlatState × Effect) Fault) → Stays u (game.leaving_copies u r)
stays-lifted u r = record { stays = lifted-stays u r }

stays-faulted : (u : FlatUndo) (fault : Fault) → Stays u (Err fault)
stays-faulted u fault = record { stays = λ p h. absurd cc }

stays-if : (u : FlatUndo) (b : Bool) (x y : Result ((FlatState × FlatUndo) × Effect) Fault) → Stays u x → Stays u y
    → Stays u (if b then x else y)
stays-if u true x y is other = is
stays-if u false x y is other = other

stays-unless : (u : FlatUndo) (b : Bool) (x y : Result ((FlatState × FlatUndo) × Effect) Fault) → b ≡ false
    → Stays u y → Stays u (if b then x else y)
stays-unless u true x y isnt other = absurd cc
stays-unless u false x y isnt other = other

-- every row but saveundo, restoreundo and discardundo
others-stay : (f : FlatState) (u : FlatUndo) (word : ℕ) (i : Instruction) → (i.row.number == numbers.saveundo) ≡ false
    → (i.row.number == numbers.restoreundo) ≡ false → (i.row.number == numbers.discardundo) ≡ false
    → Stays u (game.row_effect f u word i)
unfolding game.row_effect
others-stay f u word i not-saves not-restores not-discards =
    stays-if u _ _ _ (stays-lifted u (game.gestalt f i)) (
    stays-if u _ _ _ (stays-faulted u DebugTrap) (
    stays-if u _ _ _ (stays-lifted u (game.random f word i)) (
    stays-if u _ _ _ (stays-lifted u (game.setrandom f i)) (
    stays-if u _ _ _ (stays-lifted u (game.quit f i)) (
    stays-if u _ _ _ (stays-lifted u (game.verify f i)) (
    stays-if u _ _ _ (stays-lifted u (game.restart f)) (
    stays-if u _ _ _ (stays-lifted u (game.save f i)) (
    stays-if u _ _ _ (stays-lifted u (game.restore f i)) (
    stays-unless u _ _ _ not-saves (
    stays-unless u _ _ _ not-restores (
    stays-if u _ _ _ (stays-lifted u (game.protect f i)) (
    stays-if u _ _ _ (stays-lifted u (game.hasundo f u i)) (
    stays-unless u _ _ _ not-discards (
    stays-if u _ _ _ (stays-lifted u (game.getstringtbl f i)) (
    stays-if u _ _ _ (stays-lifted u (game.setstringtbl f i)) (
    stays-if u _ _ _ (stays-lifted u (game.getiosys f i)) (
    stays-if u _ _ _ (stays-lifted u (game.setiosys f i)) (
    stays-if u _ _ _ (stays-lifted u (row-goes f i)) (
    stays-faulted u BadOpcode)))))))))))))))))))

saves-row : (f : FlatState) (u : FlatUndo) (word : ℕ) (i : Instruction) → i.row.number ≡ numbers.saveundo
    → game.row_effect f u word i ≡ game.saveundo f u i
unfolding game.row_effect
saves-row f u word i is = rw is refl

restores-row : (f : FlatState) (u : FlatUndo) (word : ℕ) (i : Instruction) → i.row.number ≡ numbers.restoreundo
    → game.row_effect f u word i ≡ game.restoreundo f u i
unfolding game.row_effect
restores-row f u word i is = rw is refl

discards-row : (f : FlatState) (u : FlatUndo) (word : ℕ) (i : Instruction) → i.row.number ≡ numbers.discardundo
    → game.row_effect f u word i ≡ game.discardundo f u i
unfolding game.row_effect
discards-row f u word i is = rw is refl

-- saveundo keeps one more copy
record Saved (f : FlatState) (u : FlatUndo) (i : Instruction) (p : (FlatState × FlatUndo) × Effect) : Type 0 where
  copies : p.0.1 ≡ with_newest u (copy_of f i.dest i.next)
  went : p.1 ≡ effect.Went

saved-by : (f : FlatState) (u : FlatUndo) (i : Instruction) (b : Bool) (r : Result FlatState Fault)
    (p : (FlatState × FlatUndo) × Effect)
    → (let done : Result ((FlatState × FlatUndo) × Effect) Fault = if b then Err Overflow
    else (r >>= (λ (g : FlatState). Ok (
      (going_to g i.next, with_newest u (copy_of f i.dest i.next)),
      effect.Went,
    ))) in done ≡ Ok p) → Saved f u i p
saved-by f u i true r p h = absurd cc
saved-by f u i false (Ok g) p h =
    let same : ((going_to g i.next, with_newest u (copy_of f i.dest i.next)), effect.Went) ≡ p =
    ok-is {A = (FlatState × FlatUndo) × Effect}
    ((going_to g i.next, with_newest u (copy_of f i.dest i.next)), effect.Went) p h in
    record {
      copies = sym (ap (λ (y : (FlatState × FlatUndo) × Effect). y.0.1) same);
      went = sym (ap (λ (y : (FlatState × FlatUndo) × Effect). y.1) same);
    }
saved-by f u i false (Err fault) p h = absurd cc

saved : (f : FlatState) (u : FlatUndo) (i : Instruction) (p : (FlatState × FlatUndo) × Effect)
    → game.saveundo f u i ≡ Ok p → Saved f u i p
unfolding game.saveundo
saved f u i p h = saved-by f u i (nat_lt f.stack.limit (sp_of f + 16)) (settled f i.sp 4 i.dest 0) p h

-- restoreundo and discardundo drop the newest copy, where there is one
record Restored (u : FlatUndo) (p : (FlatState × FlatUndo) × Effect) : Type 0 where
  copies : p.0.1 ≡ without_newest u
  went : p.1 ≡ effect.Went

stored-by : (u : FlatUndo) (i : Instruction) (r : Result FlatState Fault) (p : (FlatState × FlatUndo) × Effect)
    → u.copies ≡ []
    → game.leaving_copies u (r >>= (λ (g : FlatState). Ok (going_to g i.next, effect.Went))) ≡ Ok p → Restored u p
stored-by u i (Ok g) p none h =
    let same : ((going_to g i.next, u), effect.Went) ≡ p =
    ok-is {A = (FlatState × FlatUndo) × Effect} ((going_to g i.next, u), effect.Went) p h in
    let empty : u ≡ without_newest u = ap (λ (cs : List Copy). record u { copies = cs })
    (none ∙ sym (ap (drop 1) none)) in
    record {
      copies = sym (ap (λ (y : (FlatState × FlatUndo) × Effect). y.0.1) same) ∙ empty;
      went = sym (ap (λ (y : (FlatState × FlatUndo) × Effect). y.1) same);
    }
stored-by u i (Err fault) p none h = absurd cc

restored-by : (f : FlatState) (u : FlatUndo) (i : Instruction) (copies : List Copy)
    (p : (FlatState × FlatUndo) × Effect) → u.copies ≡ copies → game.restored_from f u i copies ≡ Ok p → Restored u p
restored-by f u i [] p is h = stored-by u i (settled f i.sp 4 i.dest 1) p is h
restored-by f u i (c ∷ older) p is h =
    let same : ((restored_to f c, without_newest u), effect.Went) ≡ p =
    ok-is {A = (FlatState × FlatUndo) × Effect} ((restored_to f c, without_newest u), effect.Went) p h in
    record {
      copies = sym (ap (λ (y : (FlatState × FlatUndo) × Effect). y.0.1) same);
      went = sym (ap (λ (y : (FlatState × FlatUndo) × Effect). y.1) same);
    }

restored : (f : FlatState) (u : FlatUndo) (i : Instruction) (p : (FlatState × FlatUndo) × Effect)
    → game.restoreundo f u i ≡ Ok p → Restored u p
unfolding game.restoreundo
restored f u i p h = restored-by f u i u.copies p refl h

discarded : (f : FlatState) (u : FlatUndo) (i : Instruction) (p : (FlatState × FlatUndo) × Effect)
    → game.discardundo f u i ≡ Ok p → Restored u p
unfolding game.discardundo
discarded f u i p h =
    let same : ((going_to (cut f i.sp) i.next, without_newest u), effect.Went) ≡ p =
    ok-is {A = (FlatState × FlatUndo) × Effect} ((going_to (cut f i.sp) i.next, without_newest u), effect.Went) p
    h in
    record {
      copies = sym (ap (λ (y : (FlatState × FlatUndo) × Effect). y.0.1) same);
      went = sym (ap (λ (y : (FlatState × FlatUndo) × Effect). y.1) same);
    }

-- each row of Game, by its number
abbrev kind-by : Bool → Bool → Bool → Undoing
kind-by saving restoring discarding = if saving then saves else if restoring || discarding then takes_newest
    else neither

game-rows : (m : FlatMachine) (word : ℕ) (i : Instruction) (p : (FlatState × FlatUndo) × Effect)
    (saving restoring discarding : Bool)
    → (i.row.number == numbers.saveundo) ≡ saving → (i.row.number == numbers.restoreundo) ≡ restoring
    → (i.row.number == numbers.discardundo) ≡ discarding
    → instruction m.flat ≡ Ok i → game.row_effect m.flat m.undo word i ≡ Ok p
    → Undone m p.0.1 p.1 (kind-by saving restoring discarding)
game-rows m word i p true restoring discarding saving-is restoring-is discarding-is decoded h =
    let done : Saved m.flat m.undo i p = saved m.flat m.undo i p
    (sym (saves-row m.flat m.undo word i (eqb-true i.row.number numbers.saveundo saving-is)) ∙ h) in
    (i, decoded, done.copies, done.went)
game-rows m word i p false true discarding saving-is restoring-is discarding-is decoded h =
    let done : Restored m.undo p = restored m.flat m.undo i p
    (sym (restores-row m.flat m.undo word i (eqb-true i.row.number numbers.restoreundo restoring-is)) ∙ h) in
    (done.copies, done.went)
game-rows m word i p false false true saving-is restoring-is discarding-is decoded h =
    let done : Restored m.undo p = discarded m.flat m.undo i p
    (sym (discards-row m.flat m.undo word i (eqb-true i.row.number numbers.discardundo discarding-is)) ∙ h) in
    (done.copies, done.went)
game-rows m word i p false false false saving-is restoring-is discarding-is decoded h =
    (others-stay m.flat m.undo word i saving-is restoring-is discarding-is).stays p h

game-both : (m : FlatMachine) (word : ℕ) (i : Instruction) (r : Result ((FlatState × FlatUndo) × Effect) Fault)
    (m' : FlatMachine) (e : Effect) → game.row_effect m.flat m.undo word i ≡ r
    → instruction m.flat ≡ Ok i → with_both r ≡ Ok (m', e) → Undone m m'.undo e (undoing_row class.Game i.row.number)
game-both m word i (Ok p) m' e is decoded h =
    let done : Undone m p.0.1 p.1 (undoing_row class.Game i.row.number) =
    game-rows m word i p (i.row.number == numbers.saveundo) (i.row.number == numbers.restoreundo)
    (i.row.number == numbers.discardundo) refl refl refl decoded is in
    let same : (record { flat = p.0.0; undo = p.0.1 }, p.1) ≡ (m', e) =
    ok-is {A = FlatMachine × Effect} (record { flat = p.0.0; undo = p.0.1 }, p.1) (m', e) h in
    subst (λ (y : FlatMachine × Effect). Undone m y.0.undo y.1 (undoing_row class.Game i.row.number)) same done
game-both m word i (Err fault) m' e is decoded h = absurd cc

game-undone : (m : FlatMachine) (word : ℕ) (i : Instruction) (m' : FlatMachine) (e : Effect) → instruction m.flat ≡ Ok i
    → with_both (game.row_effect m.flat m.undo word i) ≡ Ok (m', e)
    → Undone m m'.undo e (undoing_row class.Game i.row.number)
game-undone m word i m' e decoded h = game-both m word i (game.row_effect m.flat m.undo word i) m' e refl decoded h

-- EVERY STEP

copies-stay : (u : FlatUndo) (r : Result (FlatState × Effect) Fault) (m' : FlatMachine) (e : Effect)
    → with_copies u r ≡ Ok (m', e) → m'.undo ≡ u
copies-stay u (Ok x) m' e h = sym (ap (λ (y : FlatMachine × Effect). y.0.undo)
    (ok-is {A = FlatMachine × Effect} (record { flat = x.0; undo = u }, x.1) (m', e) h))
copies-stay u (Err fault) m' e h = cc

row-undone : (m : FlatMachine) (word : ℕ) (c : Class) (i : Instruction) (m' : FlatMachine) (e : Effect)
    → instruction m.flat ≡ Ok i → row_effect c m word i ≡ Ok (m', e) → Undone m m'.undo e (undoing_row c i.row.number)
row-undone m word class.Calc i m' e decoded h = copies-stay m.undo (flow.row_effect class.Calc m.flat i) m' e h
row-undone m word class.Branch i m' e decoded h = copies-stay m.undo (flow.row_effect class.Branch m.flat i) m' e h
row-undone m word class.Flow i m' e decoded h = copies-stay m.undo (flow.row_effect class.Flow m.flat i) m' e h
row-undone m word class.Copy i m' e decoded h = copies-stay m.undo (memory.row_effect class.Copy m.flat i) m' e h
row-undone m word class.Memory i m' e decoded h = copies-stay m.undo (memory.row_effect class.Memory m.flat i) m' e h
row-undone m word class.Stack i m' e decoded h = copies-stay m.undo (flow.row_effect class.Stack m.flat i) m' e h
row-undone m word class.Print i m' e decoded h = copies-stay m.undo (print.row_effect m.flat i) m' e h
row-undone m word class.Game i m' e decoded h = game-undone m word i m' e decoded h
row-undone m word class.Glk i m' e decoded h = copies-stay m.undo (glk m.flat i) m' e h

decoded-undone : (m : FlatMachine) (word : ℕ) (r : Result Instruction Fault) (m' : FlatMachine) (e : Effect)
    → instruction m.flat ≡ r
    → (let done : Result (FlatMachine × Effect) Fault = r >>= (λ i. row_effect i.row.class m word i) in
    done ≡ Ok (m', e)) → Undone m m'.undo e (undoing_in mode.Running r)
decoded-undone m word (Ok i) m' e is h = row-undone m word i.row.class i m' e is h
decoded-undone m word (Err fault) m' e is h = cc

mode-undone : (m : FlatMachine) (word : ℕ) (d : Mode) (m' : FlatMachine) (e : Effect)
    → mode_step m word d ≡ Ok (m', e) → Undone m m'.undo e (undoing_in d (instruction m.flat))
mode-undone m word mode.Running m' e h = decoded-undone m word (instruction m.flat) m' e refl h
mode-undone m word (mode.Printing p) m' e h = copies-stay m.undo (item m.flat p) m' e h

tested-undone : (m : FlatMachine) (word : ℕ) (m' : FlatMachine) (e : Effect) (b : Bool)
    → (let done : Result (FlatMachine × Effect) Fault = if b then Err BadFrame else mode_step m word m.flat.mode in
    done ≡ Ok (m', e)) → Undone m m'.undo e (undoing_in m.flat.mode (instruction m.flat))
tested-undone m word m' e true h = cc
tested-undone m word m' e false h = mode-undone m word m.flat.mode m' e h

step-undone : (m : FlatMachine) (word : ℕ) (m' : FlatMachine) (e : Effect) → step_of m word ≡ Ok (m', e)
    → Undone m m'.undo e (undoing m.flat)
unfolding step_of
step-undone m word m' e h = tested-undone m word m' e (sp_of m.flat == 0) h

-- an asking leaves the copies
asks-neither : (m : FlatMachine) (u : FlatUndo) (e : Effect) (kind : Undoing) → (e ≡ effect.Went → ⊥)
    → Undone m u e kind → Undone m m.undo e kind
asks-neither m u e saves asks is = absurd (asks is.3)
asks-neither m u e takes_newest asks is = absurd (asks is.1)
asks-neither m u e neither asks is = refl

-- what a verdict makes of the copies of an asking, or of a move that is no step
abbrev KeepsUndo : FlatUndo → Verdict → Type 0
KeepsUndo u (moves_to m) = u ≡ m.machine.undo
KeepsUndo u (stops s m) = Unit {0}

replied-undo : (m : Configuration) (left : ℕ) (r : Result (Said × Reply) Fault)
    → KeepsUndo m.machine.undo (after_reply m left r)
unfolding answer_of
replied-undo m left (Ok r) = refl
replied-undo m left (Err f) = tt

-- a restore leaves them too: the copy that it goes back to is no copy for undo
back-undo : (m : Configuration) (left : ℕ) (r : Result (Said × Option Copy) Fault)
    → KeepsUndo m.machine.undo (after_restoring m left r)
unfolding whole.restored
back-undo m left (Ok (said, Some copy)) = refl
back-undo m left (Ok (said, None)) = replied-undo m left (Ok (said, replies failed))
back-undo m left (Err f) = tt

turned-undo : (m : Configuration) (w : GlkWait) (r : Result (Said × Turn) Fault)
    → KeepsUndo m.machine.undo (after_turn m w r)
turned-undo m w r =
    turn-cases (KeepsUndo m.machine.undo) m w r (λ said reply. replied-undo m w.left (Ok (said, reply)))
    (λ said t. refl) (λ said t. refl) (λ said. tt) (λ said. tt) (λ f. tt)

asked-undo : (m : Configuration) (w : GlkWait) (t : Turn) → KeepsUndo m.machine.undo (act_by (asks-for t w) m)
asked-undo m w t =
    asking-cases (KeepsUndo m.machine.undo) m w t
    (line-cases (KeepsUndo m.machine.undo) m w (next_line m.input) tt tt (λ chars rest. refl)) (λ r. refl) tt

given-undo : (m : Configuration) (w : GlkWait) (r : Result (Said × Turn) Fault)
    → KeepsUndo m.machine.undo (after_given m w r)
given-undo m w r = given-cases (KeepsUndo m.machine.undo) m w r
    (λ said reply. replied-undo m w.left (Ok (said, reply))) tt (λ f. tt)

kept-undo : (u : FlatUndo) (v : Verdict) (m' : Configuration) → KeepsUndo u v → v ≡ moves_to m' → u ≡ m'.machine.undo
kept-undo u v m' keeps e = subst (KeepsUndo u) e keeps

effected-undone : (m : Configuration) (left : ℕ) (machine : FlatMachine) (does : Effect) (m' : Configuration)
    → after_effect m left (Ok (machine, does)) ≡ moves_to m'
    → Undone m.machine machine.undo does (undoing m.machine.flat)
    → Undone m.machine m'.machine.undo does (undoing m.machine.flat)
effected-undone m left machine effect.Went m' e is =
    let same : machine.undo ≡ m'.machine.undo = cc in
    subst (λ (u : FlatUndo). Undone m.machine u effect.Went (undoing m.machine.flat)) same is
effected-undone m left machine effect.Drew m' e is =
    let same : machine.undo ≡ m'.machine.undo = cc in
    subst (λ (u : FlatUndo). Undone m.machine u effect.Drew (undoing m.machine.flat)) same is
effected-undone m left machine (effect.Put c) m' e is =
    subst (λ (u : FlatUndo). Undone m.machine u (effect.Put c) (undoing m.machine.flat))
    (kept-undo m.machine.undo (after_reply m left (putting m.world.scene m.machine.flat c)) m'
    (replied-undo m left (putting m.world.scene m.machine.flat c)) e)
    (asks-neither m.machine machine.undo (effect.Put c) (undoing m.machine.flat) (λ went. cc) is)
effected-undone m left machine (effect.Glk selector args room) m' e is =
    subst (λ (u : FlatUndo). Undone m.machine u (effect.Glk selector args room) (undoing m.machine.flat))
    (kept-undo m.machine.undo (after_turn m (record { room = room; left = left })
    (glk_call m.world.scene m.machine.flat room selector args.items)) m'
    (turned-undo m (record { room = room; left = left })
    (glk_call m.world.scene m.machine.flat room selector args.items)) e)
    (asks-neither m.machine machine.undo (effect.Glk selector args room) (undoing m.machine.flat) (λ went. cc) is)
effected-undone m left machine (effect.Save stream) m' e is =
    subst (λ (u : FlatUndo). Undone m.machine u (effect.Save stream) (undoing m.machine.flat))
    (kept-undo m.machine.undo (after_reply m left (saving m.world.scene m.machine.flat stream)) m'
    (replied-undo m left (saving m.world.scene m.machine.flat stream)) e)
    (asks-neither m.machine machine.undo (effect.Save stream) (undoing m.machine.flat) (λ went. cc) is)
effected-undone m left machine (effect.Restore stream) m' e is =
    subst (λ (u : FlatUndo). Undone m.machine u (effect.Restore stream) (undoing m.machine.flat))
    (kept-undo m.machine.undo (after_restoring m left (restoring m.world.scene m.machine.flat stream)) m'
    (back-undo m left (restoring m.world.scene m.machine.flat stream)) e)
    (asks-neither m.machine machine.undo (effect.Restore stream) (undoing m.machine.flat) (λ went. cc) is)
effected-undone m left machine effect.Quit m' e is = cc
effected-undone m left machine effect.Spent m' e is = cc

-- what a move makes of the copies, whatever its effect
record Undid (m : FlatMachine) (u : FlatUndo) (kind : Undoing) : Type 0 where
  does : Effect
  undone : Undone m u does kind

stepped-undid : (m : Configuration) (left word : ℕ) (r : Result (FlatMachine × Effect) Fault) (m' : Configuration)
    → step_of m.machine word ≡ r → after_effect m left r ≡ moves_to m'
    → Undid m.machine m'.machine.undo (undoing m.machine.flat)
stepped-undid m left word (Ok r) m' is e =
    record { does = r.1; undone = effected-undone m left r.0 r.1 m' e (step-undone m.machine word r.0 r.1 is) }
stepped-undid m left word (Err f) m' is e = cc

tested-undid : (m : Configuration) (left word : ℕ) (m' : Configuration) (b : Bool)
    → (if b then stops stop.Spent m else after_effect m left (step_of m.machine word)) ≡ moves_to m'
    → Undid m.machine m'.machine.undo (undoing m.machine.flat)
tested-undid m left word m' true e = cc
tested-undid m left word m' false e = stepped-undid m left word (step_of m.machine word) m' refl e

step-undid : (m m' : Configuration) → step_from m ≡ moves_to m'
    → Undid m.machine m'.machine.undo (undoing m.machine.flat)
step-undid m m' e = tested-undid m (m.left - cost_of m.machine) (next_u32 m.words).0 m'
    (nat_lt m.left (cost_of m.machine)) e

stood-undid : (m : FlatMachine) (u : FlatUndo) → m.undo ≡ u → Undid m u neither
stood-undid m u same = record { does = effect.Went; undone = sym same }

act-undid : (phase : Phase) (m m' : Configuration) → act_by phase m ≡ moves_to m'
    → Undid m.machine m'.machine.undo (undoing_next phase m.machine.flat.mode (instruction m.machine.flat))
act-undid steps m m' e = step-undid m m' e
act-undid (asks-for t w) m m' e = stood-undid m.machine m'.machine.undo
    (kept-undo m.machine.undo (act_by (asks-for t w) m) m' (asked-undo m w t) e)
act-undid (goes_on g w) m m' e =
    stood-undid m.machine m'.machine.undo (kept-undo m.machine.undo
    (after_given m w (glk_go_on m.world.scene m.machine.flat w.room g)) m'
    (given-undo m w (glk_go_on m.world.scene m.machine.flat w.room g)) e)

moved-undid : (m m' : Configuration) (b : Bool) → (if b then moves_to (all_sent m) else act_of m) ≡ moves_to m'
    → Undid m.machine m'.machine.undo (if b then neither
    else undoing_next m.phase m.machine.flat.mode (instruction m.machine.flat))
moved-undid m m' true e = stood-undid m.machine m'.machine.undo
    (kept-undo m.machine.undo (moves_to (all_sent m)) m' refl e)
moved-undid m m' false e = act-undid m.phase m m' e

move-undid : (m m' : Configuration) → move_of m ≡ moves_to m' → Undid m.machine m'.machine.undo (undoing_move m)
unfolding move_of
move-undid m m' e = moved-undid m m' (sends_now m) e

-- the copies of fewer saveundos
taken-take : (start : Configuration) (n : ℕ) (cs : List Copy) (js : List ℕ) → AreTaken start cs js
    → AreTaken start (take n cs) (take n js)
taken-take start zero cs js t = tt
taken-take start (suc n) [] [] t = tt
taken-take start (suc n) (c ∷ cs) (j ∷ js) t = (t.0, taken-take start n cs js t.1)
taken-take start (suc n) [] (j ∷ js) t = absurd t
taken-take start (suc n) (c ∷ cs) [] t = absurd t

taken-drop : (start : Configuration) (cs : List Copy) (js : List ℕ) → AreTaken start cs js
    → AreTaken start (drop 1 cs) (drop 1 js)
taken-drop start [] [] t = tt
taken-drop start (c ∷ cs) (j ∷ js) t = t.1
taken-drop start [] (j ∷ js) t = absurd t
taken-drop start (c ∷ cs) [] t = absurd t

-- what holds of a configuration: its copies are those of the saveundos that are alive
record Lasts (start : Configuration) (j : ℕ) (u : FlatUndo) (live : List ℕ) : Type 0 where
  depth : u.depth ≡ start.machine.undo.depth
  taken : AreTaken start u.copies live

-- one more move
lasts-on : (start m m' : Configuration) (j : ℕ) (live : List ℕ) (does : Effect) (kind : Undoing)
    → run_of start j ≡ Some m → Lasts start j m.machine.undo live → Undone m.machine m'.machine.undo does kind
    → Lasts start (suc j) m'.machine.undo (alive_to start.machine.undo.depth j live kind)
lasts-on start m m' j live does saves reached now is =
    let c : Copy = copy_of m.machine.flat is.0.dest is.0.next in
    let first : IsTaken start j c = (m, is.0, reached, is.1, refl) in
    let all : AreTaken start (take m.machine.undo.depth (c ∷ m.machine.undo.copies))
    (take m.machine.undo.depth (j ∷ live)) =
    taken-take start m.machine.undo.depth (c ∷ m.machine.undo.copies) (j ∷ live) (first, now.taken) in
    let deep : AreTaken start (take m.machine.undo.depth (c ∷ m.machine.undo.copies))
    (take start.machine.undo.depth (j ∷ live)) =
    subst (λ (n : ℕ). AreTaken start (take m.machine.undo.depth (c ∷ m.machine.undo.copies)) (take n (j ∷ live)))
    now.depth all in
    record {
      depth = ap (λ (u : FlatUndo). u.depth) is.2 ∙ now.depth;
      taken = subst (λ (u : FlatUndo). AreTaken start u.copies (take start.machine.undo.depth (j ∷ live)))
          (sym is.2) deep;
    }
lasts-on start m m' j live does takes_newest reached now is =
    record {
      depth = ap (λ (u : FlatUndo). u.depth) is.0 ∙ now.depth;
      taken = subst (λ (u : FlatUndo). AreTaken start u.copies (drop 1 live)) (sym is.0)
          (taken-drop start m.machine.undo.copies live now.taken);
    }
lasts-on start m m' j live does neither reached now is =
    record {
      depth = ap (λ (u : FlatUndo). u.depth) is ∙ now.depth;
      taken = subst (λ (u : FlatUndo). AreTaken start u.copies live) (sym is) now.taken;
    }

pub next-goes : (v : Verdict) (m : Configuration) → next_configuration v ≡ Some m → v ≡ moves_to m
next-goes (moves_to m') m e = cc
next-goes (stops s m') m e = cc

start-is : (start m : Configuration) → Some start ≡ Some m → start ≡ m
start-is start m e = cc

-- the configuration after one more move
module _ (start : Configuration) (j : ℕ) (m' : Configuration) where
  lasts-next : (o : Option Configuration) → run_of start j ≡ o
      → ((m : Configuration) → run_of start j ≡ Some m → Lasts start j m.machine.undo (alive start j))
      → option_and_then (λ m. next_configuration (move_of m)) o ≡ Some m'
      → Lasts start (suc j) m'.machine.undo (alive_from start.machine.undo.depth j (alive start j) o)
  lasts-next None is before e = cc
  lasts-next (Some m) is before e =
      let did : Undid m.machine m'.machine.undo (undoing_move m) = move-undid m m' (next-goes (move_of m) m' e) in
      subst (λ (live : List ℕ). Lasts start (suc j) m'.machine.undo live)
      (moved-alive start.machine.undo.depth j (alive start j) m.phase m.machine.flat.mode
      (instruction m.machine.flat) (sends_now m))
      (lasts-on start m m' j (alive start j) did.does (undoing_move m) is (before m is) did.undone)

lasts : (start : Configuration) → start.machine.undo.copies ≡ [] → (j : ℕ) (m : Configuration)
    → run_of start j ≡ Some m → Lasts start j m.machine.undo (alive start j)
unfolding alive
lasts start none zero m e =
    let none-taken : AreTaken start start.machine.undo.copies [] =
    subst (λ (cs : List Copy). AreTaken start cs []) (sym none) tt in
    let first : Lasts start zero start.machine.undo [] = record { depth = refl; taken = none-taken } in
    subst (λ (x : Configuration). Lasts start zero x.machine.undo []) (start-is start m e) first
lasts start none (suc j) m e = lasts-next start j m (run_of start j) refl (lasts start none j) e

-- The law.
pub lasts_undo : (start : Configuration) → LastsUndo start
unfolding LastsUndo
lasts_undo start none j m e = (lasts start none j m e).taken
