-- What answers the instruction that asked.
use Rattle.std.proofs.Common.{◌≡◌, ◌≤◌, ◌+◌, ◌-◌, ◌*◌, ◌%◌, ◌<◌, ℕ, Bool, true, false, nat_le, if◌then◌else◌, refl, ap}
use Rattle.std.proofs.Common.{subst, sym, ◌∙◌, arith, List, [], take, Result, Ok, Err, IsOkAnd, Some, None}
use Rattle.std.specs.Option.{option_map_or}
use Rattle.std.specs.Result.{result_ok}
use Rattle.std.proofs.lemmas.Bool.{leb-true}
use Rattle.std.proofs.lemmas.List.{append-nil}
use Rattle.gx_words.specs.declared.faults.Fault.{Fault}
use Rattle.gx_words.specs.declared.faults.Fault.TheVariants.{Overflow}
use Rattle.gx_words.specs.declared.strings.Printing as printings
use Rattle.gx_strings.specs.Items.{next_item}
use Rattle.gx_state.specs.Copies.{Copy, copy_of}
use Rattle.gx_rows.specs.declared.instructions.Class.{Class}
use Rattle.gx_rows.specs.declared.instructions.Class.TheVariants as class
use Rattle.gx_state.specs.declared.effects.Effect.{Effect}
use Rattle.gx_state.specs.declared.effects.Effect.TheVariants.{Went, Drew, Put, Glk, Save, Restore, Quit, Spent}
use Rattle.gx_state.specs.declared.effects.Reply.{Reply}
use Rattle.gx_state.specs.declared.modes.Dest.{Dest}
use Rattle.gx_state.specs.declared.modes.Dest.TheVariants.{Nowhere, Memory, Local, Push}
use Rattle.gx_state.specs.declared.modes.Mode.{Mode}
use Rattle.gx_state.specs.declared.modes.Mode.TheVariants.{Running, Printing}
use Rattle.gx_state.specs.Flat.{FlatState, frame_of, sp_of, cut, IsHeight}
use Rattle.gx_state.specs.Replies.{IsDone}
use Rattle.gx_operands.specs.Instructions.{Instruction, instruction, L2, going_to}
use Rattle.gx_machine.specs.Answer.{answered_state, answered_in, answered_row, replied, IsStoredAnswer, IsStoredBy}
use Rattle.ops_game.specs.Asks.{IsAsking, IsSaveAtMost}
use Rattle.ops_memory.specs.Charges.{EndsWithin}
use Rattle.ops_print.specs.Asks.{item_by, mode_after, IsPutAtMost}
use Rattle.ops_print.specs.Items.{mode_behind}
use Rattle.gx_state.specs.Stores.{store_fault}
use Rattle.gx_undo.specs.Undo.{FlatUndo}
use Rattle.gx_machine.specs.declared.askings.Asking.{Asking}
use Rattle.gx_machine.specs.declared.machine.Pending.{Pending}
use Rattle.gx_machine.specs.declared.askings.Asking.TheVariants as asking
use Rattle.gx_machine.specs.SavedCopies.{saved_copy}
use Rattle.gx_machine.specs.Step.{asking_of, room_of}
use Rattle.gx_machine.specs.Views.{IsPendingAnswer, result_len, resumed_at}

-- what an instruction makes of an answer, and the copy that it takes, where one was read
abbrev pub answered_by : FlatState → Reply → Result Instruction Fault → FlatState
answered_by f reply r = option_map_or (λ i. answered_row i.row.class f i reply) (result_ok r) f

abbrev copy_by : FlatState → Result Instruction Fault → Copy
copy_by f r =
    option_map_or (λ i. copy_of (cut f i.sp) i.dest i.next) (result_ok r)
    (record { memory = f.memory; stack = f.stack.bytes; heap = f.heap })

by_class : (f : FlatState) (i : Instruction) (c : Class) → f.mode ≡ Running → instruction f ≡ Ok i → i.row.class ≡ c
    → (reply : Reply) → answered_state f reply ≡ answered_row c f i reply
unfolding answered_state
by_class f i c running decoded is reply =
    ap (answered_in f reply) running ∙ ap (answered_by f reply) decoded
    ∙ ap (λ (x : Class). answered_row x f i reply) is

-- an answer to code leaves the mode
pub on_with : (f : FlatState) (sp : ℕ) (dest : Dest) (next : ℕ) (reply : Reply) → f.mode ≡ Running
    → going_to (replied f sp dest reply) next ≡ resumed_at (replied f sp dest reply) next Running
on_with f sp Nowhere next reply running = ap (resumed_at (replied f sp Nowhere reply) next) running
on_with f sp (Memory at) next reply running = ap (resumed_at (replied f sp (Memory at) reply) next) running
on_with f sp (Local at) next reply running = ap (resumed_at (replied f sp (Local at) reply) next) running
on_with f sp Push next reply running = ap (resumed_at (replied f sp Push reply) next) running

pub print_answers : (f : FlatState) (i : Instruction) (reply : Reply) → f.mode ≡ Running → instruction f ≡ Ok i
    → i.row.class ≡ class.Print
    → answered_state f reply ≡ resumed_at (replied f i.sp Nowhere reply) i.next Running
print_answers f i reply running decoded is = by_class f i class.Print running decoded is reply
    ∙ on_with f i.sp Nowhere i.next reply running

pub glk_answers : (f : FlatState) (i : Instruction) (reply : Reply) → f.mode ≡ Running → instruction f ≡ Ok i
    → i.row.class ≡ class.Glk
    → answered_state f reply ≡ resumed_at (replied f (i.sp - 4 * L2 i) i.dest reply) i.next Running
glk_answers f i reply running decoded is = by_class f i class.Glk running decoded is reply
    ∙ on_with f (i.sp - 4 * L2 i) i.dest i.next reply running

pub game_answers : (f : FlatState) (i : Instruction) (reply : Reply) → f.mode ≡ Running → instruction f ≡ Ok i
    → i.row.class ≡ class.Game
    → answered_state f reply ≡ resumed_at (replied f i.sp i.dest reply) i.next Running
game_answers f i reply running decoded is = by_class f i class.Game running decoded is reply
    ∙ on_with f i.sp i.dest i.next reply running

-- the answer to a character of what is printed
after_by : (f : FlatState) (p : printings.Printing) → f.mode ≡ Printing p
    → mode_after f ≡ mode_behind (Printing p) (next_item f.memory f.table p)
unfolding mode_after
after_by f p is = rw is refl

item_answered : (f : FlatState) (reply : Reply) (m : Mode) → f.mode ≡ m → (m ≡ Running → ⊥)
    → answered_in f reply m ≡ resumed_at (replied f (sp_of f) Nowhere reply) f.pc (mode_after f)
item_answered f reply Running is printing = absurd (printing refl)
item_answered f reply (Printing p) is printing =
    ap (resumed_at (replied f (sp_of f) Nowhere reply) f.pc) (sym (after_by f p is))

pub item_answers : (f : FlatState) (reply : Reply) → (f.mode ≡ Running → ⊥)
    → answered_state f reply ≡ resumed_at (replied f (sp_of f) Nowhere reply) f.pc (mode_after f)
unfolding answered_state
item_answers f reply printing = item_answered f reply f.mode refl printing

-- a machine that prints an item doesn't run code
pub printing_of : (f : FlatState) (m : Mode) (x : FlatState × Effect) → item_by f m ≡ Ok x → m ≡ Running → ⊥
printing_of f Running x h same = cc
printing_of f (Printing p) x h same = cc

-- the result of what asked is stored where its operand says
stored_by : (f : FlatState) (i : Instruction) (c : Class) → f.mode ≡ Running → instruction f ≡ Ok i → i.row.class ≡ c
    → IsStoredBy c i → IsStoredAnswer f
unfolding IsStoredAnswer
stored_by f i c running decoded is stored = (
  running,
  subst (λ (r : Result Instruction Fault). IsOkAnd r (λ x. IsStoredBy x.row.class x)) (sym decoded)
      (subst (λ (x : Class). IsStoredBy x i) (sym is) stored),
)

pub done_asks : (e : Effect) → IsDone e → asking_of e ≡ None
done_asks Went h = refl
done_asks Drew h = refl
done_asks (Put c) h = absurd h
done_asks (Glk selector args room) h = absurd h
done_asks (Save stream) h = absurd h
done_asks (Restore stream) h = absurd h
done_asks Quit h = refl
done_asks Spent h = absurd h

-- only a search is spent, and only where it begins more probes than the budget has
pub spent_within : (left probes : ℕ) (e : Effect) → EndsWithin left probes e → e ≡ Spent → left < probes
spent_within left probes e ends spent = subst (EndsWithin left probes) spent ends

pub never_spent : (left probes : ℕ) (e : Effect) → IsDone e → e ≡ Spent → left < probes
never_spent left probes e done spent = absurd (subst IsDone spent done)

pub save_or_done : (old new : FlatState × FlatUndo) (i : Instruction) (e : Effect) → IsSaveAtMost old new i e
    → e ≡ Spent → ⊥
save_or_done old new i e asks spent = absurd (subst (IsSaveAtMost old new i) spent asks)

pub put_or_done : (e : Effect) (A : Type 0) → IsPutAtMost e A → e ≡ Spent → ⊥
put_or_done e A asks spent = absurd (subst (λ (x : Effect). IsPutAtMost x A) spent asks)

-- what is done within the budget asks nothing
pub within_asks : (left probes : ℕ) (e : Effect) → EndsWithin left probes e → asking_of e ≡ None
within_asks left probes Went h = refl
within_asks left probes Drew h = refl
within_asks left probes (Put c) h = absurd h
within_asks left probes (Glk selector args room) h = absurd h
within_asks left probes (Save stream) h = absurd h
within_asks left probes (Restore stream) h = absurd h
within_asks left probes Quit h = refl
within_asks left probes Spent h = refl

pub ruleset answers = (
  print_answers,
  glk_answers,
  done_asks,
  within_asks,
  spent_within,
  never_spent,
  put_or_done,
  save_or_done,
)

-- what is pending after a character was put by code
pub print_pends : (f g : FlatState) (i : Instruction) → g ≡ f → f.mode ≡ Running → instruction f ≡ Ok i
    → i.row.class ≡ class.Print → IsHeight f i.sp → sp_of f ≤ f.stack.limit
    → IsPendingAnswer g (record { asking = asking.Put; sp = i.sp; dest = Nowhere; next = i.next; mode = Running })
unfolding store_fault
print_pends f g i same running decoded is height fits =
    subst (λ (h : FlatState). IsPendingAnswer h
    (record { asking = asking.Put; sp = i.sp; dest = Nowhere; next = i.next; mode = Running })) (sym same)
    (record {
      height = height;
      stores = refl;
      memory = λ none. absurd none;
      room = omega (arith, height.there);
      saves = λ none. absurd cc;
      puts = λ put. refl;
      answers = λ reply. print_answers f i reply running decoded is;
    })

-- and by what is printed
pub item_pends : (f g : FlatState) → g ≡ f → (f.mode ≡ Running → ⊥) → 0 < sp_of f → (frame_of f).values ≤ sp_of f
    → sp_of f % 4 ≡ 0 → sp_of f ≤ f.stack.limit
    → IsPendingAnswer g (record { asking = asking.Put; sp = sp_of f; dest = Nowhere; next = f.pc; mode = mode_after f })
unfolding store_fault
item_pends f g same printing live values aligned fits =
    subst (λ (h : FlatState). IsPendingAnswer h
    (record { asking = asking.Put; sp = sp_of f; dest = Nowhere; next = f.pc; mode = mode_after f })) (sym same)
    (record {
      height = record { live = live; values = values; there = omega arith; aligned = aligned };
      stores = refl;
      memory = λ none. absurd none;
      room = omega arith;
      saves = λ none. absurd cc;
      puts = λ put. refl;
      answers = λ reply. item_answers f reply printing;
    })

-- what is pending after a Glk call
pub glk_pends : (f : FlatState) (i : Instruction) (count room : ℕ) → f.mode ≡ Running → instruction f ≡ Ok i
    → i.row.class ≡ class.Glk → count ≡ L2 i
    → IsHeight f (i.sp - 4 * count) → store_fault f 4 i.dest (i.sp - 4 * count) ≡ Ok tt
    → i.sp - 4 * count + 4 * room + result_len i.dest ≤ f.stack.limit
    → IsPendingAnswer f (record {
      asking = asking.Glk room;
      sp = i.sp - 4 * count;
      dest = i.dest;
      next = i.next;
      mode = Running;
    })
glk_pends f i count room running decoded is counted height stores fits = record {
  height = height;
  stores = stores;
  memory = stored_by f i class.Glk running decoded is;
  room = fits;
  saves = λ none. absurd cc;
  puts = λ none. absurd cc;
  answers = λ reply. rw counted (glk_answers f i reply running decoded is);
}

-- a store that has no fault has its room
push_fits : (b : Bool) (sp limit : ℕ) → (b ≡ true → sp + 4 ≤ limit)
    → (let r : Result (Unit {0}) Fault = if b then Ok tt else Err Overflow in r ≡ Ok tt) → sp + 4 ≤ limit
push_fits true sp limit holds e = holds refl
push_fits false sp limit holds e = cc

pub store_fits : (f : FlatState) (d : Dest) (sp : ℕ) → store_fault f 4 d sp ≡ Ok tt → sp ≤ f.stack.limit
    → sp + result_len d ≤ f.stack.limit
unfolding store_fault
store_fits f Nowhere sp stores fits = omega arith
store_fits f (Memory at) sp stores fits = omega arith
store_fits f (Local at) sp stores fits = omega arith
store_fits f Push sp stores fits = push_fits (nat_le (sp + 4) f.stack.limit) sp f.stack.limit
    (leb-true (sp + 4) f.stack.limit) stores

-- what is pending after a save or a restore
game_pends : (f : FlatState) (i : Instruction) (a : Asking) (above : ℕ) → room_of (Some a) ≡ 0
    → (a ≡ asking.Save → above ≡ 16) → (a ≡ asking.Put → ⊥)
    → f.mode ≡ Running → instruction f ≡ Ok i → i.row.class ≡ class.Game → IsHeight f i.sp
    → i.sp + above ≤ f.stack.limit → store_fault f 4 i.dest i.sp ≡ Ok tt
    → IsPendingAnswer f (record { asking = a; sp = i.sp; dest = i.dest; next = i.next; mode = Running })
unfolding saved_copy
game_pends f i a above none stub other running decoded is height fits stores =
    let within = store_fits f i.dest i.sp stores (omega arith) in
    record {
      height = height;
      stores = stores;
      memory = stored_by f i class.Game running decoded is;
      room = omega arith;
      puts = λ put. absurd (other put);
      saves = λ saves. let is16 = stub saves in record { room = omega arith; copy = ap (copy_by f) decoded };
      answers = λ reply. game_answers f i reply running decoded is;
    }

pub save_pends : (f g : FlatState) (u v : FlatUndo) (i : Instruction) → IsAsking (f, u) (g, v) i 16
    → f.mode ≡ Running → instruction f ≡ Ok i → i.row.class ≡ class.Game → IsHeight f i.sp
    → IsPendingAnswer g (record { asking = asking.Save; sp = i.sp; dest = i.dest; next = i.next; mode = Running })
save_pends f g u v i asks running decoded is height =
    subst (λ (x : FlatState × FlatUndo). IsPendingAnswer x.0
    (record { asking = asking.Save; sp = i.sp; dest = i.dest; next = i.next; mode = Running })) (sym asks.stands)
    (game_pends f i asking.Save 16 refl (λ saves. refl) (λ put. cc) running decoded is height asks.room asks.stores)

pub restore_pends : (f g : FlatState) (u v : FlatUndo) (i : Instruction) → IsAsking (f, u) (g, v) i 0
    → f.mode ≡ Running → instruction f ≡ Ok i → i.row.class ≡ class.Game → IsHeight f i.sp
    → IsPendingAnswer g (record { asking = asking.Restore; sp = i.sp; dest = i.dest; next = i.next; mode = Running })
restore_pends f g u v i asks running decoded is height =
    subst (λ (x : FlatState × FlatUndo). IsPendingAnswer x.0
    (record { asking = asking.Restore; sp = i.sp; dest = i.dest; next = i.next; mode = Running })) (sym asks.stands)
    (game_pends f i asking.Restore 0 refl (λ saves. absurd cc)
    (λ put. cc) running decoded is height asks.room asks.stores)

-- a character that was put is answered with nothing to push or to write
pub put_answered : (f : FlatState) (p : Pending) → IsPendingAnswer f p → p.asking ≡ asking.Put
    → answered_state f (record { value = 0; pushes = []; writes = [] }) ≡ resumed_at (cut f p.sp) p.next p.mode
put_answered f p is asks =
    let none : Reply = record { value = 0; pushes = []; writes = [] } in
    is.answers none
    ∙ ap (λ (d : Dest). resumed_at (replied f p.sp d none) p.next p.mode) (is.puts asks)
    ∙ ap (λ (b : List ℕ). resumed_at (record f { stack = record f.stack { bytes = b } }) p.next p.mode)
    (append-nil (take p.sp f.stack.bytes))
