-- Characters that are put behind the one that is asked.
use Rattle.std.proofs.Common.{◌≡◌, ◌-◌, ◌*◌, ℕ, List, [], take, refl, ap, subst, sym, ◌∙◌}
use Rattle.std.proofs.Common.{Result, Ok, Err, IfOk, false, arith}
use Rattle.std.proofs.lemmas.List.{append-nil}
use Rattle.std.proofs.Math.Seq.{take-length}
use Rattle.gx_words.specs.declared.faults.Fault.{Fault}
use Rattle.gx_words.specs.declared.strings.Printing as printings
use Rattle.gx_rows.specs.declared.instructions.Class.{Class}
use Rattle.gx_rows.specs.declared.instructions.Class.TheVariants as class
use Rattle.gx_state.specs.declared.effects.Reply.{Reply}
use Rattle.gx_state.specs.declared.modes.Mode.{Mode}
use Rattle.gx_state.specs.declared.modes.Mode.TheVariants.{Running, Printing}
use Rattle.gx_state.specs.declared.modes.Dest.TheVariants.{Nowhere}
use Rattle.gx_state.specs.Flat.{FlatState, sp_of, cut}
use Rattle.gx_operands.specs.Instructions.{Instruction, instruction, L2}
use Rattle.ops_print.specs.Asks.{printed, mode_after, is_put}
use Rattle.ops_print.specs.Puts.{PutsNext}
use Rattle.gx_machine.specs.Answer.{answered_state, answered_in, answered_row, replied}
use Rattle.gx_machine.specs.Puts.{put_reply}
use Rattle.gx_machine.specs.Views.{IsPendingAnswer, resumed_at}
use Rattle.gx_machine.specs.declared.machine.Pending.{Pending}
use Rattle.gx_machine.specs.declared.askings.Asking.TheVariants as asking
use Rattle.gx_machine.proofs.Answers.{answered_by, on_with, item_answers, put_answered}

-- the state behind the characters
pub puts_answered : (f : FlatState) (p : Pending) (mode : Mode) → IsPendingAnswer f p → p.asking ≡ asking.Put
    → record (answered_state f put_reply) { mode = mode } ≡ resumed_at (cut f p.sp) p.next mode
puts_answered f p mode is asks = ap (λ (g : FlatState). record g { mode = mode }) (put_answered f p is asks)

-- ---- the mode behind the one that is asked

row_mode : (c : Class) (f : FlatState) (i : Instruction) (reply : Reply) → f.mode ≡ Running
    → (answered_row c f i reply).mode ≡ Running
row_mode class.Glk f i reply running =
    ap (λ (g : FlatState). g.mode) (on_with f (i.sp - 4 * L2 i) i.dest i.next reply running)
row_mode class.Print f i reply running =
    ap (λ (g : FlatState). g.mode) (on_with f i.sp Nowhere i.next reply running)
row_mode class.Game f i reply running =
    ap (λ (g : FlatState). g.mode) (on_with f i.sp i.dest i.next reply running)
row_mode c f i reply running = running

code_mode : (f : FlatState) (reply : Reply) (r : Result Instruction Fault) → f.mode ≡ Running
    → (answered_by f reply r).mode ≡ Running
code_mode f reply (Ok i) running = row_mode i.row.class f i reply running
code_mode f reply (Err fault) running = running

-- code that asked runs on
running_on : (f : FlatState) (reply : Reply) → f.mode ≡ Running → (answered_state f reply).mode ≡ Running
unfolding answered_state
running_on f reply running =
    ap (λ (m : Mode). (answered_in f reply m).mode) running ∙ code_mode f reply (instruction f) running

-- what is pending says it
pending_mode : (f : FlatState) (p : Pending) → IsPendingAnswer f p → p.asking ≡ asking.Put
    → (answered_state f put_reply).mode ≡ p.mode
pending_mode f p is asks = ap (λ (g : FlatState). g.mode) (put_answered f p is asks)

-- ---- an item that is asked to be put is answered by its mode alone

popped_none : (f : FlatState) (m : Mode) → resumed_at (replied f (sp_of f) Nowhere put_reply) f.pc m
    ≡ record f { mode = m }
popped_none f m =
    ap (λ (b : List ℕ). record f { stack = record f.stack { bytes = b }; mode = m })
    (append-nil (take (sp_of f) f.stack.bytes) ∙ take-length f.stack.bytes)

-- a state that prints is answered so
pub item_answered : (f : FlatState) → (f.mode ≡ Running → ⊥)
    → answered_state f put_reply ≡ record f { mode = mode_after f }
item_answered f printing = item_answers f put_reply printing ∙ popped_none f (mode_after f)

-- and so is one that prints once it is answered
pub printed_on : (f : FlatState) (m : Mode) (q : printings.Printing) → f.mode ≡ m
    → (answered_state f put_reply).mode ≡ Printing q → answered_state f put_reply ≡ record f { mode = Printing q }
printed_on f Running q is behind =
    let same : Running ≡ Printing q = sym (running_on f put_reply is) ∙ behind in absurd cc
printed_on f (Printing p) q is behind =
    let on : answered_state f put_reply ≡ record f { mode = mode_after f } = item_answered f (λ running. cc) in
    let mode : mode_after f ≡ Printing q = sym (ap (λ (g : FlatState). g.mode) on) ∙ behind in
    on ∙ ap (λ (m : Mode). record f { mode = m }) mode

-- the characters behind it are those that are put from there on
pub printing_behind : (f : FlatState) (p : Pending) (q : printings.Printing) (most : ℕ) (before after : List ℕ)
    (behind : Mode) → IsPendingAnswer f p → p.asking ≡ asking.Put → p.mode ≡ Printing q
    → PutsNext (record f { mode = Printing q }) most before after behind
    → PutsNext (answered_state f put_reply) most before after behind
printing_behind f p q most before after behind is asks mode puts =
    subst (λ (g : FlatState). PutsNext g most before after behind)
    (sym (printed_on f f.mode q refl (pending_mode f p is asks ∙ mode))) puts

-- code puts none
printed_none : (f : FlatState) → IfOk (printed (record f { mode = Running })) (λ r. is_put r.1 ≡ false)
printed_none f = tt

pub running_behind : (f : FlatState) (p : Pending) (most : ℕ) (before : List ℕ) → IsPendingAnswer f p
    → p.asking ≡ asking.Put → p.mode ≡ Running → PutsNext (answered_state f put_reply) most before before Running
running_behind f p most before is asks mode = record {
  chars = [];
  added = sym (append-nil before);
  few = omega arith;
  puts = pending_mode f p is asks ∙ mode;
  ends = λ fewer. printed_none (answered_state f put_reply);
}
