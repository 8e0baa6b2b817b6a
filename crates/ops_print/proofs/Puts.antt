-- Steps of printing that put no character.
use Rattle.std.proofs.Common.{◌≡◌, ◌==◌, if◌then◌else◌, ℕ, Bool, true, false, List, refl, sym, subst, ◌⊎◌, inl, inr}
use Rattle.std.proofs.Common.{Result, Ok, Err, IfOk, min}
use Rattle.gx_words.specs.declared.faults.Fault.{Fault}
use Rattle.gx_words.specs.Constants.{filter_system, glk_system}
use Rattle.gx_words.specs.declared.strings.Printing.{Printing}
use Rattle.gx_words.specs.Results.{◌>>=◌}
use Rattle.gx_strings.specs.declared.items.Item.{Item}
use Rattle.gx_strings.specs.declared.items.Item.TheVariants.{Char, Sub, Call, End}
use Rattle.gx_strings.specs.Items.{next_item}
use Rattle.gx_strings.specs.Held.{is_char_or_end}
use Rattle.gx_state.specs.declared.effects.Effect.{Effect}
use Rattle.gx_state.specs.declared.modes.Mode.{Mode}
use Rattle.gx_state.specs.declared.modes.Mode.TheVariants as mode
use Rattle.gx_state.specs.Flat.{FlatState, sp_of}
use Rattle.gx_state.specs.Entry.{entered}
use Rattle.gx_state.specs.Returns.{pushed_stubs}
use Rattle.ops_print.specs.Stubs.{ways_back, inner_ended}
use Rattle.ops_print.specs.Items.{words_in, function_called, character_printed, item_printed, is_printing_place, item}
use Rattle.ops_print.specs.Asks.{item_by, printed, is_put}

-- a step, or a fault, that puts no character
record Quiet (r : Result (FlatState × Effect) Fault) : Type 0 where
  is : IfOk r (λ (x : FlatState × Effect). is_put x.1 ≡ false)

either : (b : Bool) {x y : Result (FlatState × Effect) Fault} → Quiet x → Quiet y → Quiet (if b then x else y)
either true h k = h
either false h k = k

past : (b : Bool) (x y : Result (FlatState × Effect) Fault) → b ≡ false → Quiet y → Quiet (if b then x else y)
past b x y not h = subst (λ (c : Bool). Quiet (if c then x else y)) (sym not) h

each : {A : Type 0} (r : Result A Fault) {f : A → Result (FlatState × Effect) Fault} → ((x : A) → Quiet (f x))
    → Quiet (r >>= f)
each (Ok x) h = h x
each (Err fault) h = record { is = tt }

-- ---- what the items do

called : (f : FlatState) (started : Bool) (back : Printing) (at : ℕ) (args : List ℕ)
    → Quiet (function_called f started back at args)
unfolding function_called
called f started back at args = each (entered f (sp_of f) (ways_back f started back) at args)
    (λ g. record { is = refl })

ended : (f : FlatState) (started : Bool) → Quiet (item_printed f started End)
unfolding item_printed
ended f started = either started (each (inner_ended f) (λ g. record { is = refl })) (record { is = refl })

-- a character under another system than Glk
dropped : (f : FlatState) (started : Bool) (c : ℕ) (next : Printing) → (f.iosys.0 == glk_system) ≡ false
    → Quiet (character_printed f started c next)
unfolding character_printed
dropped f started c next other =
    either (f.iosys.0 == filter_system) (called f started next f.iosys.1 _)
    (past (f.iosys.0 == glk_system) _ _ other (record { is = refl }))

true_is_not_false : true ≡ false → ⊥
true_is_not_false same = cc

-- an item that is neither a character nor the end, or that is printed under another system than Glk
other : (f : FlatState) (started : Bool) (i : Item) → is_char_or_end (Ok i) ≡ false
    ⊎ ((f.iosys.0 == glk_system) ≡ false) → Quiet (item_printed f started i)
unfolding item_printed
other f started (Char c next) (inl plain) = absurd (true_is_not_false plain)
other f started (Char c next) (inr system) = dropped f started c next system
other f started (Sub back inner) h = each (pushed_stubs f (ways_back f started back)) (λ g. record { is = refl })
other f started (Call back at args_at count) h =
    each (words_in f.memory args_at (min count 256)) (λ args. called f started back at args)
other f started End (inl plain) = absurd (true_is_not_false plain)
other f started End (inr system) = ended f started

-- ---- a step of printing

step : (f : FlatState) (p : Printing) (r : Result Item Fault)
    → is_char_or_end r ≡ false ⊎ ((f.iosys.0 == glk_system) ≡ false) → Quiet (r >>= item_printed f p.started)
step f p (Ok i) h = other f p.started i h
step f p (Err fault) h = record { is = tt }

printed-is : (f : FlatState) (p : Printing) → f.mode ≡ mode.Printing p → Quiet (item f p)
    → IfOk (printed f) (λ r. is_put r.1 ≡ false)
printed-is f p mode h = (subst (λ (m : Mode). Quiet (item_by f m)) (sym mode) h).is

pub quiet_item : (f : FlatState) (p : Printing) → f.mode ≡ mode.Printing p
    → is_char_or_end (next_item f.memory f.table p) ≡ false → IfOk (printed f) (λ r. is_put r.1 ≡ false)
unfolding item
quiet_item f p mode none = printed-is f p mode
    (either (is_printing_place p.kind p.bit) (step f p (next_item f.memory f.table p) (inl none)) (record { is = tt }))

pub quiet_system : (f : FlatState) (p : Printing) → f.mode ≡ mode.Printing p → (f.iosys.0 == glk_system) ≡ false
    → IfOk (printed f) (λ r. is_put r.1 ≡ false)
unfolding item
quiet_system f p mode system = printed-is f p mode
    (either (is_printing_place p.kind p.bit) (step f p (next_item f.memory f.table p) (inr system))
    (record { is = tt }))

pub quiet_place : (f : FlatState) (p : Printing) → f.mode ≡ mode.Printing p → is_printing_place p.kind p.bit ≡ false
    → IfOk (printed f) (λ r. is_put r.1 ≡ false)
unfolding item
quiet_place f p mode place = printed-is f p mode (past (is_printing_place p.kind p.bit) _ _ place (record { is = tt }))

pub quiet_end : (f : FlatState) (p : Printing) → f.mode ≡ mode.Printing p → next_item f.memory f.table p ≡ Ok End
    → IfOk (printed f) (λ r. is_put r.1 ≡ false)
unfolding item
quiet_end f p mode is = printed-is f p mode
    (either (is_printing_place p.kind p.bit)
    (subst (λ (r : Result Item Fault). Quiet (r >>= item_printed f p.started)) (sym is) (ended f p.started))
    (record { is = tt }))
