-- Items that are neither a character nor the end.
use Rattle.std.proofs.Common.{◌≡◌, ◌+◌, ◌==◌, ◌||◌, ◌&&◌, nat_le, if◌then◌else◌, ℕ, Bool, true, false, List, refl}
use Rattle.std.proofs.Common.{sym, subst, Option, Some, None, Result, Ok, Err}
use Rattle.gx_words.specs.declared.faults.Fault.{Fault}
use Rattle.gx_words.specs.declared.faults.Fault.TheVariants.{BadFunction, BadString}
use Rattle.gx_words.specs.declared.strings.Printing.{Printing}
use Rattle.gx_words.specs.Constants.{stack_function, locals_function}
use Rattle.gx_words.specs.Results.{◌>>=◌}
use Rattle.gx_pages.specs.Memory.{number_in}
use Rattle.gx_strings.specs.Constants.{string_terminator, single_character, c_style_string, single_unicode_character}
use Rattle.gx_strings.specs.Constants.{c_style_unicode_string, indirect_reference, double_indirect_reference}
use Rattle.gx_strings.specs.Constants.{indirect_reference_with_arguments, double_indirect_reference_with_arguments}
use Rattle.gx_strings.specs.Constants.{last_function}
use Rattle.gx_strings.specs.declared.items.Item.{Item}
use Rattle.gx_strings.specs.declared.items.Item.TheVariants.{Sub}
use Rattle.gx_strings.specs.Objects.{string_of, as_inner, call_of, reference}
use Rattle.gx_strings.specs.Nodes.{direct, indirect, node_item}
use Rattle.gx_strings.specs.Held.{is_char_or_end}

-- an item that is neither, or a fault
record Other (r : Result Item Fault) : Type 0 where
  is : is_char_or_end r ≡ false

either : (b : Bool) {x y : Result Item Fault} → Other x → Other y → Other (if b then x else y)
either true h k = h
either false h k = k

past : (b : Bool) (x y : Result Item Fault) → b ≡ false → Other y → Other (if b then x else y)
past b x y not h = subst (λ (c : Bool). Other (if c then x else y)) (sym not) h

at : (r : Result ℕ Fault) (f : ℕ → Result Item Fault) (t : ℕ) → r ≡ Ok t → Other (f t) → Other (r >>= f)
at r f t is h = subst (λ (read : Result ℕ Fault). Other (read >>= f)) (sym is) h

each : {A : Type 0} (r : Result A Fault) {f : A → Result Item Fault} → ((x : A) → Other (f x)) → Other (r >>= f)
each (Ok x) h = h x
each (Err fault) h = record { is = refl }

-- ---- what a reference gives

call-other : (memory : List ℕ) (back : Printing) (object : ℕ) (count_at : Option ℕ)
    → Other (call_of memory back object count_at)
unfolding call_of
call-other memory back object None = record { is = refl }
call-other memory back object (Some count_at) = each (number_in 4 memory count_at) (λ count. record { is = refl })

-- what the reference to an object of a type gives
abbrev reference_by_type : List ℕ → Printing → ℕ → Option ℕ → ℕ → Option Printing → Result Item Fault
reference_by_type memory back object count_at t (Some string) = Ok (Sub back (as_inner string))
reference_by_type memory back object count_at t None =
    if t == stack_function || t == locals_function then call_of memory back object count_at else
    if nat_le stack_function t && nat_le t last_function then Err BadFunction else Err BadString

typed-other : (memory : List ℕ) (back : Printing) (object : ℕ) (count_at : Option ℕ) (t : ℕ)
    (string : Option Printing) → Other (reference_by_type memory back object count_at t string)
typed-other memory back object count_at t (Some string) = record { is = refl }
typed-other memory back object count_at t None =
    either (t == stack_function || t == locals_function) (call-other memory back object count_at)
    (either (nat_le stack_function t && nat_le t last_function) (record { is = refl }) (record { is = refl }))

reference-other : (memory : List ℕ) (back : Printing) (object : ℕ) (count_at : Option ℕ)
    → Other (reference memory back object count_at)
unfolding reference
reference-other memory back object count_at =
    each (number_in 1 memory object) (λ t. typed-other memory back object count_at t (string_of t object))

-- ---- the nodes of other types than the two of one character and the one of the end

node-other : (memory : List ℕ) (node t : ℕ) (next : Printing) → (t == string_terminator) ≡ false
    → (t == single_character) ≡ false → (t == single_unicode_character) ≡ false → number_in 1 memory node ≡ Ok t
    → Other (node_item memory node next)
unfolding node_item
node-other memory node t next end byte word is =
    at (number_in 1 memory node) _ t is
    (past (t == string_terminator) _ _ end
    (past (t == single_character) _ _ byte
    (either (t == c_style_string) (record { is = refl })
    (past (t == single_unicode_character) _ _ word
    (either (t == c_style_unicode_string) (record { is = refl })
    (either (t == indirect_reference) (each (direct memory node) (λ object. reference-other memory next object None))
    (either (t == double_indirect_reference)
    (each (indirect memory node) (λ object. reference-other memory next object None))
    (either (t == indirect_reference_with_arguments)
    (each (direct memory node) (λ object. reference-other memory next object (Some (node + 5))))
    (either (t == double_indirect_reference_with_arguments)
    (each (indirect memory node) (λ object. reference-other memory next object (Some (node + 5))))
    (record { is = refl }))))))))))

pub other_node : (memory : List ℕ) (node t : ℕ) (next : Printing) → number_in 1 memory node ≡ Ok t
    → (t == string_terminator) ≡ false → (t == single_character) ≡ false → (t == single_unicode_character) ≡ false
    → is_char_or_end (node_item memory node next) ≡ false
other_node memory node t next is end byte word = (node-other memory node t next end byte word is).is
