-- The characters that are put one after another.
use Rattle.std.proofs.Common.{◌≡◌, ◌+◌, ◌<◌, ◌==◌, if◌then◌else◌, ℕ, Bool, true, false, List, [], ◌∷◌, ◌++◌, length}
use Rattle.std.proofs.Common.{refl, sym, subst, ap, ◌∙◌, Option, Some, None, unwrap_or, Result, Ok, Err, IfOk, arith, append_assoc}
use Rattle.std.proofs.Common.{length-append}
use Rattle.std.proofs.lemmas.List.{append-nil}
use Rattle.std.proofs.lemmas.Bool.Decides.{nat_tests}
use Rattle.gx_words.specs.declared.faults.Fault.{Fault}
use Rattle.gx_words.specs.declared.faults.Fault.TheVariants.{BadFrame}
use Rattle.gx_words.specs.Constants.{filter_system, glk_system}
use Rattle.gx_words.specs.declared.strings.Printing.{Printing}
use Rattle.gx_words.specs.Results.{◌>>=◌}
use Rattle.gx_strings.specs.declared.items.Item.{Item}
use Rattle.gx_strings.specs.declared.items.Item.TheVariants.{Char, Sub, Call, End}
use Rattle.gx_strings.specs.Items.{next_item}
use Rattle.gx_strings.specs.Held.{is_char_or_end}
use Rattle.gx_state.specs.declared.effects.Effect.{Effect}
use Rattle.gx_state.specs.declared.effects.Effect.TheVariants.{Went, Put}
use Rattle.gx_state.specs.declared.modes.Mode.{Mode}
use Rattle.gx_state.specs.declared.modes.Mode.TheVariants as mode
use Rattle.gx_state.specs.Flat.{FlatState}
use Rattle.ops_print.specs.Items.{function_called, character_printed, item_printed, is_printing_place, item, mode_behind}
use Rattle.ops_print.specs.Asks.{item_by, printed, mode_after, is_put}
use Rattle.ops_print.specs.Puts.{char_of, char_at, PutsEach, PutsNext}
use Rattle.ops_print.proofs.Puts.{quiet_item, quiet_place, quiet_end, quiet_system}

-- what is neither a character nor the end has no character
pub no_char : (r : Result Item Fault) → is_char_or_end r ≡ false → char_of r ≡ None
no_char (Ok (Char value next)) not = absurd cc
no_char (Ok (Sub back inner)) not = refl
no_char (Ok (Call back at args_at args)) not = refl
no_char (Ok End) not = refl
no_char (Err fault) not = refl

-- ---- a character that is put

glk_put : (f : FlatState) (started : Bool) (c : ℕ) (next : Printing) → f.iosys.0 ≡ glk_system
    → character_printed f started c next ≡ Ok (f, Put c)
unfolding character_printed
glk_put f started c next glk = subst (λ (system : ℕ).
    let x : Result (FlatState × Effect) Fault =
    if system == filter_system then function_called f started next f.iosys.1 (c ∷ []) else
    if system == glk_system then Ok (f, Put c) else Ok (record f { mode = mode.Printing next }, Went) in
    x ≡ Ok (f, Put c)) (sym glk) refl

put_by : (f : FlatState) (started place : Bool) (r : Result Item Fault) (c : ℕ) (next : Printing)
    → f.iosys.0 ≡ glk_system
    → (let x : Option (ℕ × Printing) = if place then char_of r else None in x ≡ Some (c, next))
    → (let x : Result (FlatState × Effect) Fault = if place then (r >>= item_printed f started) else Err BadFrame in
    x ≡ Ok (f, Put c))
unfolding item_printed
put_by f started false r c next glk is = absurd cc
put_by f started true (Ok (Char value behind)) c next glk is =
    let same : value ≡ c = ap (λ (o : Option (ℕ × Printing)). (unwrap_or o (value, behind)).0) is in
    glk_put f started value behind glk
    ∙ ap (λ (n : ℕ). let x : Result (FlatState × Effect) Fault = Ok (f, Put n) in x) same
put_by f started true (Ok (Sub back inner)) c next glk is = absurd cc
put_by f started true (Ok (Call back at args_at args)) c next glk is = absurd cc
put_by f started true (Ok End) c next glk is = absurd cc
put_by f started true (Err fault) c next glk is = absurd cc

item_put : (f : FlatState) (p : Printing) (c : ℕ) (next : Printing) → f.iosys.0 ≡ glk_system
    → char_at f.memory f.table p ≡ Some (c, next) → item f p ≡ Ok (f, Put c)
unfolding item
item_put f p c next glk is =
    put_by f p.started (is_printing_place p.kind p.bit) (next_item f.memory f.table p) c next glk is

behind_by : (m : Mode) (place : Bool) (r : Result Item Fault) (c : ℕ) (next : Printing)
    → (let x : Option (ℕ × Printing) = if place then char_of r else None in x ≡ Some (c, next))
    → mode_behind m r ≡ mode.Printing next
behind_by m false r c next is = absurd cc
behind_by m true (Ok (Char value behind)) c next is =
    ap (λ (o : Option (ℕ × Printing)). mode.Printing (unwrap_or o (value, behind)).1) is
behind_by m true (Ok (Sub back inner)) c next is = absurd cc
behind_by m true (Ok (Call back at args_at args)) c next is = absurd cc
behind_by m true (Ok End) c next is = absurd cc
behind_by m true (Err fault) c next is = absurd cc

after_by : (f : FlatState) (p : Printing) → f.mode ≡ mode.Printing p
    → mode_after f ≡ mode_behind (mode.Printing p) (next_item f.memory f.table p)
unfolding mode_after
after_by f p is = rw is refl

pub char_put : (f : FlatState) (p : Printing) (c : ℕ) (next : Printing) → f.mode ≡ mode.Printing p
    → f.iosys.0 ≡ glk_system → char_at f.memory f.table p ≡ Some (c, next) → printed f ≡ Ok (f, Put c)
char_put f p c next prints glk is =
    subst (λ (m : Mode). item_by f m ≡ Ok (f, Put c)) (sym prints) (item_put f p c next glk is)

pub char_behind : (f : FlatState) (p : Printing) (c : ℕ) (next : Printing) → f.mode ≡ mode.Printing p
    → char_at f.memory f.table p ≡ Some (c, next) → mode_after f ≡ mode.Printing next
char_behind f p c next prints is = after_by f p prints
    ∙ behind_by (mode.Printing p) (is_printing_place p.kind p.bit) (next_item f.memory f.table p) c next is

-- ---- where none is put

quiet_by : (f : FlatState) (p : Printing) (place : Bool) (r : Result Item Fault) → f.mode ≡ mode.Printing p
    → is_printing_place p.kind p.bit ≡ place → next_item f.memory f.table p ≡ r
    → (let x : Option (ℕ × Printing) = if place then char_of r else None in x ≡ None)
    → IfOk (printed f) (λ x. is_put x.1 ≡ false)
quiet_by f p false r prints place item is = quiet_place f p prints place
quiet_by f p true (Ok (Char value behind)) prints place item is = absurd cc
quiet_by f p true (Ok (Sub back inner)) prints place item is =
    quiet_item f p prints (ap is_char_or_end item)
quiet_by f p true (Ok (Call back at args_at args)) prints place item is =
    quiet_item f p prints (ap is_char_or_end item)
quiet_by f p true (Ok End) prints place item is = quiet_end f p prints item
quiet_by f p true (Err fault) prints place item is = quiet_item f p prints (ap is_char_or_end item)

pub quiet_at : (f : FlatState) (p : Printing) → f.mode ≡ mode.Printing p → char_at f.memory f.table p ≡ None
    → IfOk (printed f) (λ x. is_put x.1 ≡ false)
quiet_at f p prints is =
    quiet_by f p (is_printing_place p.kind p.bit) (next_item f.memory f.table p) prints refl refl is

pub ruleset steps = (char_put, char_behind, quiet_at, quiet_system)

-- ---- several of them

-- so many characters that are put one after another, from a state to a place
pub record IsRun (f : FlatState) (before after : List ℕ) (taken : ℕ) (p : Printing) : Type 0 where
  pub chars : List ℕ
  pub added : after ≡ before ++ chars
  pub count : length chars ≡ taken
  pub puts : PutsEach chars f (mode.Printing p)

pub no_run : (f : FlatState) (before : List ℕ) (p : Printing) → f.mode ≡ mode.Printing p
    → IsRun f before before 0 p
no_run f before p prints =
    record { chars = []; added = sym (append-nil before); count = refl; puts = prints }

-- what is at a place, by the memory and the table of a state
there : (f : FlatState) (memory : List ℕ) (table : ℕ) (p : Printing) (x : Option (ℕ × Printing)) → memory ≡ f.memory
    → table ≡ f.table → char_at memory table p ≡ x → char_at f.memory f.table p ≡ x
there f memory table p x same_memory same_table is =
    ap (λ (n : ℕ). char_at f.memory n p) (sym same_table)
    ∙ (ap (λ (bytes : List ℕ). char_at bytes table p) (sym same_memory) ∙ is)

-- one more
each_behind : (cs : List ℕ) (f : FlatState) (p next : Printing) (c : ℕ) → PutsEach cs f (mode.Printing p)
    → (let g = record f { mode = mode.Printing p } in printed g ≡ Ok (g, Put c))
    → mode_after (record f { mode = mode.Printing p }) ≡ mode.Printing next
    → PutsEach (cs ++ c ∷ []) f (mode.Printing next)
each_behind [] f p next c is put behind =
    let same : record f { mode = mode.Printing p } ≡ f = ap (λ (m : Mode). record f { mode = m }) (sym is) in
    subst (λ (g : FlatState). PutsEach (c ∷ []) g (mode.Printing next)) same (put, behind)
each_behind (x ∷ cs) f p next c is put behind =
    (is.0, each_behind cs (record f { mode = mode_after f }) p next c is.1 put behind)

pub run_on : (f : FlatState) (memory before after new : List ℕ) (table taken c : ℕ) (p next : Printing)
    → IsRun f before after taken p → f.iosys.0 ≡ glk_system → memory ≡ f.memory → table ≡ f.table
    → char_at memory table p ≡ Some (c, next) → new ≡ after ++ c ∷ [] → IsRun f before new (taken + 1) next
run_on f memory before after new table taken c p next run glk same_memory same_table is added =
    let g : FlatState = record f { mode = mode.Printing p } in
    let at : char_at f.memory f.table p ≡ Some (c, next) =
    there f memory table p (Some (c, next)) same_memory same_table is in
    record {
      chars = run.chars ++ c ∷ [];
      added = added ∙ (ap (λ (xs : List ℕ). xs ++ c ∷ []) run.added ∙ append_assoc before run.chars (c ∷ []));
      count = simp length-append (omega (arith, run.count));
      puts = each_behind run.chars f p next c run.puts (char_put g p c next refl glk at)
          (char_behind g p c next refl at);
    }

-- and what they are in the end
pub run_all : (f : FlatState) (before after : List ℕ) (most : ℕ) (p : Printing) → IsRun f before after most p
    → PutsNext f most before after (mode.Printing p)
run_all f before after most p run = record {
  chars = run.chars;
  added = run.added;
  few = omega (arith, run.count);
  puts = run.puts;
  ends = λ fewer. absurd (omega (arith, run.count));
}

pub run_ends : (f : FlatState) (memory before after : List ℕ) (most table taken : ℕ) (p : Printing)
    → IsRun f before after taken p → taken < most → memory ≡ f.memory → table ≡ f.table
    → char_at memory table p ≡ None → PutsNext f most before after (mode.Printing p)
run_ends f memory before after most table taken p run fewer same_memory same_table is = record {
  chars = run.chars;
  added = run.added;
  few = omega (arith, run.count);
  puts = run.puts;
  ends = λ fewer. quiet_at (record f { mode = mode.Printing p }) p refl
      (there f memory table p None same_memory same_table is);
}

pub run_none : (f : FlatState) (before : List ℕ) (most : ℕ) (p : Printing) → f.mode ≡ mode.Printing p
    → (f.iosys.0 ≡ glk_system → ⊥) → PutsNext f most before before (mode.Printing p)
run_none f before most p prints other =
    let system : (f.iosys.0 == glk_system) ≡ false = grind (arith, nat_tests) in
    record {
      chars = [];
      added = sym (append-nil before);
      few = omega arith;
      puts = prints;
      ends = λ fewer. quiet_system (record f { mode = mode.Printing p }) p refl system;
    }
