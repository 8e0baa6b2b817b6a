-- A row within a budget costs the probes that it begins.
use Rattle.std.proofs.Common.{◌≡◌, ◌≤◌, ◌<◌, ℕ, Result, Ok, Err, IfOk, if◌then◌else◌, refl, arith}
use Rattle.std.proofs.lemmas.Bool.{lt-ltb, le-ltb}
use Rattle.gx_words.specs.declared.faults.Fault.{Fault}
use Rattle.gx_search.specs.declared.asks.Found.TheVariants.{At, Nothing, More}
use Rattle.gx_search.specs.Searches.{Search}
use Rattle.gx_search.specs.Finding.{found_within}
use Rattle.gx_search.proofs.Within.{is_answer}
use Rattle.gx_state.specs.declared.effects.Effect.{Effect}
use Rattle.gx_state.specs.declared.effects.Effect.TheVariants.{Went, Drew, Put, Glk, Save, Restore, Quit, Spent}
use Rattle.gx_state.specs.Replies.{IsDone}
use Rattle.gx_state.specs.Flat.{FlatState}
use Rattle.gx_operands.specs.Instructions.{Instruction}
use Rattle.gx_operands.specs.Stores.{stores}
use Rattle.ops_memory.specs.declared.searches.Method.{Method}
use Rattle.ops_memory.specs.Searching.{search_by, is_indexed, searches}
use Rattle.ops_memory.specs.Charges.{lowered, charged, EndsWithin}

-- ---- a row without probes

done_is : (left probes : ℕ) (e : Effect) → IsDone e → EndsWithin left probes e
done_is left probes Went done = done
done_is left probes Drew done = done
done_is left probes (Put c) done = done
done_is left probes (Glk selector args room) done = done
done_is left probes (Save stream) done = done
done_is left probes (Restore stream) done = done
done_is left probes Quit done = done
done_is left probes Spent done = absurd done

-- what is done is within every budget
pub done_within : (left probes : ℕ) (r : Result Effect Fault) → IfOk r IsDone → IfOk r (EndsWithin left probes)
done_within left probes (Ok e) done = done_is left probes e done
done_within left probes (Err fault) done = tt

-- ---- a search, by what is found within the budget

pub at_charged : (m : Method) (f : FlatState) (i : Instruction) (left address index probes : ℕ)
    → found_within left (search_by m f i) ≡ Ok (At address index probes)
    → charged left (search_by m f i).probes f (searches m f i)
    ≡ lowered left probes (stores f i (if is_indexed m i then index else address))
at_charged m f i left address index probes is =
    let told = is_answer left (search_by m f i) (Ok (At address index probes)) is in
    rw (told.0, told.1, le-ltb left probes told.2) refl

pub none_charged : (m : Method) (f : FlatState) (i : Instruction) (left probes : ℕ)
    → found_within left (search_by m f i) ≡ Ok (Nothing probes)
    → charged left (search_by m f i).probes f (searches m f i)
    ≡ lowered left probes (stores f i (if is_indexed m i then 0xFFFFFFFF else 0))
none_charged m f i left probes is =
    let told = is_answer left (search_by m f i) (Ok (Nothing probes)) is in
    rw (told.0, told.1, le-ltb left probes told.2) refl

pub more_charged : (m : Method) (f : FlatState) (i : Instruction) (left : ℕ)
    → found_within left (search_by m f i) ≡ Ok More
    → charged left (search_by m f i).probes f (searches m f i) ≡ Ok ((f, left), Spent)
more_charged m f i left is = rw (lt-ltb left _ (is_answer left (search_by m f i) (Ok More) is)) refl

pub fault_charged : (m : Method) (f : FlatState) (i : Instruction) (left : ℕ) (e : Fault)
    → found_within left (search_by m f i) ≡ Err e
    → charged left (search_by m f i).probes f (searches m f i) ≡ Err e
fault_charged m f i left e is =
    let told = is_answer left (search_by m f i) (Err e) is in
    rw (le-ltb left _ told.1, told.0) refl

pub at_within : (left address index probes : ℕ) (s : Search) → found_within left s ≡ Ok (At address index probes)
    → probes ≤ left
at_within left address index probes s is = (is_answer left s (Ok (At address index probes)) is).2

pub none_within : (left probes : ℕ) (s : Search) → found_within left s ≡ Ok (Nothing probes) → probes ≤ left
none_within left probes s is = (is_answer left s (Ok (Nothing probes)) is).2

pub more_within : (left : ℕ) (s : Search) → found_within left s ≡ Ok More → left < s.probes
more_within left s is = is_answer left s (Ok More) is

-- a search that ends begins no more probes than the budget has
pub at_enough : (left address index probes : ℕ) (s : Search) → found_within left s ≡ Ok (At address index probes)
    → s.probes ≤ left
at_enough left address index probes s is = let told = is_answer left s (Ok (At address index probes)) is in
    omega (arith, told.1, told.2)

pub none_enough : (left probes : ℕ) (s : Search) → found_within left s ≡ Ok (Nothing probes) → s.probes ≤ left
none_enough left probes s is = let told = is_answer left s (Ok (Nothing probes)) is in omega (arith, told.1, told.2)

pub fault_enough : (left : ℕ) (e : Fault) (s : Search) → found_within left s ≡ Err e → s.probes ≤ left
fault_enough left e s is = (is_answer left s (Err e) is).1

pub ruleset charges = (
  at_enough,
  none_enough,
  fault_enough,
  at_charged,
  none_charged,
  more_charged,
  fault_charged,
  at_within,
  none_within,
  more_within,
  done_within,
)
