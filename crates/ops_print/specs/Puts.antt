-- Characters that a string or number puts one after another. What contracts say.
use Rattle.std.specs.Prelude.{◌≡◌, ◌<◌, ◌≤◌, false, ℕ, if◌then◌else◌, List, [], ◌∷◌, ◌++◌, length, Option, Some, None}
use Rattle.std.specs.Prelude.{Result, Ok, IfOk}
use Rattle.gx_words.specs.declared.faults.Fault.{Fault}
use Rattle.gx_words.specs.declared.strings.Printing.{Printing}
use Rattle.gx_strings.specs.declared.items.Item.{Item}
use Rattle.gx_strings.specs.declared.items.Item.TheVariants.{Char}
use Rattle.gx_strings.specs.Items.{next_item}
use Rattle.gx_state.specs.declared.effects.Effect.TheVariants.{Put}
use Rattle.gx_state.specs.declared.modes.Mode.{Mode}
use Rattle.gx_state.specs.Flat.{FlatState}
use Rattle.ops_print.specs.Items.{is_printing_place}
use Rattle.ops_print.specs.Asks.{printed, mode_after, is_put}

-- the most characters that are looked ahead for at once
abbrev pub most_puts : ℕ
most_puts = 64

-- the character that is at a place of a string or number, and the place behind it
abbrev pub char_of : Result Item Fault → Option (ℕ × Printing)
char_of (Ok (Char value next)) = Some (value, next)
char_of item = None

abbrev pub char_at : List ℕ → ℕ → Printing → Option (ℕ × Printing)
char_at memory table p = if is_printing_place p.kind p.bit then char_of (next_item memory table p) else None

-- The next items of what is printed are these characters: each is asked to be put, and answered at once. Behind them
-- this is the mode.
abbrev pub PutsEach : List ℕ → FlatState → Mode → Type 0
PutsEach [] f behind = f.mode ≡ behind
PutsEach (c ∷ cs) f behind = (printed f ≡ Ok (f, Put c)) × PutsEach cs (record f { mode = mode_after f }) behind

-- `after` is `before` with the characters that are put next, so many at most; behind them this is the mode. There are
-- fewer only where no other is put next.
pub record PutsNext (f : FlatState) (most : ℕ) (before after : List ℕ) (behind : Mode) : Type 0 where
  pub chars : List ℕ
  pub added : after ≡ before ++ chars
  pub few : length chars ≤ most
  pub puts : PutsEach chars f behind
  pub ends : length chars < most → IfOk (printed (record f { mode = behind })) (λ r. is_put r.1 ≡ false)
