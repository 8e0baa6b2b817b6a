-- What replies are made of: what is read from memory and written to it, and words that are given to references.
--
-- A call looks at all of its addresses before it changes anything; what it writes stands in its reply.
use Rattle.std.specs.Prelude.{◌≡◌, ◌⊎◌, ℕ, zero, suc, ◌+◌, ◌*◌, ◌==◌, ◌&&◌, ◌||◌, nat_lt, not, if◌then◌else◌, Bool}
use Rattle.std.specs.Prelude.{false, List, [], ◌∷◌, ◌++◌, length, take, Result, Ok, Err}
use Rattle.gx_words.specs.declared.faults.Fault.{Fault}
use Rattle.gx_words.specs.declared.faults.Fault.TheVariants.{BadAddress, Overflow}
use Rattle.gx_words.specs.Numbers.{number, bytes_of_word}
use Rattle.gx_words.specs.Faults.{IsRefused}
use Rattle.gx_words.specs.Results.{◌>>=◌}
use Rattle.gx_state.specs.Flat.{FlatState, write_fault}
use Rattle.gx_state.specs.declared.effects.Reply.{Reply}
use Rattle.glk_text.specs.Characters.{latin_of}
use Rattle.glk_streams.specs.declared.kinds.Places.{Places}
use Rattle.glk_replies.specs.Constants.{on_stack}

-- a reply that writes and pushes nothing
abbrev pub replies : ℕ → Reply
replies value = record { value = value; pushes = []; writes = [] }

-- A call that changes nothing may want memory, and only where `wants` holds.
abbrev pub MayWant : {X Y : Type 0} → Type 0 → (X → Y) → Result X Fault → Result Y Fault → Type 0
MayWant wants view (Ok x) defined = defined ≡ Ok (view x)
MayWant wants view (Err e) defined = IsRefused wants e defined

-- ---- memory

-- characters and numbers in memory have one or four bytes
abbrev pub IsCharWidth : ℕ → Type 0
IsCharWidth width = (width ≡ 1) ⊎ (width ≡ 4)

-- so many bytes from an address on are there; none may be anywhere
unfoldable pub can_read : FlatState → ℕ → ℕ → Result (Unit {0}) Fault
can_read f at count = if not (count == 0) && nat_lt (length f.memory) (at + count) then Err BadAddress else Ok tt

-- so many numbers of a width, one behind the other
unfoldable pub numbers_in : ℕ → List ℕ → ℕ → ℕ → List ℕ
numbers_in width memory at zero = []
numbers_in width memory at (suc n) = number width memory at ∷ numbers_in width memory (at + width) n

-- the bytes of characters in memory: of one byte each in Latin-1, else words
unfoldable pub chars_bytes : ℕ → List ℕ → List ℕ
chars_bytes width [] = []
chars_bytes width (c ∷ cs) = (if width == 1 then latin_of c ∷ [] else bytes_of_word c) ++ chars_bytes width cs

-- places may be written; none may be anywhere
unfoldable pub can_lay : FlatState → Places → Result (Unit {0}) Fault
can_lay f p = if p.count == 0 then Ok tt else write_fault f p.at (p.width * p.count)

-- the write of characters to places
abbrev pub char_writes : Places → List ℕ → List (ℕ × List ℕ)
char_writes p cs = if p.count == 0 then [] else (p.at, chars_bytes p.width (take p.count cs)) ∷ []

-- a reply that writes characters to places
abbrev pub reply_filling : ℕ → Places → List ℕ → Reply
reply_filling value p cs = record { value = value; pushes = []; writes = char_writes p cs }

-- ---- references ("The Dispatch Layer"): 0 is none, on_stack pushes, and any other is an address of words

-- so many words may be given to a reference
unfoldable pub can_give : FlatState → ℕ → ℕ → Result (Unit {0}) Fault
can_give f at words = if at == 0 || at == on_stack then Ok tt else write_fault f at (4 * words)

-- what is pushed for a reference, and what is written
abbrev pub pushes_for : ℕ → List ℕ → List ℕ
pushes_for at words = if at == on_stack then words else []

abbrev pub writes_for : ℕ → List ℕ → List (ℕ × List ℕ)
writes_for at words = if at == 0 || at == on_stack then [] else (at, chars_bytes 4 words) ∷ []

-- so many values may be pushed
unfoldable pub can_push : ℕ → ℕ → Result (Unit {0}) Fault
can_push room pushes = if nat_lt room pushes then Err Overflow else Ok tt

-- the reply of a call that gives words to one reference
unfoldable pub give : FlatState → ℕ → ℕ → ℕ → List ℕ → Result Reply Fault
give f room value at words = do
  there ← can_give f at (length words)
  fits ← can_push room (length (pushes_for at words))
  Ok (record { value = value; pushes = pushes_for at words; writes = writes_for at words })

-- the same for some references, a word for each, from the left to the right
unfoldable pub can_give_each : FlatState → List ℕ → Result (Unit {0}) Fault
can_give_each f [] = Ok tt
can_give_each f (at ∷ ats) = can_give f at 1 >>= λ there. can_give_each f ats

unfoldable pub pushes_for_each : List ℕ → List ℕ → List ℕ
pushes_for_each (at ∷ ats) (word ∷ words) = pushes_for at (word ∷ []) ++ pushes_for_each ats words
pushes_for_each ats words = []

unfoldable pub writes_for_each : List ℕ → List ℕ → List (ℕ × List ℕ)
writes_for_each (at ∷ ats) (word ∷ words) = writes_for at (word ∷ []) ++ writes_for_each ats words
writes_for_each ats words = []

-- one of them is there
abbrev pub some_given : List ℕ → Bool
some_given [] = false
some_given (at ∷ ats) = not (at == 0) || some_given ats

unfoldable pub give_each : FlatState → ℕ → ℕ → List ℕ → List ℕ → Result Reply Fault
give_each f room value ats words = do
  there ← can_give_each f ats
  fits ← can_push room (length (pushes_for_each ats words))
  Ok (record { value = value; pushes = pushes_for_each ats words; writes = writes_for_each ats words })

-- two words may be given to a reference
unfoldable pub can_give_pair : FlatState → ℕ → ℕ → Result (Unit {0}) Fault
can_give_pair f room at = can_give f at 2 >>= λ there. can_push room (if at == on_stack then 2 else 0)
