-- How lines are taken of a source: what is held of it, and what is still to come. What contracts say.
--
-- A source that tells has so many bytes left. Of one that doesn't, what is to come is unknown: what is said here of a
-- call is said of all bytes that may come after it, and gives the bytes that came before it.
use Rattle.std.specs.Prelude.{◌≡◌, ℕ, ◌+◌, ◌<◌, ◌≤◌, ◌⊎◌, List, [], ◌∷◌, ◌++◌, length, Bool, true, false}
use Rattle.std.specs.Prelude.{Result, Ok, Err}
use Rattle.std.specs.List.{position_or_len, AllByRecursion}
use Rattle.gx_outside.specs.Chains.{Chain}
use Rattle.gx_outside.specs.Outside.{FlatSource, raised_times}
use Rattle.gx_outside.specs.Reads.{SourceRead}
use Rattle.gx_outside.specs.declared.devices.Failed.{Failed}
use Rattle.gx_session.specs.declared.lines.NoLine.{NoLine}
use Rattle.gx_session.specs.declared.lines.NoLine.TheVariants as no
use Rattle.gx_session.specs.Constants.{longest_line, piece}
use Rattle.gx_session.specs.Input.{is_line_feed, too_long, none, line, next_line, HasChars}
use Rattle.gx_session.specs.Lines.{HeldLines}
use Rattle.gx_session.specs.Reads.{bytes_read}

-- These bytes may come: those that are left, where the source tells them, and none once it has ended.
pub record IsComing (lines : HeldLines) (source : FlatSource) (coming : List ℕ) : Type 0 where
  pub told : source.tells ≡ true → coming ≡ source.left
  pub over : lines.ended ≡ true → coming ≡ []

-- One of these reads gave nothing, and so said that nothing is left.
abbrev pub SayEnd : List SourceRead → Type 0
SayEnd [] = ⊥
SayEnd ((room, Ok []) ∷ reads) = Unit {0}
SayEnd ((room, gave) ∷ reads) = SayEnd reads

-- A source that has ended has nothing left.
abbrev pub IsOver : HeldLines → FlatSource → Type 0
IsOver lines source = lines.ended ≡ true → source.tells ≡ true → source.left ≡ []

-- what one read of a source leads to
abbrev pub ReadStep : Type 0 → Type 1
ReadStep S = S → SourceRead → S → Type 0

-- The source was called so. Whatever comes after these calls, there is what came before them, so that the calls relate
-- the two so: it begins with the bytes that they gave.
pub record Fed {S : Type 0} (reading : ReadStep S) (seen : S → FlatSource) (old new : HeldLines) (before now : S)
    (P : List ℕ → List ℕ → Type 0) : Type 0 where
  pub reads : List SourceRead
  pub chain : Chain reading before reads now
  pub pieces : AllByRecursion (λ (r : SourceRead). r.0 ≡ piece) reads
  pub said : (old.ended ≡ true) ⊎ SayEnd reads → new.ended ≡ true
  pub over : IsOver old (seen before) → IsOver new (seen now)
  pub comes : (after : List ℕ) → IsComing new (seen now) after
      → (coming : List ℕ) × IsComing old (seen before) coming × P coming after
  pub given : (after : List ℕ) (is : IsComing new (seen now) after) → (comes after is).0 ≡ bytes_read reads ++ after

-- a line feed is held
abbrev pub HoldsLineFeed : List ℕ → Type 0
HoldsLineFeed held = position_or_len is_line_feed held < length held

-- what the taking of a line makes of the input
abbrev pub TakesLine : List ℕ → List ℕ → Result (List ℕ) NoLine → Type 0
TakesLine old new (Ok chars) = next_line old ≡ line chars new
TakesLine old new (Err no.Ended) = (next_line old ≡ none) × (new ≡ old)
TakesLine old new (Err no.TooLong) = (next_line old ≡ too_long) × (new ≡ old)
TakesLine old new (Err no.Failed) = new ≡ old
TakesLine old new (Err no.NoMemory) = HasChars (next_line old) × (new ≡ old)

-- No line feed is held, and the bytes are not too many for a line.
abbrev pub IsPartial : List ℕ → Type 0
IsPartial held = (position_or_len is_line_feed held ≡ length held) × (length held < longest_line)

-- how much is held once a line was taken, or not
abbrev pub HoldsFew : List ℕ → Result (List ℕ) NoLine → Type 0
HoldsFew held (Ok chars) = length held < piece
HoldsFew held (Err no.Ended) = length held < piece
HoldsFew held (Err no.Failed) = IsPartial held
HoldsFew held (Err e) = Unit {0}

-- One piece was read, and nothing only at the end.
pub record GainsPiece (old new : HeldLines) (before now : FlatSource) (got : List ℕ) : Type 0 where
  pub held : new.held ≡ old.held ++ got
  pub few : length got ≤ piece
  pub more : new.ended ≡ false → 0 < length got
  pub end : new.ended ≡ true → got ≡ []
  pub over : IsOver new now
  pub comes : (after : List ℕ) → IsComing new now after → IsComing old before (got ++ after)

-- One more read may say that nothing is left, until one has.
abbrev pub spare : Bool → ℕ
spare true = 0
spare false = 1

-- So many reads were made, each of which offered a piece and gave something or said that nothing is left.
pub record ReadsFew (ended over : Bool) (before now : FlatSource) (coming after : List ℕ) (more : ℕ) : Type 0 where
  pub reads : ℕ
  pub made : now.calls.made ≡ raised_times reads 1 before.calls.made
  pub offered : now.offered ≡ raised_times reads piece before.offered
  pub few : reads + length after + spare over ≤ length coming + spare ended + more

-- the read that failed gave nothing
abbrev pub failures : Result (List ℕ) NoLine → ℕ
failures (Err no.Failed) = 1
failures r = 0

-- A line was taken, or not, with few reads.
pub record Takes (old new : HeldLines) (before now : FlatSource) (coming after : List ℕ)
    (result : Result (List ℕ) NoLine) : Type 0 where
  pub line : TakesLine (old.held ++ coming) (new.held ++ after) result
  pub reads : ReadsFew old.ended new.ended before now coming after (failures result)

-- what a read that gave so does
abbrev pub Fills : HeldLines → HeldLines → FlatSource → FlatSource → Result (Unit {0}) Failed → Result (List ℕ) Failed
    → Type 0
Fills old new before now (Ok u) (Ok got) = GainsPiece old new before now got
Fills old new before now (Err e) (Err f) = (new ≡ old) × (before.tells ≡ true → now.left ≡ before.left)
Fills old new before now result gave = ⊥

-- A piece was read, in one call.
pub record FillsBy {S : Type 0} (reading : ReadStep S) (seen : S → FlatSource) (old new : HeldLines) (before now : S)
    (result : Result (Unit {0}) Failed) : Type 0 where
  pub gave : Result (List ℕ) Failed
  pub call : reading before (piece, gave) now
  pub fills : Fills old new (seen before) (seen now) result gave

-- the source failed
abbrev pub is_failed : Result (Unit {0}) Failed → Bool
is_failed (Ok u) = false
is_failed (Err f) = true
