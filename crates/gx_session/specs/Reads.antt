-- The reads of the source over a run, and the input that they leave.
use Rattle.std.specs.Prelude.{◌≡◌, ℕ, ◌+◌, ◌<◌, List, [], ◌∷◌, ◌++◌, map, length, unwrap_or, Ok, ◌≢◌, ◌≤◌, ◌⊎◌}
use Rattle.std.specs.Prelude.{true}
use Rattle.std.specs.List.{position_or_len, concat, AllByRecursion}
use Rattle.std.specs.Result.{result_ok}
use Rattle.gx_outside.specs.Reads.{SourceRead}
use Rattle.gx_outside.specs.Outside.{FlatSource, raised_times}
use Rattle.gx_session.specs.Constants.{longest_line, piece}
use Rattle.gx_session.specs.Input.{is_line_feed}

-- THE READS of a source
-- the bytes that they gave, one after another
abbrev pub bytes_read : List SourceRead → List ℕ
bytes_read reads = concat (map (λ (r : SourceRead). unwrap_or (result_ok r.1) []) reads)

-- The reads, each with room for a piece, gave the input but for what is to come, and all of it where one gave nothing,
-- and so said that nothing is left.
pub record GiveInput (reads : List SourceRead) (input coming : List ℕ) : Type 0 where
  pub pieces : AllByRecursion (λ (r : SourceRead). r.0 ≡ piece) reads
  pub given : input ≡ bytes_read reads ++ coming
  pub end : (room : ℕ) (front rest : List SourceRead) → reads ≡ front ++ (room, Ok []) ∷ rest → coming ≡ []

-- The input that is left: what is to come of the source, after the bytes that were read ahead. These are few, unless
-- the line that was awaited is too long, or the source failed in it. Each read offered a piece and gave something, but
-- for one that said that nothing is left, and one that failed. Where no line was taken and none was awaited at the end,
-- the source wasn't asked.
pub record LeavesInput (first input coming : List ℕ) (before now : FlatSource) (awaited long : Type 0)
    (failures : ℕ) : Type 0 where
  pub ahead : List ℕ
  pub split : input ≡ ahead ++ coming
  pub left : now.tells ≡ true → coming ≡ now.left
  pub few : (long → ⊥) → failures ≡ 0 → length ahead < piece
  pub partial : failures ≢ 0 → (position_or_len is_line_feed ahead ≡ length ahead) × (length ahead < longest_line)
  pub reads : ℕ
  pub made : now.calls.made ≡ raised_times reads 1 before.calls.made
  pub offered : now.offered ≡ raised_times reads piece before.offered
  pub few_reads : reads + length coming ≤ length first + 1 + failures
  pub unread : (awaited → ⊥) → failures ≡ 0 → (now ≡ before) ⊎ (length input < length first)
