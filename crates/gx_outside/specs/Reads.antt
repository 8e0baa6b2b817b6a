-- What a source offers room for and what it gives, call by call.
use Rattle.std.specs.Prelude.{◌≡◌, ◌≤◌, ◌<◌, ◌++◌, ℕ, List, [], take, length, true, false, Result, Ok, Err, IfOk}
use Rattle.std.specs.Prelude.{is_err, MatchResult}
use Rattle.gx_outside.specs.declared.devices.Failed.{Failed}
use Rattle.gx_outside.specs.Outside.{FlatSource, HasCause, raised_by}

-- A read: for how many bytes it had room, and the bytes that it gave, or the failure.
abbrev pub SourceRead : Type 0
SourceRead = ℕ × Result (List ℕ) Failed

-- what was given of a slice, a front of it
abbrev pub given : List ℕ → Result ℕ Failed → Result (List ℕ) Failed
given into (Ok count) = Ok (take count into)
given into (Err e) = Err e

-- The bytes were next. None for some room says that nothing is left.
pub record TakesFront (before after : List ℕ) (room : ℕ) (bytes : List ℕ) : Type 0 where
  pub next : before ≡ bytes ++ after
  pub end : bytes ≡ [] → 0 < room → before ≡ []

-- ONE CALL of a source. The bytes left stand where it failed.
pub record SourceCall (before : FlatSource) (r : SourceRead) (now : FlatSource) : Type 0 where
  pub bound : IfOk r.1 (λ bytes. length bytes ≤ r.0)
  pub cause : HasCause before.calls now.calls (is_err r.1) false
  pub offered : now.offered ≡ raised_by r.0 before.offered
  pub tells : now.tells ≡ before.tells
  pub bytes : before.tells ≡ true → MatchResult r.1 (TakesFront before.left now.left r.0) (λ e. now.left ≡ before.left)
