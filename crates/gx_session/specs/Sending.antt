-- When the text of a session is sent, and what was sent of it: each time all that is pending, in one call of the sink.
use Rattle.std.specs.Prelude.{ℕ, nat_le, Bool, List, drop, length, Ok}
use Rattle.std.specs.List.{concat}
use Rattle.gx_outside.specs.Sends.{Send}

-- where this was sent of a text, call by call, the rest of it is pending
abbrev pub pending : List (List ℕ) → List ℕ → List ℕ
pending s text = drop (length (concat s)) text

-- so many bytes of it, or more
abbrev pub is_due : ℕ → List (List ℕ) → List ℕ → Bool
is_due enough s text = nat_le enough (length (pending s text))

-- the call of the sink that took it whole
abbrev pub whole_send : List ℕ → Send
whole_send bytes = (bytes, Ok tt)
