-- Frames on a stack (Glulx 3.1.2, "Call Frames"): which are good, and where their parts stand.
use Rattle.std.specs.Prelude.{◌≡◌, ℕ, ◌+◌, ◌-◌, ◌%◌, ◌≤◌, Bool, ◌&&◌, ◌==◌, nat_le, if◌then◌else◌, List}
use Rattle.std.specs.Prelude.{length, Result, Ok, Err}
use Rattle.gx_words.specs.Numbers.{word}
use Rattle.gx_stack.specs.declared.faults.StackFault.{StackFault}
use Rattle.gx_stack.specs.declared.faults.StackFault.TheVariants.{BadFrame}
use Rattle.gx_stack.specs.declared.frames.Frame.{Frame}

-- the frame at fp is good
abbrev pub is_good : List ℕ → ℕ → Bool
is_good s fp = nat_le (fp + 8) (length s) && fp % 4 == 0 && word s fp % 4 == 0
    && nat_le 8 (word s (fp + 4)) && nat_le (word s (fp + 4)) (word s fp) && nat_le (fp + word s fp) (length s)

pub record IsGood (s : List ℕ) (fp : ℕ) : Type 0 where
  pub header : fp + 8 ≤ length s
  pub begins : fp % 4 ≡ 0
  pub aligned : word s fp % 4 ≡ 0
  pub locals : 8 ≤ word s (fp + 4)
  pub order : word s (fp + 4) ≤ word s fp
  pub whole : fp + word s fp ≤ length s

-- where its locals and its values begin
abbrev pub parts : List ℕ → ℕ → Frame
parts s fp = record { fp = fp; locals = fp + word s (fp + 4); values = fp + word s fp }

-- so many bytes at an offset into a frame's locals are all in its locals
abbrev pub has_local : Frame → ℕ → ℕ → Bool
has_local f at width = nat_le (at + width) (f.values - f.locals)

unfoldable pub frame_in : List ℕ → ℕ → Result Frame StackFault
frame_in s fp = if is_good s fp then Ok (parts s fp) else Err BadFrame

-- WHAT CONTRACTS SAY

-- a good frame, with its parts
pub record IsFrame (s : List ℕ) (f : Frame) : Type 0 where
  pub good : IsGood s f.fp
  pub locals : f.locals ≡ f.fp + word s (f.fp + 4)
  pub values : f.values ≡ f.fp + word s f.fp

-- every good frame of the old bytes is one of the new
abbrev pub KeepsFrames : List ℕ → List ℕ → Type 0
KeepsFrames old new = (f : Frame) → IsFrame old f → IsFrame new f
