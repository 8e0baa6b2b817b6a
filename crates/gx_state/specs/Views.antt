-- The flat state that the fields of a State stand for.
use Rattle.std.specs.Prelude.{◌<◌, length}
use Rattle.gx_stack.specs.Frames.{IsFrame}
use Rattle.gx_state.specs.Flat.{FlatState, HeldState}
use Rattle.gx_state.specs.Sound.{IsSound}
use Rattle.gx_state.specs.declared.state.State.TheInside.{Inside}

abbrev pub flat_of : {A : Type 0} → Inside A → FlatState
flat_of s = record {
  memory = s.memory;
  stack = s.stack;
  fp = s.frame.fp;
  pc = s.pc;
  table = s.table;
  iosys = s.iosys;
  protected = s.protected;
  heap = s.heap.heap;
  generator = s.generator;
  mode = s.mode;
  story = s.story.value;
}

abbrev pub held_of : {A : Type 0} → Inside A → HeldState
held_of s = record { flat = flat_of s; spare = s.heap.spare }

-- the present frame is at hand
pub record StateInvariant {A : Type 0} (s : Inside A) : Type 0 where
  pub sound : IsSound (flat_of s)
  pub frame : 0 < length s.stack.bytes → IsFrame s.stack.bytes s.frame
