-- What the proofs of one call open or use together.
use Rattle.gx_stack.specs.Calls.{popped_stub, top_stub}
use Rattle.gx_stack.proofs.Kept.{entered_frames, frame_after_push, frame_after_cut, frame_after_turn}
use Rattle.gx_stack.proofs.Lists.{values_pushed, values_dropped, values_rolled_at, values_copied_at}
use Rattle.gx_stack.proofs.Locals.{locals_read}
use Rattle.gx_stack.proofs.Pieces.{stub_on_top}
use Rattle.gx_stack.proofs.Turns.{stub_turns, value_turns}

pub ruleset entering = (entered_frames, locals_read)

pub ruleset pushing = (frame_after_push, values_pushed)

pub ruleset pushing_all = (value_turns, frame_after_push)

pub ruleset dropping = (frame_after_cut, values_dropped)

pub ruleset turning = (values_rolled_at, frame_after_turn)

pub ruleset copying = (values_copied_at, frame_after_push)

pub ruleset pushing_stub = (frame_after_push, stub_on_top)

pub ruleset pushing_stubs = (stub_turns, frame_after_push)

unfoldable pub popping_stub : Unit {0}
unfolding popped_stub top_stub
popping_stub = tt
