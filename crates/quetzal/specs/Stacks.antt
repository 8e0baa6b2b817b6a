-- The stack of a save: a stub that stores a result is on top (Glulx 3.1.2, "Call Stubs" and "Saved Games").
use Rattle.std.specs.Prelude.{ℕ, Bool, true, ◌+◌, ◌-◌, ◌%◌, ◌==◌, nat_le, ◌&&◌, if◌then◌else◌, List, length, take}
use Rattle.gx_stack.specs.Constants.{to_memory, to_local, to_stack}
use Rattle.gx_stack.specs.declared.frames.Frame.{Frame}
use Rattle.gx_stack.specs.declared.stubs.Stub.{Stub}
use Rattle.gx_stack.specs.Frames.{is_good, has_local, parts}
use Rattle.gx_stack.specs.Stubs.{stub_below}
use Rattle.gx_story.specs.Stories.{FlatStory}
use Rattle.quetzal.specs.Constants.{stub_len}

-- a word of RAM where the result goes to memory, a local of the frame where it goes to one
abbrev pub is_result_place : FlatStory → ℕ → Frame → Stub → Bool
is_result_place story size frame stub =
    if stub.kind == to_memory then nat_le story.header.ramstart stub.addr && nat_le (stub.addr + 4) size else
    if stub.kind == to_local then has_local frame stub.addr 4 else true

-- words alone, within the story's limit, of which the last are a stub that stores a result, on top of its frame
unfoldable pub is_stack : FlatStory → ℕ → List ℕ → Bool
is_stack story size stack =
    let stub = stub_below stack (length stack) in let below = take (length stack - stub_len) stack in
    length stack % 4 == 0 && nat_le (length stack) story.header.stack_size && nat_le stub_len (length stack) &&
    (nat_le stub.kind to_stack && is_good below stub.fp && is_result_place story size (parts below stub.fp) stub)
