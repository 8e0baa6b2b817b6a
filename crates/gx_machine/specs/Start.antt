-- A machine that starts a story.
use Rattle.std.specs.Prelude.{ℕ, [], None, Result, Ok}
use Rattle.gx_words.specs.declared.faults.Fault.{Fault}
use Rattle.gx_words.specs.Results.{◌>>=◌}
use Rattle.gx_story.specs.Stories.{FlatStory}
use Rattle.gx_state.specs.Entry.{started}
use Rattle.gx_machine.specs.Machine.{Whole}

-- the machine before its first step, which keeps no copy, or the fault of entering the start function
unfoldable pub first_machine : FlatStory → ℕ → Result Whole Fault
first_machine story depth = started story >>= λ f.
    Ok (record { machine = record { flat = f; undo = record { copies = []; depth = depth } }; asking = None })
