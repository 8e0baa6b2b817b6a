-- What the call needs is awaited of what was given, and it goes on as that says.
use Rattle.glk_dispatch.proofs.going.resume.Goals as goal

pub open_goes_on-requires-clause-there : goal.open_goes_on-requires-clause-there
open_goes_on-requires-clause-there g c =
    rw c.as_slice-in-Loaded.ensures.value (rw c.in-Loaded.is at c.requires).1

pub open_goes_on-requires-clause-mode : goal.open_goes_on-requires-clause-mode
open_goes_on-requires-clause-mode g c =
    rw c.as_slice-in-Loaded.ensures.value (rw c.in-Loaded.is at c.requires).2

pub open_goes_on-requires-clause-size : goal.open_goes_on-requires-clause-size
open_goes_on-requires-clause-size g c = (rw c.in-Loaded.is at c.requires).3

pub returns-in-Line-clause-value : goal.returns-in-Line-clause-value
returns-in-Line-clause-value g c = rw c.in-Line.is (rw c.as_slice.ensures at c.with_line.ensures.value)

pub returns-in-Loaded-clause-value : goal.returns-in-Loaded-clause-value
returns-in-Loaded-clause-value g c =
    rw c.in-Loaded.is (rw c.as_slice-in-Loaded.ensures.value at c.open_goes_on.ensures.value)

pub returns-in-Loaded-clause-fits : goal.returns-in-Loaded-clause-fits
returns-in-Loaded-clause-fits g c = c.open_goes_on.ensures.fits c.args.state.now.flat c.args.room

pub returns-in-Stored-clause-value : goal.returns-in-Stored-clause-value
returns-in-Stored-clause-value g c =
    rw c.in-Stored.is (rw c.as_slice-in-Stored.ensures.value at c.close.ensures.value)
