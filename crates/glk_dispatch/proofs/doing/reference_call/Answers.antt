-- Each call does what its row says; what fits any state or any room fits those of the call.
use Rattle.std.proofs.Common.{◌≡◌, None, arith}
use Rattle.std.proofs.lemmas.Bool.Decides.{nat_tests}
use Rattle.std.proofs.lemmas.Grind.{common_steps}
use Rattle.glk_object_calls.specs.References.{fileref_destroy}
use Rattle.glk_dispatch.specs.ObjectCalls.{stream_calls}
use Rattle.glk_dispatch.specs.Ready.{reference_row}
use Rattle.glk_dispatch.proofs.Turning.{never_wants, no_call}
use Rattle.glk_dispatch.proofs.doing.reference_call.Goals as goal

pub returns-in-96-clause-fits : goal.returns-in-96-clause-fits
returns-in-96-clause-fits g c = c.fileref_create_temp.ensures.fits c.args.state.now.flat c.args.room

pub returns-in-97-clause-fits : goal.returns-in-97-clause-fits
returns-in-97-clause-fits g c = c.fileref_create_by_name.ensures.fits c.args.state.now.flat c.args.room

pub returns-in-99-clause-fits : goal.returns-in-99-clause-fits
returns-in-99-clause-fits g c = c.fileref_destroy.ensures.fits c.args.state.now.flat c.args.room

pub returns-in-104-clause-fits : goal.returns-in-104-clause-fits
returns-in-104-clause-fits g c = c.fileref_create_from_fileref.ensures.fits c.args.state.now.flat c.args.room

pub returns-in-101-clause-fits : goal.returns-in-101-clause-fits
returns-in-101-clause-fits g c = c.fileref_get_rock.ensures.fits c.args.state.now.flat c.args.room

pub returns-in-99-clause-value : goal.returns-in-99-clause-value
unfolding stream_calls
returns-in-99-clause-value g c = rw c.in-99.is
    (never_wants c.fileref_destroy.result c.args.world.now c.fileref_destroy.new.world
    (fileref_destroy c.args.world.now.scene c.args.args.now)
    c.fileref_destroy.ensures.value)

pub returns-in-96-clause-value : goal.returns-in-96-clause-value
unfolding stream_calls
returns-in-96-clause-value g c = rw c.in-96.is c.fileref_create_temp.ensures.value

pub returns-in-97-clause-value : goal.returns-in-97-clause-value
unfolding stream_calls
returns-in-97-clause-value g c = rw c.in-97.is c.fileref_create_by_name.ensures.value

pub returns-in-100-clause-value : goal.returns-in-100-clause-value
unfolding stream_calls
returns-in-100-clause-value g c = rw c.in-100.is c.fileref_iterate.ensures.value

pub returns-in-101-clause-value : goal.returns-in-101-clause-value
unfolding stream_calls
returns-in-101-clause-value g c = rw c.in-101.is c.fileref_get_rock.ensures.value

pub returns-in-104-clause-value : goal.returns-in-104-clause-value
unfolding stream_calls
returns-in-104-clause-value g c = rw c.in-104.is c.fileref_create_from_fileref.ensures.value

pub returns-in_default-clause-value : goal.returns-in_default-clause-value
unfolding stream_calls
returns-in_default-clause-value g c =
    let none : reference_row c.args.selector ≡ None = grind (arith, nat_tests, common_steps) in
    no_call (reference_row c.args.selector) c.args.world.now c.args.state.now.flat c.args.room c.args.args.now none

pub fileref_destroy-requires : goal.fileref_destroy-requires
unfolding stream_calls
fileref_destroy-requires g c = (rw c.in-99.is at c.requires).0
