use Rattle.std.proofs.Common.{rules}
use Rattle.glk_world.specs.Calls.{with_new_stream}
use Rattle.glk_object_calls.specs.References.{open_with}
use Rattle.glk_object_calls.proofs.references.open_with.Goals as goal

pub returns-then-next_id-gt-LAST_IDENTIFIER-clause-value : goal.returns-then-next_id-gt-LAST_IDENTIFIER-clause-value
unfolding open_with with_new_stream
returns-then-next_id-gt-LAST_IDENTIFIER-clause-value c = search rules

pub returns-in_err-file_name-clause-value : goal.returns-in_err-file_name-clause-value
unfolding open_with
returns-in_err-file_name-clause-value c = search rules

pub returns-in_err-id-clause-value : goal.returns-in_err-id-clause-value
unfolding open_with
returns-in_err-id-clause-value c = search rules

pub returns-clause-value : goal.returns-clause-value
unfolding open_with
returns-clause-value c = search rules
