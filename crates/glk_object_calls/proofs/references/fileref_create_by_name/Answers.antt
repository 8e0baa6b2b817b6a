use Rattle.std.proofs.Common.{rules}
use Rattle.glk_world.specs.Calls.{with_reference}
use Rattle.glk_object_calls.specs.References.{fileref_create_by_name}
use Rattle.glk_object_calls.proofs.references.fileref_create_by_name.Goals as goal

pub returns-in_err-count-clause-value : goal.returns-in_err-count-clause-value
unfolding fileref_create_by_name
returns-in_err-count-clause-value g c = search rules

pub returns-in_err-text-clause-value : goal.returns-in_err-text-clause-value
unfolding fileref_create_by_name
returns-in_err-text-clause-value g c = search rules

pub returns-then-next_id-gt-LAST_IDENTIFIER-clause-value : goal.returns-then-next_id-gt-LAST_IDENTIFIER-clause-value
unfolding fileref_create_by_name with_reference
returns-then-next_id-gt-LAST_IDENTIFIER-clause-value g c = search rules

pub returns-clause-value : goal.returns-clause-value
unfolding fileref_create_by_name
returns-clause-value g c = search rules
