use Rattle.std.proofs.Common.{rules}
use Rattle.glk_object_calls.specs.Gestalts.{gestalt_ext}
use Rattle.glk_object_calls.proofs.gestalts.gestalt_ext.Goals as goal

pub returns-in_err-can_lay-clause-value : goal.returns-in_err-can_lay-clause-value
unfolding gestalt_ext
returns-in_err-can_lay-clause-value g c = search rules

pub returns-clause-value : goal.returns-clause-value
unfolding gestalt_ext
returns-clause-value g c = search rules
