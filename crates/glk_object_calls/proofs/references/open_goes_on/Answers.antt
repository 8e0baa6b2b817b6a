use Rattle.std.proofs.Common.{◌≡◌, ◌==◌, false, rules}
use Rattle.glk_streams.specs.Constants.{read_mode}
use Rattle.glk_world.specs.World.{arg}
use Rattle.glk_object_calls.proofs.Loading.{begins_empty}
use Rattle.glk_object_calls.proofs.references.open_goes_on.Goals as goal

pub returns-in_default-clause-value : goal.returns-in_default-clause-value
returns-in_default-clause-value c = search rules

pub returns-in-Found-clause-value : goal.returns-in-Found-clause-value
returns-in-Found-clause-value c = search rules

pub returns-in-Missing-clause-value : goal.returns-in-Missing-clause-value
returns-in-Missing-clause-value c =
    let other : (arg c.args.args.now 1 == read_mode) ≡ false = search rules in
    begins_empty _ _ _ _ _ _ _ c.in-Missing.is other c.new-empty.ensures c.open_with.ensures.value
