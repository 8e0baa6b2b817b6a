use Rattle.std.proofs.Common.{◌≡◌, ◌+◌, ◌-◌, ◌*◌}
use Rattle.std.specs.List.{find}
use Rattle.gx_story.specs.Blorbs.{entries_from, is_story}
use Rattle.gx_story.proofs.blorbs.first_story.Given as goal

abbrev pub invariant-loop-number : goal.invariant-loop-number
invariant-loop-number l =
    find is_story (entries_from (l.count - l.number) l.index (4 + 12 * l.number))
    ≡ find is_story (entries_from l.count l.index 4)
