use Rattle.std.proofs.Common.{◌≡◌, ◌+◌, drop}
use Rattle.glk_objects.specs.Objects.{object_place}
use Rattle.glk_objects.proofs.first_place.Given as goal

abbrev pub invariant-loop-at : goal.invariant-loop-at
invariant-loop-at g l = l.at + object_place g.T.Object.id_of (drop l.at l.objects) l.id
    ≡ object_place g.T.Object.id_of l.objects l.id
