-- The search compares identifiers, and these rise.
use Rattle.std.proofs.Common.{rules}
use Rattle.std.proofs.lemmas.List.Sorted.{answers_always}
use Rattle.glk_objects.proofs.Rising.{split_found, split_missed}
use Rattle.glk_objects.proofs.place_above.Goals as goal

pub returns-in-Ok : goal.returns-in-Ok
returns-in-Ok g c =
    let facts = c.in-Ok.ensures in
    let by_id = facts.position g.T.Object.id_of (answers_always _ _ _ (λ f a r g called. search rules)) in
    split_found g.T.Object.id_of c.args.objects.now c.args.id c.in-Ok.at c.requires facts.bound by_id

pub returns-in-Err : goal.returns-in-Err
returns-in-Err g c =
    let facts = c.in-Err.ensures in
    let by_id = facts.position g.T.Object.id_of (answers_always _ _ _ (λ f a r g called. search rules)) in
    split_missed g.T.Object.id_of c.args.objects.now c.args.id c.in-Err.at c.requires facts.bound by_id
