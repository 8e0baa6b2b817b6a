-- The search compares identifiers, and these rise.
use Rattle.std.proofs.Common.{rules, sym}
use Rattle.std.proofs.lemmas.List.Sorted.{answers_always}
use Rattle.glk_objects.proofs.Rising.{found_at, not_found}
use Rattle.glk_objects.proofs.place.Goals as goal

pub returns-in-Ok : goal.returns-in-Ok
returns-in-Ok g c =
    let facts = c.in-Ok.ensures in
    let by_id = facts.position g.T.Object.id_of (answers_always _ _ _ (λ f a r g called. search rules)) in
    sym (found_at g.T.Object.id_of c.args.objects.now c.args.id c.in-Ok.at c.requires facts.bound by_id)

pub returns-in-Err : goal.returns-in-Err
returns-in-Err g c =
    let facts = c.in-Err.ensures in
    let by_id = facts.position g.T.Object.id_of (answers_always _ _ _ (λ f a r g called. search rules)) in
    sym (not_found g.T.Object.id_of c.args.objects.now c.args.id c.in-Err.field-0 c.requires facts.bound by_id)
