-- The search compares each row's key, so it finds what `Rising` says of rows that rise.
use Rattle.std.proofs.Common.{rules}
use Rattle.std.proofs.lemmas.List.Sorted.{answers_always}
use Rattle.gx_rows.proofs.Rising.{one, first}
use Rattle.gx_rows.proofs.keys.find_row.Goals as goal

pub returns-clause-one : goal.returns-clause-one
returns-clause-one g c =
    let facts = c.binary_search_by_key.ensures in
    let by_key = facts.position g.T.Keyed.key_of (answers_always _ _ _ (λ f a r g called. search rules)) in
    rw c.ok.ensures.value (one g.T.Keyed.key_of c.args.rows.now c.args.key c.binary_search_by_key.result c.requires
    facts.bound by_key)

pub returns-clause-row : goal.returns-clause-row
returns-clause-row g c =
    let facts = c.binary_search_by_key.ensures in
    let by_key = facts.position g.T.Keyed.key_of (answers_always _ _ _ (λ f a r g called. search rules)) in
    rw c.ok.ensures.value (first g.T.Keyed.key_of c.args.rows.now c.args.key c.binary_search_by_key.result c.requires
    facts.bound by_key)
