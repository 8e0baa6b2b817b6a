use Rattle.glk_dispatch.proofs.Rows.{missing, found}
use Rattle.glk_dispatch.proofs.table.row_of.Goals as goal

pub returns-in_err-place-clause-row : goal.returns-in_err-place-clause-row
returns-in_err-place-clause-row c =
    let table = c.selectors-rows.ensures.table in
    let none = c.in_err-place.was in
    let search_found = c.find_row.ensures.row in
    rw c.from_residual.ensures (missing c.args.number _ _ table none search_found)

pub returns-clause-row : goal.returns-clause-row
returns-clause-row c =
    let table = c.selectors-rows.ensures.table in
    let some = c.in_ok-place.was in
    let within = c.in_ok-place.ensures.one.within in
    let search_found = c.find_row.ensures.row in
    found c.args.number c.in_ok-place.place _ _ _ table some within search_found
