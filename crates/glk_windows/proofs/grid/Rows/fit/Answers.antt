use Rattle.std.proofs.lemmas.Result.{on_err_weaker}
use Rattle.glk_windows.proofs.Fitting.{short_fit}
use Rattle.glk_windows.proofs.grid.Rows.fit.Goals as goal

pub returns-clause-grows : goal.returns-clause-grows
returns-clause-grows c =
    rw (← c.self.view_is) (on_err_weaker c.fit_each.result (short_fit _ _ _ _ c.in_ok-fit_count.ensures.ok)
    c.fit_each.ensures.grows)
