use Rattle.std.proofs.Common.{◌≤◌, ◌<◌, ◌∙◌, ap, sym, length, arith}
use Rattle.glk_screen.proofs.Paragraphs.{on_err, on_err_by}
use Rattle.glk_screen.proofs.Places.{grows_found, grows_new}
use Rattle.glk_screen.proofs.texts.Screen.put.Goals as goal

pub returns-then-at-len-clause-memory : goal.returns-then-at-len-clause-memory
returns-then-at-len-clause-memory c =
    let texts = c.self.inside.texts.items in
    let long = sym c.deref.ensures.len ∙ ap length c.deref.ensures.value in
    let there : c.place-at.result < length texts = omega (arith, long) in
    rw (← c.self.view_is)
    (on_err_by c.push.result c.push.ensures.memory
    (grows_found texts c.args.win c.args.c c.place-at.result c.index_mut.result.now c.index_mut.result.now
    (rw c.deref.ensures.value at c.place-at.ensures.value) there c.index_mut.ensures.value))

pub returns-in_err-push-clause-memory : goal.returns-in_err-push-clause-memory
returns-in_err-push-clause-memory c =
    let texts = c.self.inside.texts.items in
    let long = sym c.deref.ensures.len ∙ ap length c.deref.ensures.value in
    let none : length texts ≤ c.place-at.result = omega (arith, long) in
    rw (← c.self.view_is)
    (on_err c.from_residual.result
    (grows_new texts c.args.win c.args.c c.place-at.result (rw c.deref.ensures.value at c.place-at.ensures.value) none))

pub returns-in_err-push-2-clause-memory : goal.returns-in_err-push-2-clause-memory
returns-in_err-push-2-clause-memory c =
    let texts = c.self.inside.texts.items in
    let long = sym c.deref.ensures.len ∙ ap length c.deref.ensures.value in
    let none : length texts ≤ c.place-at.result = omega (arith, long) in
    rw (← c.self.view_is)
    (on_err c.from_residual-in_err-push-2.result
    (grows_new texts c.args.win c.args.c c.place-at.result (rw c.deref.ensures.value at c.place-at.ensures.value) none))
