use Rattle.std.proofs.Common.{◌∙◌, arith, length-drop}
use Rattle.std.proofs.lemmas.List.{take_rest}
use Rattle.glk_screen.proofs.Cuts.{row_more}
use Rattle.glk_screen.proofs.wrapping.wrap.Goals as goal

pub loop-at-preserved : goal.loop-at-preserved
loop-at-preserved c =
    let row = rw take_rest at c.first_row-end.ensures.value in
    let next = rw (take_rest, length-drop) at c.first_row-end.ensures.next in
    record {
      rows = rw (c.in_ok-push-2.ensures.ok, c.in_ok-push.ensures.ok)
          (row_more c.args.width c.args.text.now c.loop-at.rows c.loop-at.at c.first_row-end.result c.requires.width
          c.loop-at-test.true row ∙ c.loop-at.invariant.rows);
      within = omega (arith, next);
    }
