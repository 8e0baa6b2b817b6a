use Rattle.glk_screen.proofs.Turns.{text_rows_are}
use Rattle.glk_screen.proofs.drawing.text_rows.Goals as goal

pub returns : goal.returns
returns c =
    let drawn = rw c.new-rows.ensures.items at c.in_ok-push_rows.ensures in
    let skipped = rw c.len.ensures at c.saturating_sub-skipped.ensures in
    text_rows_are c.args.text.now _ _ c.args.area _ _ c.if-area-eq0.false
    c.in_ok-marks.ensures c.as_slice.ensures skipped drawn
