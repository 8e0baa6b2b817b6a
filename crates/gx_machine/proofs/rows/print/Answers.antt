-- what is pending is the character of an item
use Rattle.std.proofs.Common.{◌≤◌}
use Rattle.gx_state.specs.Flat.{sp_of, frame_of}
use Rattle.gx_machine.proofs.Answers.{item_pends}
use Rattle.gx_machine.proofs.rows.print.Goals as goal

pub returns-in-Put-clause-pends : goal.returns-in-Put-clause-pends
returns-in-Put-clause-pends g c =
    let f = c.args.state.now.flat in
    let sound = c.stack.ensures.sound in
    let values : (frame_of f).values ≤ sp_of f = (sound.framed.good c.requires.live).whole in
    rw (
      c.put_pending.ensures,
      c.size-sp.ensures.value,
      c.stack.ensures.value,
      c.pc-pc.ensures,
      c.in_ok-effect.ensures.mode,
    )
    (item_pends f _ (rw c.in-Put.is at c.in_ok-effect.ensures.asks) c.requires.printing c.requires.live values
    sound.aligned sound.height)
