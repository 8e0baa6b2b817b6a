-- what is pending is the character of an item
use Rattle.std.proofs.Common.{◌≤◌, refl, subst}
use Rattle.gx_state.specs.declared.modes.Dest.TheVariants.{Nowhere}
use Rattle.gx_state.specs.declared.modes.Mode.{Mode}
use Rattle.gx_state.specs.Flat.{sp_of, frame_of}
use Rattle.gx_machine.specs.declared.askings.Asking.TheVariants as asking
use Rattle.gx_machine.specs.Views.{IsPendingAnswer}
use Rattle.gx_machine.proofs.Answers.{item_pends, printing_of}
use Rattle.gx_machine.proofs.rows.next_item.Goals as goal

pub returns-clause-pends : goal.returns-clause-pends
returns-clause-pends g c =
    let f = c.args.state.now.flat in
    let sound = c.stack.ensures.sound in
    let values : (frame_of f).values ≤ sp_of f = (sound.framed.good c.requires.live).whole in
    rw (c.put_pending.ensures, c.size-sp.ensures.value, c.stack.ensures.value, c.pc.ensures)
    (subst (λ (m : Mode). IsPendingAnswer f
    (record { asking = asking.Put; sp = sp_of f; dest = Nowhere; next = f.pc; mode = m })) c.in_ok-c.ensures.mode
    (item_pends f f refl (printing_of f f.mode _ c.in_ok-c.ensures.value) c.requires.live values sound.aligned
    sound.height))
