-- what is pending is the instruction that asked for the call
use Rattle.std.proofs.Common.{◌≡◌, ◌≤◌, ◌-◌, ◌*◌, ap, ◌∙◌, arith, Ok}
use Rattle.gx_stack.specs.Flat.{FlatStack}
use Rattle.gx_state.specs.Stores.{store_fault}
use Rattle.gx_operands.specs.Plans.{instruction_of}
use Rattle.gx_machine.proofs.Answers.{glk_pends, store_fits}
use Rattle.gx_machine.proofs.rows.glk.Goals as goal

pub returns-clause-pends : goal.returns-clause-pends
returns-clause-pends g c =
    let f = c.args.state.now.flat in
    let sp = c.args.plan.now.sp - 4 * c.load-count.result in
    let stores : store_fault f 4 c.args.plan.now.dest sp ≡ Ok tt = c.in_ok-can_store.ensures in
    let limit : c.limit-limit.result ≡ f.stack.limit =
    c.limit-limit.ensures.value ∙ ap (λ (s : FlatStack). s.limit) c.stack.ensures.value in
    let below : sp ≤ f.stack.limit = omega (arith, c.in_ok-args.ensures.below.there, c.stack.ensures.sound.height) in
    let fits = (rw limit at c.room_above-room.ensures.fits) (store_fits f c.args.plan.now.dest sp stores below) in
    glk_pends f (instruction_of c.args.plan.now) c.load-count.result c.room_above-room.result c.requires.running
    c.requires.decoded c.requires.class c.load-count.ensures c.in_ok-args.ensures.below stores fits
