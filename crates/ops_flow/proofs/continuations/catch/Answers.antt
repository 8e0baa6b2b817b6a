-- a token that has no fault is stored in RAM; a return by the branch is one that was looked for before
use Rattle.std.proofs.Common.{◌≡◌, ◌+◌, true, nat_lt, refl, subst, sym, arith}
use Rattle.std.proofs.lemmas.Bool.Decides.{nat_tests}
use Rattle.gx_stack.specs.declared.frames.Frame.{Frame}
use Rattle.gx_stack.specs.Frames.{IsFrame}
use Rattle.gx_state.specs.Allowed.{IsWordInRam}
use Rattle.gx_operands.specs.Instructions.{L1}
use Rattle.gx_operands.specs.Plans.{instruction_of}
use Rattle.gx_state.specs.Flat.{frame_of}
use Rattle.ops_flow.proofs.Cuts.{lasting_place, catch_fails, catch_returns}
use Rattle.ops_flow.proofs.continuations.catch.Goals as goal

pub deliver-requires-clause-before : goal.deliver-requires-clause-before
deliver-requires-clause-before g c =
    let f = c.args.state.now.flat in
    subst (IsWordInRam f) (sym c.lasting-word.ensures)
    (lasting_place f c.args.plan.now.dest (c.args.plan.now.sp + 16) _ c.in_ok-can_catch.ensures)

pub returns-in_err-can_catch-clause-value : goal.returns-in_err-can_catch-clause-value
returns-in_err-can_catch-clause-value g c =
    let f = c.args.state.now.flat in
    let i = instruction_of c.args.plan.now in
    let frame : IsFrame f.stack.bytes (frame_of f) =
    record { good = c.stack.ensures.sound.framed.good c.requires.live; locals = refl; values = refl } in
    let fails = catch_fails f i c.in_err-can_catch.field-0.0 frame c.requires
    (grind arith) c.in_err-can_catch.ensures.0 in
    grind (arith, fails)

pub returns-in_err-ended-clause-value : goal.returns-in_err-ended-clause-value
returns-in_err-ended-clause-value g c =
    let f = c.args.state.now.flat in
    let i = instruction_of c.args.plan.now in
    let frame = subst (λ (p : Frame). IsFrame f.stack.bytes p) c.frame-frame.ensures.value c.frame-frame.ensures.good in
    let is = catch_returns f i frame c.requires (grind arith) c.in_ok-can_catch.ensures
    (omega (arith, c.requires.values)) (grind arith) in
    let few : nat_lt (L1 i) 2 ≡ true = grind (arith, nat_tests) in
    rw (is, few) (grind arith)

pub returns-then-offset-lt2-clause-value : goal.returns-then-offset-lt2-clause-value
returns-then-offset-lt2-clause-value g c =
    let f = c.args.state.now.flat in
    let i = instruction_of c.args.plan.now in
    let frame = subst (λ (p : Frame). IsFrame f.stack.bytes p) c.frame-frame.ensures.value c.frame-frame.ensures.good in
    let is = catch_returns f i frame c.requires (grind arith) c.in_ok-can_catch.ensures
    (omega (arith, c.requires.values)) (grind arith) in
    rw is (grind arith)
