-- the copy is laid, and its stub is answered
use Rattle.std.proofs.Common.{◌≡◌, ap, ◌∙◌, List, ℕ, length, arith}
use Rattle.gx_stack.specs.Stubs.{stub_below}
use Rattle.gx_state.specs.Flat.{HeldState}
use Rattle.gx_state.proofs.Backs.{went_back}
use Rattle.gx_state.proofs.FlatCopies.{laid_as}
use Rattle.gx_state.proofs.state.State.back_to.Goals as goal

pub returns-clause-ok : goal.returns-clause-ok
returns-clause-ok g c =
    let copy = g.C.Copied.copy c.args.copy.now in
    let stack : c.stack-stack.result.now ≡ copy.stack = c.stack-stack.ensures in
    let heap : c.in_ok-heap.heap.heap ≡ copy.heap = grind arith in
    let stub = c.on_top-stub.ensures ∙ ap (λ (s : List ℕ). stub_below s (length s)) stack in
    went_back c.args.self.now.flat c.lay.new.self.flat c.answer.new.self.flat copy c.on_top-stub.result
    c.in_ok-memory.memory c.requires stub c.in_ok-memory.ensures.value
    (c.lay.ensures.value ∙ laid_as c.args.self.now.flat copy c.on_top-stub.result c.in_ok-memory.memory
    c.stack-stack.result.now c.in_ok-heap.heap.heap stack heap) c.answer.ensures.other
    (λ one. ap (λ (h : HeldState). h.flat) (c.answer.ensures.memory one))
