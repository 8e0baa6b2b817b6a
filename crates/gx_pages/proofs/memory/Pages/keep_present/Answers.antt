use Rattle.std.proofs.Common.{◌≡◌, List, ℕ, length, take, drop, ◌-◌, ◌∙◌, ap, refl, arith}
use Rattle.std.proofs.lemmas.Result.{on_ok_weaker}
use Rattle.gx_words.specs.Numbers.{spliced}
use Rattle.gx_pages.proofs.PutBack.{put_back_from}
use Rattle.gx_pages.proofs.Splice.{present_put}
use Rattle.gx_pages.proofs.memory.Pages.keep_present.Goals as goal

pub returns-then-end-from-clause-value : goal.returns-then-end-from-clause-value
returns-then-end-from-clause-value g c =
    put_back_from c.args.self.now c.args.table.now c.args.table.now c.args.skip.0 c.args.skip.1 refl
    (λ a l u h. absurd (omega arith))
    (λ a h. refl)
    (λ a h. refl)

pub returns-clause-value : goal.returns-clause-value
returns-clause-value g c =
    let from = c.args.skip.0 in
    let there = c.max-there.result in
    let end = c.min-end.result in
    let size : length c.self.inside.table ≡ length c.args.self.now = ap (λ (m : List ℕ). length m) c.self.view_is in
    on_ok_weaker c.clear.result
    (λ e. present_put c.args.self.now c.args.table.now c.take_over.new.table c.clear.new.self from there end
    c.args.skip.1
    (omega arith) (omega arith) (omega arith) (omega arith) (grind arith) (grind arith) (grind arith)
    (c.in_ok-take_over.ensures.ok ∙ ap (λ (m : List ℕ).
    spliced c.args.table.now from (take (there - from) (drop from m))) c.self.view_is)
    e)
    c.clear.ensures.ok
