use Rattle.std.proofs.Common.{◌≡◌, ◌+◌, ◌-◌, ◌%◌, ◌++◌, List, ℕ, length, take, ap, ◌∙◌, arith}
use Rattle.std.proofs.lemmas.List.{take-append-drop}
use Rattle.std.proofs.lemmas.Result.{on_ok_weaker}
use Rattle.gx_words.specs.Numbers.{spliced}
use Rattle.gx_pages.proofs.Splice.{spliced_more}
use Rattle.gx_pages.proofs.table.Table.write_edge.Goals as goal

pub returns-then-begins-clause-ok : goal.returns-then-begins-clause-ok
returns-then-begins-clause-ok g c =
    let xs = c.args.self.now in
    let at = c.args.at in
    let end = c.split_at.result.0.now in
    let start = c.split_at.result.1.now in
    let k = 256 - at % 256 in
    let there : xs ≡ spliced xs at end = c.begins.ensures c.if-begins.true xs at k c.rest_of_page.ensures in
    let whole : end ++ start ≡ c.args.bytes.now = ap (λ (u : List ℕ). u ++ start) c.split_at.ensures.front
    ∙ ap (λ (u : List ℕ). take k c.args.bytes.now ++ u) c.split_at.ensures.back
    ∙ take-append-drop k c.args.bytes.now in
    on_ok_weaker c.write.result
    (λ e. e ∙ ap (λ (u : List ℕ). spliced u (at + length end) start) there
    ∙ spliced_more xs end start at (at + length end) (λ i. at + length end)
    (omega (arith, c.requires.inside, c.split_at.ensures.front_len))
    ∙ ap (λ (u : List ℕ). spliced xs at u) whole)
    c.write.ensures.ok
