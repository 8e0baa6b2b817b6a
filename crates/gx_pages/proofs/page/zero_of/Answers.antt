use Rattle.std.proofs.Common.{◌≡◌, ℕ, List, length, replicate, ap, refl, ◌∙◌}
use Rattle.std.proofs.lemmas.List.{length-replicate}
use Rattle.gx_words.specs.Numbers.{spliced}
use Rattle.gx_pages.proofs.Splice.{spliced_whole}
use Rattle.gx_pages.proofs.page.zero_of.Goals as goal

pub returns-clause-value : goal.returns-clause-value
returns-clause-value g c =
    let old = c.in_ok-zero.zero.value in
    let whole : length old ≡ 256 = ap (λ (v : List ℕ). length v) c.in_ok-zero.ensures.cases ∙ c.requires in
    c.in_ok-write_to.ensures.ok
    ∙ ap (λ (v : List ℕ). spliced old 0 v) c.zeros.ensures
    ∙ spliced_whole old (replicate 256 0) 0 (rw whole (length-replicate {A = ℕ} 256 0)) refl
