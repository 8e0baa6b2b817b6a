use Rattle.std.proofs.Common.{ℕ, List, [], ◌∷◌, ◌++◌, ◌+◌, ◌-◌, ap, sym, ◌∙◌, length, arith}
use Rattle.glk_screen.proofs.Paragraphs.{start_past, start_more, start_within, moved_and_set}
use Rattle.glk_screen.proofs.texts.turn_over.Goals as goal

pub index_mut-requires : goal.index_mut-requires
index_mut-requires c =
    let xs = c.args.chars.now.items in
    let rest = rw c.deref.ensures.value at c.behind_paragraph.ensures.rest in
    let more = start_more xs c.args.start c.behind_paragraph.result rest c.requires.some in
    let within =
    start_within xs c.args.start c.behind_paragraph.result c.requires.start
    (rw c.deref.ensures.value at c.behind_paragraph.ensures.within) in
    omega (arith, more, within)

pub returns-clause-rest : goal.returns-clause-rest
returns-clause-rest c =
    let xs = c.args.chars.now.items in
    let rest = rw c.deref.ensures.value at c.behind_paragraph.ensures.rest in
    let more = start_more xs c.args.start c.behind_paragraph.result rest c.requires.some in
    let within =
    start_within xs c.args.start c.behind_paragraph.result c.requires.start
    (rw c.deref.ensures.value at c.behind_paragraph.ensures.within) in
    let old = sym c.deref.ensures.len ∙ ap length c.deref.ensures.value in
    moved_and_set _ _ _ _ _ _ _ (omega (arith, more)) within old
    (ap (λ (n : ℕ). n - (c.args.start + c.behind_paragraph.result)) c.len-2.ensures) c.copy_within.ensures.items
    c.truncate.ensures.items
    ∙ ap (λ (r : List ℕ). r ++ 0x0A ∷ []) (start_past xs c.args.start c.behind_paragraph.result rest)
