-- The loop adds RAM to the page, and the whole is the story.
use Rattle.std.proofs.Common.{◌≡◌, ℕ, List, ap, sym, subst, ◌∙◌}
use Rattle.gx_words.specs.Numbers.{bytes_of_word}
use Rattle.gx_work.specs.Work.{work_story}
use Rattle.gx_work.specs.Laws.{HasHeader}
use Rattle.gx_work.proofs.Stories.{begun, grown, done, checked, headed, length-work}
use Rattle.gx_work.proofs.make_story.Goals as goal

pub loop-index-init : goal.loop-index-init
loop-index-init c = begun _ _ _ _ _ _ _ c.first_page-page.ensures c.put_number.ensures c.in_ok-story.ensures.value

pub loop-index-preserved : goal.loop-index-preserved
loop-index-preserved c = grown _ _ _ _ _ _ _ c.loop-index.invariant
    (c.word_bytes.ensures.bytes ∙ ap bytes_of_word c.work_word.ensures) c.in_ok-extend_from_slice.ensures.ok

whole : (c : goal.After-loop-index) → c.loop-index.story ≡ work_story c.args.number
whole c = done _ _ _ _ _ _ c.first_page-page.ensures c.sum_of_words.ensures c.ram_sum.ensures c.loop-index.invariant
    c.loop-index-test.false c.loop-index.auto.index-end

pub returns-clause-story : goal.returns-clause-story
returns-clause-story c = whole c

pub returns-clause-size : goal.returns-clause-size
returns-clause-size c = rw (whole c) (length-work c.args.number)

pub returns-clause-header : goal.returns-clause-header
returns-clause-header c = let P : List ℕ → Type 0 = HasHeader in subst P (sym (whole c)) (headed c.args.number)

pub returns-clause-checksum : goal.returns-clause-checksum
returns-clause-checksum c = rw (whole c) (checked c.args.number)
