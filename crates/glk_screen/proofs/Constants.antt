-- The constants of the code are the definitions' numbers.
use Rattle.std.proofs.Common.{◌≡◌, refl}
use Rattle.glk_text.specs.Characters.{question_mark}
use Rattle.glk_screen.specs.declared.texts.TheConstants as texts
use Rattle.glk_screen.specs.declared.drawing.TheConstants as drawing
use Rattle.glk_screen.specs.Constants.{most_paragraphs}

pub MOST_PARAGRAPHS_is : texts.MOST_PARAGRAPHS ≡ most_paragraphs
MOST_PARAGRAPHS_is = refl

pub QUESTION_MARK_is : drawing.QUESTION_MARK ≡ question_mark
QUESTION_MARK_is = refl
