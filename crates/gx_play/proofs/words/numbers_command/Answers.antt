-- The options that take a number are those of the definition.
use Rattle.std.proofs.Common.{ap₂, ◌∙◌}
use Rattle.std.proofs.lemmas.Result.{IfOk-weaker}
use Rattle.clap.specs.Words.{with_rule}
use Rattle.gx_play.proofs.words.numbers_command.Goals as goal

pub returns : goal.returns
returns c =
    let one = c.in_ok-with_story.ensures.shape c.story_arg-story.ensures.global
    ∙ ap₂ with_rule c.new.ensures.app c.story_arg-story.ensures.rule in
    let two = c.in_ok-with_steps.ensures.shape c.text_arg-steps.ensures.global
    ∙ ap₂ with_rule one c.text_arg-steps.ensures.rule in
    let three = c.in_ok-with_columns.ensures.shape c.text_arg-columns.ensures.global
    ∙ ap₂ with_rule two c.text_arg-columns.ensures.rule in
    let four = c.in_ok-with_rows.ensures.shape c.text_arg-rows.ensures.global
    ∙ ap₂ with_rule three c.text_arg-rows.ensures.rule in
    let five = c.in_ok-with_undo.ensures.shape c.text_arg-undo.ensures.global
    ∙ ap₂ with_rule four c.text_arg-undo.ensures.rule in
    let six = c.in_ok-with_seed.ensures.shape c.free_arg-seed.ensures.global
    ∙ ap₂ with_rule five c.free_arg-seed.ensures.rule in
    IfOk-weaker c.arg-7.result _ _
    (λ m h. h.shape c.text_arg-back.ensures.global ∙ ap₂ with_rule six c.text_arg-back.ensures.rule) c.arg-7.ensures
