-- The command is the one of the definition.
use Rattle.std.proofs.Common.{ap₂, ◌∙◌}
use Rattle.std.proofs.lemmas.Result.{IfOk-weaker}
use Rattle.clap.specs.Words.{with_rule}
use Rattle.gx_play.specs.Commands.{player}
use Rattle.gx_play.proofs.words.player.Goals as goal

pub returns : goal.returns
unfolding player
returns c =
    let one = c.in_ok-with_echo.ensures.shape c.flag_arg-echo.ensures.global
    ∙ ap₂ with_rule c.in_ok-with_numbers.ensures c.flag_arg-echo.ensures.rule in
    let two = c.in_ok-with_screen.ensures.shape c.flag_arg-screen.ensures.global
    ∙ ap₂ with_rule one c.flag_arg-screen.ensures.rule in
    let three = c.in_ok-with_plain.ensures.shape c.flag_arg-plain.ensures.global
    ∙ ap₂ with_rule two c.flag_arg-plain.ensures.rule in
    let four = c.in_ok-with_wrap.ensures.shape c.flag_arg-wrap.ensures.global
    ∙ ap₂ with_rule three c.flag_arg-wrap.ensures.rule in
    IfOk-weaker c.arg-5.result _ _
    (λ m h. h.shape c.text_arg-job.ensures.global ∙ ap₂ with_rule four c.text_arg-job.ensures.rule) c.arg-5.ensures
