use Rattle.std.proofs.Common.{sym, ◌∙◌, ap, arith}
use Rattle.std.proofs.lemmas.List.{take_all}
use Rattle.glk_screen.specs.Wrapping.{last_blank}
use Rattle.glk_screen.proofs.Prefixes.{blank_below}
use Rattle.glk_screen.proofs.wrapper.last_blank.Goals as goal

pub returns-clause-within : goal.returns-clause-within
returns-clause-within c = λ at is.
    let all = take_all c.loop-c.c-index c.args.chars.now (omega arith) in
    blank_below c.args.chars.now at (ap last_blank (sym all) ∙ sym c.loop-c.invariant.blank ∙ is)
