use Rattle.std.proofs.Common.{map, sym, ◌∙◌}
use Rattle.clap.specs.Words.{found_of}
use Rattle.gx_play.proofs.Matched.{command_is}
use Rattle.gx_play.proofs.command.read_command.Goals as goal

pub returns-in-Some-clause-command : goal.returns-in-Some-clause-command
returns-in-Some-clause-command c =
    let words = map (λ word. word.now) c.args.words.now in
    let m = c.in_ok-matches.matches in
    command_is words (found_of m) c.in_ok-matches.ensures.0 c.in_ok-matches.ensures.1 ∙ sym c.in-Some.ensures.command

pub returns-clause-command : goal.returns-clause-command
returns-clause-command c =
    let words = map (λ word. word.now) c.args.words.now in
    let m = c.in_ok-matches.matches in
    command_is words (found_of m) c.in_ok-matches.ensures.0 c.in_ok-matches.ensures.1 ∙ sym c.in-None.ensures.command
