-- The command by the rows of the matches.
use Rattle.std.proofs.Common.{refl, ap, sym, ◌∙◌, codes, ◌≡◌, true, false, List, None}
use Rattle.clap.specs.Walk.{is_empty}
use Rattle.clap.specs.Words.{Row, Text, first_of, first_value, rows_of}
use Rattle.clap.specs.declared.parser.matches.Found.{Found}
use Rattle.clap.proofs.WalkLemmas.{first_value-rows}
use Rattle.gx_play.specs.Commands.{faults_of, matched_in, command_of, command_in}

-- a text is found under its name in both
texts_matched : (f : Found) → command_in (first_value f) ≡ command_in (λ name. first_of name (rows_of f))
texts_matched f = rw (
  first_value-rows f (codes "STORY"),
  first_value-rows f (codes "steps"),
  first_value-rows f (codes "columns"),
  first_value-rows f (codes "rows"),
  first_value-rows f (codes "undo"),
  first_value-rows f (codes "seed"),
  first_value-rows f (codes "back"),
  first_value-rows f (codes "echo"),
  first_value-rows f (codes "screen"),
  first_value-rows f (codes "plain"),
  first_value-rows f (codes "wrap"),
  first_value-rows f (codes "job"),
) refl

command_read : (words : List Text) → is_empty (faults_of words) ≡ true
    → command_of words ≡ command_in (λ name. first_of name (matched_in words))
unfolding command_of
command_read words quiet = rw quiet refl

pub command_is : (words : List Text) (f : Found) → is_empty (faults_of words) ≡ true → rows_of f ≡ matched_in words
    → command_of words ≡ command_in (first_value f)
command_is words f quiet same =
    command_read words quiet ∙ ap (λ (rows : List Row). command_in (λ name. first_of name rows)) (sym same)
    ∙ sym (texts_matched f)

pub no_command : (words : List Text) → is_empty (faults_of words) ≡ false → command_of words ≡ None
unfolding command_of
no_command words loud = rw loud refl
