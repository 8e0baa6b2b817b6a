use Rattle.std.proofs.Common.{◌≡◌, drop}
use Rattle.glk_screen.specs.Texts.{behind_paragraph}
use Rattle.glk_screen.proofs.texts.behind_paragraph.Given as goal

abbrev pub invariant-loop-c : goal.invariant-loop-c
invariant-loop-c l = record {
  at : l.at ≡ l.c-index;
  rest : behind_paragraph (drop l.c-index l.text) ≡ behind_paragraph l.text;
}
