-- what was read, and behind it what is left to read, gives what all words give
use Rattle.std.proofs.Common.{◌≡◌, ◌≤◌, ◌<◌, ◌+◌, ◌-◌, ◌*◌, length}
use Rattle.gx_words.specs.Constants.{ceiling}
use Rattle.gx_state.specs.Entry.{behind}
use Rattle.ops_print.specs.Items.{words_in}
use Rattle.ops_print.proofs.arguments.words_in.Given as goal

abbrev pub invariant-loop-i : goal.invariant-loop-i
invariant-loop-i g l = record {
  same : behind l.words.items (words_in l.memory (l.at + 4 * l.i) (l.count - l.i)) ≡ words_in l.memory l.at l.count;
  room : length l.words.items ≤ l.i;
  there : 0 < l.i → l.at + 4 * l.i ≤ ceiling;
}
