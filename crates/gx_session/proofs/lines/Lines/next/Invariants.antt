use Rattle.std.proofs.Common.{◌≡◌, ◌+◌, ◌-◌, ◌*◌, ◌≤◌, ◌<◌, ℕ, length, false, get_or, if◌then◌else◌}
use Rattle.gx_session.specs.Constants.{longest_line, piece}
use Rattle.gx_session.specs.Input.{is_line_feed}
use Rattle.gx_session.specs.Reading.{Fed, HoldsLineFeed}
use Rattle.gx_session.proofs.Counting.{IsWell}
use Rattle.gx_session.proofs.Feeding.{ReadOn}
use Rattle.gx_session.proofs.lines.Lines.next.Given as goal

abbrev pub invariant-loop-self : goal.invariant-loop-self
invariant-loop-self g l = record {
  within : l.searched ≤ length l.self.held;
  before : (k : ℕ) → k < l.searched → is_line_feed (get_or l.self.held k 0) ≡ false;
  few : length l.initial.self.held < piece → length l.self.held ≤ l.searched + piece;
  fed : Fed g.S.Source.called g.S.Source.seen l.initial.self l.self l.initial.source l.source
      (ReadOn l.initial.self l.self (g.S.Source.seen l.initial.source) (g.S.Source.seen l.source));
  whole : HoldsLineFeed l.initial.self.held → (g.S.Source.seen l.source ≡ g.S.Source.seen l.initial.source)
      × (l.self ≡ l.initial.self);
  count : IsWell (g.S.Source.seen l.initial.source).calls (g.S.Source.seen l.source).calls;
  tells : (g.S.Source.seen l.source).tells ≡ (g.S.Source.seen l.initial.source).tells;
}

abbrev pub decreases-loop-self : goal.decreases-loop-self
decreases-loop-self g l = 2 * (longest_line - length l.self.held) + (if l.self.ended then 0 else 1)
