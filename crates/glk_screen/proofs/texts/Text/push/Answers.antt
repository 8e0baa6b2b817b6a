use Rattle.std.proofs.Common.{◌≡◌, ◌≢◌, ◌<◌, ◌+◌, ◌++◌, ◌∷◌, [], ap, List, ℕ, drop, arith}
use Rattle.glk_screen.specs.Texts.{FlatText, line_feeds}
use Rattle.glk_screen.proofs.Paragraphs.{put_plain, put_feed, put_full, count_full, short_full}
use Rattle.glk_screen.proofs.Paragraphs.{longer, few_with, on_err}
use Rattle.glk_screen.proofs.texts.Text.push.Goals as goal
use Rattle.glk_screen.proofs.texts.Text.push.Goals.{else-c-eq-LINE_FEED-via-else-c-eq-LINE_FEED}
use Rattle.glk_screen.proofs.texts.Text.push.Goals.{else-c-eq-LINE_FEED-via-then-c-eq-LINE_FEED+else-self-eq-MOST_PARAGRAPHS}

pub invariant_of-self : goal.invariant_of-self
invariant_of-self c =
    let text = drop c.self.inside.start c.self.inside.chars.items in
    let zs = drop c.turn_over-self-inside.result c.turn_over-self-inside.new.chars.items in
    let made = c.turn_over-self-inside.ensures.rest in
    let count : line_feeds zs ≡ line_feeds text = count_full text zs made (omega arith) in
    let short = short_full text zs made (omega arith) in
    record {
      start = c.turn_over-self-inside.ensures.within;
      counted = omega (arith, count);
      few = c.self.invariant.few;
      short = omega (arith, short);
    }

pub returns-then-self-eq-MOST_PARAGRAPHS-clause-ok : goal.returns-then-self-eq-MOST_PARAGRAPHS-clause-ok
returns-then-self-eq-MOST_PARAGRAPHS-clause-ok c =
    let text : List ℕ → FlatText = λ t. record { id = c.self.inside.id; text = t } in
    rw (← c.self.view_is, c.if-c-eq-LINE_FEED.true) (ap text (put_full _ _ c.turn_over-self-inside.ensures.rest
    (omega arith)))

pub returns-then-len-self-clause-memory : goal.returns-then-len-self-clause-memory
returns-then-len-self-clause-memory c =
    let text = drop c.self.inside.start c.self.inside.chars.items in
    let other : c.args.c ≡ 0x0A → c.self.inside.line_feeds + 1 ≢ 255 = elim c.else-c-eq-LINE_FEED.branch [
      | else-c-eq-LINE_FEED-via-then-c-eq-LINE_FEED+else-self-eq-MOST_PARAGRAPHS w ↦
          λ _. w.if-self-eq-MOST_PARAGRAPHS.false
      | else-c-eq-LINE_FEED-via-else-c-eq-LINE_FEED w ↦ λ is. absurd (w.if-c-eq-LINE_FEED.false is)
    ] in
    rw (← c.self.view_is)
    (longer text c.args.c (few_with text c.self.inside.line_feeds c.args.c c.self.invariant.counted
    c.self.invariant.few other))

pub returns-in_err-push-clause-memory : goal.returns-in_err-push-clause-memory
returns-in_err-push-clause-memory c =
    let text = drop c.self.inside.start c.self.inside.chars.items in
    let other : c.args.c ≡ 0x0A → c.self.inside.line_feeds + 1 ≢ 255 = elim c.else-c-eq-LINE_FEED.branch [
      | else-c-eq-LINE_FEED-via-then-c-eq-LINE_FEED+else-self-eq-MOST_PARAGRAPHS w ↦
          λ _. w.if-self-eq-MOST_PARAGRAPHS.false
      | else-c-eq-LINE_FEED-via-else-c-eq-LINE_FEED w ↦ λ is. absurd (w.if-c-eq-LINE_FEED.false is)
    ] in
    rw (← c.self.view_is)
    (on_err c.from_residual.result
    (longer text c.args.c (few_with text c.self.inside.line_feeds c.args.c c.self.invariant.counted
    c.self.invariant.few other)))

pub returns-then-c-eq-LINE_FEED-2-clause-ok : goal.returns-then-c-eq-LINE_FEED-2-clause-ok
returns-then-c-eq-LINE_FEED-2-clause-ok c =
    let text : List ℕ → FlatText = λ t. record { id = c.self.inside.id; text = t } in
    let other : c.args.c ≡ 0x0A → c.self.inside.line_feeds + 1 ≢ 255 = elim c.else-c-eq-LINE_FEED.branch [
      | else-c-eq-LINE_FEED-via-then-c-eq-LINE_FEED+else-self-eq-MOST_PARAGRAPHS w ↦
          λ _. w.if-self-eq-MOST_PARAGRAPHS.false
      | else-c-eq-LINE_FEED-via-else-c-eq-LINE_FEED w ↦ λ is. absurd (w.if-c-eq-LINE_FEED.false is)
    ] in
    let less = other c.if-c-eq-LINE_FEED-2.true in
    rw (← c.self.view_is) (ap text (put_feed _ _ _ _ c.in_ok-push.ensures.items c.self.invariant.start
    c.if-c-eq-LINE_FEED-2.true (omega (arith, less))))

pub returns-else-c-eq-LINE_FEED-2-clause-ok : goal.returns-else-c-eq-LINE_FEED-2-clause-ok
returns-else-c-eq-LINE_FEED-2-clause-ok c =
    let text : List ℕ → FlatText = λ t. record { id = c.self.inside.id; text = t } in
    rw (← c.self.view_is) (ap text (put_plain _ _ _ _ c.in_ok-push.ensures.items c.self.invariant.start
    c.if-c-eq-LINE_FEED-2.false (omega arith)))
