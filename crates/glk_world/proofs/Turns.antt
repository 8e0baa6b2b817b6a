-- One turn of each recursion along a chain of echo streams.
use Rattle.std.proofs.Common.{◌∙◌, zero, suc, ◌≡◌, ◌<◌, ◌-◌, ℕ, true, false, ◌==◌, ◌||◌, append_assoc, refl, arith}
use Rattle.std.proofs.lemmas.Grind.{common_steps}
use Rattle.std.proofs.lemmas.List.{append-nil}
use Rattle.glk_streams.specs.declared.kinds.StreamKind.{StreamKind}
use Rattle.glk_streams.specs.declared.kinds.StreamKind.TheVariants as kinds
use Rattle.glk_streams.specs.declared.kinds.Stream.{Stream}
use Rattle.glk_streams.specs.Stream as one
use Rattle.glk_streams.specs.Streams as streams
use Rattle.glk_world.specs.World.{FlatWorld, Scene, after}
use Rattle.glk_world.specs.Putting.{window_of_stream, stream_put, stream_grows, echo_of, put_along, grows_along}
use Rattle.glk_world.specs.Putting.{end_along}
use Rattle.glk_world.specs.Putting.{leads_along}

-- only the file of a stream with no window grows
pub no_window_grows : (kind : StreamKind) (s : Stream) (c : ℕ) → one.lengthens kind s c ≡ true → one.window_in kind ≡ 0
no_window_grows (kinds.Window win) s c grows = absurd (cc)
no_window_grows (kinds.Memory at len wide) s c grows = absurd (cc)
no_window_grows (kinds.File name content form) s c grows = refl

pub ruleset windowless = (no_window_grows)

pub put_none : (w : FlatWorld) (s c : ℕ) → after w (put_along 0 w.scene s c) ≡ w
unfolding put_along
put_none w s c = grind (arith, common_steps, append-nil)

pub put_gone : (w : FlatWorld) (n s c : ℕ) → streams.has w.scene.streams s ≡ false
    → after w (put_along n w.scene s c) ≡ w
unfolding put_along
put_gone w zero s c h = grind (arith, common_steps, append-nil)
put_gone w (suc n) s c h = grind (arith, common_steps, append-nil)

pub put_more : (w : FlatWorld) (n s c : ℕ) → 0 < n → streams.has w.scene.streams s ≡ true
    → after (after w (stream_put w.scene s c)) (put_along (n - 1) (stream_put w.scene s c).0 (echo_of w.scene s) c)
    ≡ after w (put_along n w.scene s c)
unfolding put_along
put_more w zero s c h there = absurd (omega arith)
put_more w (suc n) s c h there = let less : suc n - 1 ≡ n = omega arith in rw (less, there, append_assoc) refl

pub grows_more : (w : Scene) (n s c : ℕ) → 0 < n → streams.has w.streams s ≡ true
    → grows_along n w s c ≡ (stream_grows w s c || grows_along (n - 1) (stream_put w s c).0 (echo_of w s) c)
unfolding grows_along
grows_more w zero s c h there = absurd (omega arith)
grows_more w (suc n) s c h there = let less : suc n - 1 ≡ n = omega arith in rw (less, there) refl

pub ruleset put_turns = (put_none, put_gone, put_more, grows_more)

pub end_none : (w : Scene) (s : ℕ) → end_along 0 w s ≡ s
unfolding end_along
end_none w s = refl

pub end_here : (w : Scene) (n s : ℕ) → streams.has w.streams (echo_of w s) ≡ false → end_along n w s ≡ s
unfolding end_along
end_here w zero s h = refl
end_here w (suc n) s h = rw h refl

pub end_more : (w : Scene) (n s : ℕ) → 0 < n → streams.has w.streams (echo_of w s) ≡ true
    → end_along n w s ≡ end_along (n - 1) w (echo_of w s)
unfolding end_along
end_more w zero s h some = absurd (omega arith)
end_more w (suc n) s h some = let less : suc n - 1 ≡ n = omega arith in rw (less, some) refl

pub ruleset end_turns = (end_none, end_here, end_more)

pub leads_none : (w : Scene) (s win : ℕ) → leads_along 0 w s win ≡ false
unfolding leads_along
leads_none w s win = refl

pub leads_gone : (w : Scene) (n s win : ℕ) → streams.has w.streams s ≡ false → leads_along n w s win ≡ false
unfolding leads_along
leads_gone w zero s win h = refl
leads_gone w (suc n) s win h = rw h refl

pub leads_more : (w : Scene) (n s win : ℕ) → 0 < n → streams.has w.streams s ≡ true
    → leads_along n w s win ≡ (window_of_stream w s == win || leads_along (n - 1) w (echo_of w s) win)
unfolding leads_along
leads_more w zero s win h there = absurd (omega arith)
leads_more w (suc n) s win h there = let less : suc n - 1 ≡ n = omega arith in rw (less, there) refl

pub leads_on : (w : Scene) (n s win : ℕ) → 0 < n → streams.has w.streams s ≡ true
    → (window_of_stream w s == win) ≡ false
    → leads_along n w s win ≡ leads_along (n - 1) w (echo_of w s) win
leads_on w n s win some there other = leads_more w n s win some there ∙ rw other refl

pub ruleset leads_turns = (leads_none, leads_gone, leads_more)
