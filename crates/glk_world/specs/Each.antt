-- Characters that come one after another to the stream of a text buffer window alone. What contracts say.
use Rattle.std.specs.Prelude.{◌≡◌, ℕ, ◌≤◌, List, [], ◌∷◌, length, true, false}
use Rattle.glk_world.specs.World.{FlatWorld, after, is_wrapping}
use Rattle.glk_world.specs.Putting.{is_plain_text, put_of, places_of}

-- a character that comes to such a stream: no place in memory is written, the current stream stays, and where text
-- isn't wrapped it gets longer by four bytes at most
pub record ShowsOne (w : FlatWorld) (stream c : ℕ) : Type 0 where
  pub plain : is_plain_text w.scene stream ≡ true
  pub places : (count : ℕ) → (places_of w.scene stream count).count ≡ 0
  pub current : (put_of w.scene stream c).0.current ≡ w.scene.current
  pub few : is_wrapping w.scene ≡ false → length (put_of w.scene stream c).1 ≤ 4
  pub unwrapped : is_wrapping w.scene ≡ false → is_wrapping (put_of w.scene stream c).0 ≡ false

-- so it is of each of these characters, in the world that those before it leave
abbrev pub ShowsEach : FlatWorld → ℕ → List ℕ → Type 0
ShowsEach w stream [] = Unit {0}
ShowsEach w stream (c ∷ cs) = ShowsOne w stream c × ShowsEach (after w (put_of w.scene stream c)) stream cs
