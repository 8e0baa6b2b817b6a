-- Characters that come one after another to a text buffer window alone.
use Rattle.std.proofs.Common.{◌≡◌, ◌≤◌, ℕ, true, false, if◌then◌else◌, List, [], ◌∷◌, length, refl, ap}
use Rattle.std.proofs.Common.{subst, sym, ◌∙◌, arith}
use Rattle.std.specs.Char.{encode_utf8}
use Rattle.std.proofs.lemmas.Str.{length-encode, len_utf8_bounds}
use Rattle.glk_objects.specs.Objects.{IsBelowAll}
use Rattle.glk_text.specs.Characters.{shown}
use Rattle.glk_streams.specs.Stream as one
use Rattle.glk_streams.specs.Streams as streams
use Rattle.glk_screen.specs.Texts.{screen_put}
use Rattle.glk_world.specs.World.{Scene, FlatWorld, Said, after, silent, is_composed, is_wrapping}
use Rattle.glk_world.specs.Putting.{flowed, said_char, buffer_put, counted, is_plain_text, window_of_stream, put_of}
use Rattle.glk_world.specs.Each.{ShowsOne, ShowsEach}
use Rattle.glk_objects.proofs.Found.{below_with}
use Rattle.glk_world.proofs.Ranks.{buffer_put_streams}
use Rattle.glk_world.proofs.Alone.{plain_put, text_places, plain_stays}

few_bytes : (c : ℕ) → length (encode_utf8 c) ≤ 4
few_bytes c = let bounds = len_utf8_bounds c in let is = length-encode c in omega (arith, is, bounds.1)

module _ (w : Scene) (win d : ℕ) where
  buffer_current : (buffer_put w win d).0.current ≡ w.current
  unfolding buffer_put
  buffer_current = elim (is_composed w) as
      (λ b. (if b then silent (record w { screen = screen_put w.screen win d }) else said_char w d).0.current
      ≡ w.current) [ true ↦ refl | false ↦ refl ]

  buffer_wraps : is_wrapping (buffer_put w win d).0 ≡ is_wrapping w
  unfolding buffer_put
  buffer_wraps = elim (is_composed w) as
      (λ b. is_wrapping (if b then silent (record w { screen = screen_put w.screen win d }) else said_char w d).0
      ≡ is_wrapping w) [ true ↦ refl | false ↦ refl ]

  flowed_few : is_wrapping w ≡ false → length (flowed w d).1 ≤ 4
  unfolding flowed
  flowed_few free = rw free (few_bytes d)

  buffer_few : is_wrapping w ≡ false → length (buffer_put w win d).1 ≤ 4
  unfolding buffer_put
  buffer_few free = elim (is_composed w) as
      (λ b. length (if b then silent (record w { screen = screen_put w.screen win d }) else said_char w d).1 ≤ 4) [
        | true ↦ omega arith
        | false ↦ flowed_few free
      ]

module _ (w : FlatWorld) (s c : ℕ) (first : IsBelowAll streams.id_of w.scene.streams 0)
    (plain : is_plain_text w.scene s ≡ true) where
  abbrev made : Said
  made = buffer_put (counted w.scene s c) (window_of_stream w.scene s) (shown c)

  shows_one : ShowsOne w s c
  shows_one = record {
    plain = plain;
    places = λ count. text_places w.scene s count first plain;
    current = ap (λ (r : Said). r.0.current) (plain_put w.scene s c first plain)
        ∙ buffer_current (counted w.scene s c) (window_of_stream w.scene s) (shown c);
    few = λ free. subst (λ (r : Said). length r.1 ≤ 4) (sym (plain_put w.scene s c first plain))
        (buffer_few (counted w.scene s c) (window_of_stream w.scene s) (shown c) free);
    unwrapped = λ free. ap (λ (r : Said). is_wrapping r.0) (plain_put w.scene s c first plain)
        ∙ buffer_wraps (counted w.scene s c) (window_of_stream w.scene s) (shown c) ∙ free;
  }

  plain_still : is_plain_text (put_of w.scene s c).0 s ≡ true
  plain_still = subst (λ (r : Said). is_plain_text r.0 s ≡ true) (sym (plain_put w.scene s c first plain))
      (plain_stays w.scene s c (window_of_stream w.scene s) (shown c) plain)

  first_still : IsBelowAll streams.id_of (put_of w.scene s c).0.streams 0
  first_still =
      let new = one.after_put (streams.stream w.scene.streams s) c in
      subst (λ (r : Said). IsBelowAll streams.id_of r.0.streams 0) (sym (plain_put w.scene s c first plain))
      (subst (λ xs. IsBelowAll streams.id_of xs 0)
      (sym (buffer_put_streams (counted w.scene s c) (window_of_stream w.scene s) (shown c)))
      (below_with streams.id_of streams.no_stream w.scene.streams new 0 first))

pub shows_each : (w : FlatWorld) (s : ℕ) (cs : List ℕ) → IsBelowAll streams.id_of w.scene.streams 0
    → is_plain_text w.scene s ≡ true → ShowsEach w s cs
shows_each w s [] first plain = tt
shows_each w s (c ∷ cs) first plain = (
  shows_one w s c first plain,
  shows_each (after w (put_of w.scene s c)) s cs (first_still w s c first plain) (plain_still w s c first plain),
)
