-- Putting characters to streams, in both views.
use Rattle.std.proofs.Common.{ℕ, zero, suc, ◌==◌, Bool, true, false, List, [], ◌∷◌, length}
use Rattle.glk_text.specs.Characters.{shown}
use Rattle.glk_streams.specs.Streams as streams
use Rattle.glk_windows.specs.Constants.{text_buffer}
use Rattle.glk_windows.specs.declared.entries.Entry.{Entry}
use Rattle.glk_windows.specs.Changes.{put_to}
use Rattle.glk_screen.specs.Wrapper.{FlatWrapper}
use Rattle.glk_world.specs.World.{Scene}
use Rattle.glk_world.specs.Putting.{window_of_stream, entry_of, buffer_put, window_put, counted, stream_put, echo_of, put_along, put_chars}
use Rattle.glk_views.specs.Beside.{in_wrapping, in_plain, SaysBeside}
use Rattle.glk_views.proofs.Says.{quiet, joined, if_says, char_says}

buffer_says : (rows : Bool) (limit : ℕ) (r : FlatWrapper) (w : Scene) (win c : ℕ)
    → SaysBeside 0 rows limit r (buffer_put (in_wrapping rows r w) win c) (buffer_put (in_plain rows limit w) win c)
unfolding buffer_put
buffer_says true limit r w win c = char_says true limit r w c
buffer_says false limit r w win c = char_says false limit r w c

module _ (rows : Bool) (limit : ℕ) where
  window_says : (r : FlatWrapper) (w : Scene) (entry : Entry) (win c : ℕ)
      → SaysBeside 0 rows limit r (window_put (in_wrapping rows r w) entry win c) (window_put (in_plain rows limit w) entry win c)
  unfolding window_put
  window_says r w entry win c =
      if_says rows limit (entry.kind == text_buffer) (buffer_says rows limit r w win (shown c))
      (quiet rows limit r (record w { windows = put_to w.windows win (shown c) }))

  stream_says : (r : FlatWrapper) (w : Scene) (stream c : ℕ)
      → SaysBeside 0 rows limit r (stream_put (in_wrapping rows r w) stream c) (stream_put (in_plain rows limit w) stream c)
  unfolding stream_put
  stream_says r w stream c =
      if_says rows limit (window_of_stream w stream == 0) (quiet rows limit r (counted w stream c))
      (window_says r (counted w stream c) (entry_of w stream) (window_of_stream w stream) c)

  along_says : (n : ℕ) (r : FlatWrapper) (w : Scene) (stream c : ℕ)
      → SaysBeside 0 rows limit r (put_along n (in_wrapping rows r w) stream c) (put_along n (in_plain rows limit w) stream c)
  unfolding put_along
  along_says zero r w stream c = quiet rows limit r w
  along_says (suc n) r w stream c =
      if_says rows limit (streams.has w.streams stream)
      (joined rows limit (λ more. put_along n more (echo_of w stream) c) (λ more. put_along n more (echo_of w stream) c)
      (stream_says r w stream c) (λ r' v. along_says n r' v (echo_of w stream) c))
      (quiet rows limit r w)

  pub chars_say : (r : FlatWrapper) (w : Scene) (stream : ℕ) (cs : List ℕ)
      → SaysBeside 0 rows limit r (put_chars (in_wrapping rows r w) stream cs) (put_chars (in_plain rows limit w) stream cs)
  unfolding put_chars
  chars_say r w stream [] = quiet rows limit r w
  chars_say r w stream (c ∷ cs) =
      joined rows limit (λ more. put_chars more stream cs) (λ more. put_chars more stream cs)
      (along_says (length w.streams) r w stream c) (λ r' v. chars_say r' v stream cs)
