-- The calls of windows, streams and file references, in both views.
use Rattle.std.proofs.Common.{◌≡◌, ℕ, zero, suc, ◌+◌, ◌==◌, ◌&&◌, not, Bool, true, false, if◌then◌else◌, List, [], ◌∷◌, ◌++◌}
use Rattle.std.proofs.Common.{length, Option, Some, None, refl}
use Rattle.std.specs.Prelude.{codes, decimal}
use Rattle.gx_outside.specs.declared.devices.Load.{Load}
use Rattle.gx_outside.specs.declared.devices.Load.TheVariants as of_load
use Rattle.gx_state.specs.Flat.{FlatState}
use Rattle.glk_files.specs.Names.{base_of}
use Rattle.glk_streams.specs.Constants.{write_mode, read_mode}
use Rattle.glk_streams.specs.declared.kinds.StreamKind.{StreamKind}
use Rattle.glk_streams.specs.declared.kinds.StreamKind.TheVariants as kinds
use Rattle.glk_streams.specs.Stream as one
use Rattle.glk_windows.specs.Windows.{last_given}
use Rattle.glk_windows.specs.Changes as changes
use Rattle.glk_screen.specs.Wrapper.{FlatWrapper, restarted}
use Rattle.glk_world.specs.World.{Scene, silent, waits, arg, reference_at, has_reference}
use Rattle.glk_world.specs.Putting.{echo_of, leads_along, leads_to}
use Rattle.glk_world.specs.Calls.{is_identifier, with_reference, can_open}
use Rattle.glk_world.specs.Calls.{with_streams, with_window}
use Rattle.glk_world.specs.Calls.{with_echo, with_new_stream, without_stream, without_file}
use Rattle.glk_replies.specs.Numbers as selectors
use Rattle.glk_replies.specs.Parts.{give, can_give_pair}
use Rattle.glk_replies.specs.Strings.{string_length, string_chars}
use Rattle.glk_object_calls.specs.Answers.{replying}
use Rattle.glk_object_calls.specs.Windows.{window_open}
use Rattle.glk_object_calls.specs.Windows.{window_set_echo_stream}
use Rattle.glk_object_calls.specs.Streams.{stream_of, memory_kind, stream_open_memory, counts}
use Rattle.glk_object_calls.specs.Streams.{close, file_to_store, closing_by, stream_close}
use Rattle.glk_object_calls.specs.References.{created, fileref_create_temp, fileref_create_by_name}
use Rattle.glk_object_calls.specs.References.{fileref_create_by_prompt, prompt_goes_on, fileref_create_from_fileref}
use Rattle.glk_object_calls.specs.References.{file_name}
use Rattle.glk_object_calls.specs.References.{form_for, open_with}
use Rattle.glk_object_calls.specs.References.{mode_loads, stream_open_file, open_goes_on}
use Rattle.glk_views.specs.Beside.{in_wrapping, in_plain, SaysBeside, ComesBeside, comes_to}
use Rattle.glk_views.proofs.Says.{quiet, then_scene, prompt_says}
use Rattle.glk_views.proofs.Outcomes.{turned, comes_if, scene_if, looked, bound, replied, comes_taken}

module _ (rows : Bool) (limit : ℕ) where
  leads_same : (n : ℕ) (r : FlatWrapper) (w : Scene) (stream win : ℕ)
      → leads_along n (in_wrapping rows r w) stream win ≡ leads_along n (in_plain rows limit w) stream win
  unfolding leads_along
  leads_same zero r w stream win = refl
  leads_same (suc n) r w stream win = rw (leads_same n r w (echo_of w stream) win) refl

  -- ---- windows

  pub opens_window : (r : FlatWrapper) (w : Scene) (args : List ℕ)
      → ComesBeside 0 rows limit r (window_open (in_wrapping rows r w) args) (window_open (in_plain rows limit w) args)
  unfolding window_open with_window
  opens_window r w args =
      let new = changes.with_new_window w.windows (arg args 0) (arg args 1) (arg args 2) (arg args 3) (arg args 4) w.next_id in
      let opened : Scene = record w {
        windows = new;
        streams = with_streams w.streams (arg args 0) w.next_id;
        next_id = last_given (arg args 0) w.next_id + 1;
      } in
      comes_to (scene_if rows limit (can_open w (arg args 0) (arg args 1) (arg args 3)) (quiet rows limit r opened) (quiet rows limit r w))

  pub sets_echo : (r : FlatWrapper) (w : Scene) (args : List ℕ)
      → ComesBeside 0 rows limit r (window_set_echo_stream (in_wrapping rows r w) args)
      (window_set_echo_stream (in_plain rows limit w) args)
  unfolding window_set_echo_stream with_echo
  sets_echo r w args =
      let echoed : Scene = record w { windows = changes.with_echo_stream w.windows (arg args 0) (arg args 1) } in
      rw (leads_same (length w.streams) r w (arg args 1) (arg args 0))
      (comes_to (scene_if rows limit (leads_to (in_plain rows limit w) (arg args 1) (arg args 0)) (quiet rows limit r w) (quiet rows limit r echoed)))

  -- ---- streams

  pub new_stream : (r : FlatWrapper) (w : Scene) (kind : StreamKind) (mode rock : ℕ)
      → SaysBeside 0 rows limit r (silent (with_new_stream (in_wrapping rows r w) kind mode rock))
      (silent (with_new_stream (in_plain rows limit w) kind mode rock))
  unfolding with_new_stream
  new_stream r w kind mode rock =
      let opened : Scene =
      record w { streams = w.streams ++ one.opened w.next_id kind mode rock ∷ []; next_id = w.next_id + 1 } in
      scene_if rows limit (is_identifier w.next_id) (quiet rows limit r opened) (quiet rows limit r w)

  pub opens_memory_stream : (wide : Bool) (r : FlatWrapper) (w : Scene) (args : List ℕ)
      → ComesBeside 0 rows limit r (stream_open_memory (in_wrapping rows r w) args wide)
      (stream_open_memory (in_plain rows limit w) args wide)
  unfolding stream_open_memory
  opens_memory_stream wide r w args =
      comes_if rows limit (not (one.allows_mode (memory_kind args wide) (arg args 2))) (comes_to (quiet rows limit r w))
      (comes_to (new_stream r w (memory_kind args wide) (arg args 2) (arg args 3)))

  pub closes : (r : FlatWrapper) (w : Scene) (f : FlatState) (room : ℕ) (args : List ℕ)
      → ComesBeside 0 rows limit r (close (in_wrapping rows r w) f room args) (close (in_plain rows limit w) f room args)
  unfolding close without_stream
  closes r w f room args = closing (one.window_of (stream_of w (arg args 0)) == 0)
    where
      closing : (c : Bool) → ComesBeside 0 rows limit r
          (replying (if c then without_stream (in_wrapping rows r w) (arg args 0) else in_wrapping rows r w)
          (give f room 0 (arg args 1) (counts w (arg args 0))))
          (replying (if c then without_stream (in_plain rows limit w) (arg args 0) else in_plain rows limit w)
          (give f room 0 (arg args 1) (counts w (arg args 0))))
      closing true = replied rows limit (give f room 0 (arg args 1) (counts w (arg args 0))) r (without_stream w (arg args 0))
      closing false = replied rows limit (give f room 0 (arg args 1) (counts w (arg args 0))) r w

  closes_by : (file : Option (List ℕ × List ℕ)) (r : FlatWrapper) (w : Scene) (f : FlatState) (room : ℕ) (args : List ℕ)
      → ComesBeside 0 rows limit r (closing_by file (in_wrapping rows r w) f room args)
      (closing_by file (in_plain rows limit w) f room args)
  unfolding without_file
  closes_by None r w f room args = turned rows limit (closes r w f room args)
  closes_by (Some file) r w f room args =
      looked rows limit (can_give_pair f room (arg args 1))
      (comes_to (quiet rows limit r (waits (without_file w (arg args 0)) selectors.stream_close args)))

  pub closes_stream : (r : FlatWrapper) (w : Scene) (f : FlatState) (room : ℕ) (args : List ℕ)
      → ComesBeside 0 rows limit r (stream_close (in_wrapping rows r w) f room args)
      (stream_close (in_plain rows limit w) f room args)
  unfolding stream_close
  closes_stream r w f room args = closes_by (file_to_store w (arg args 0)) r w f room args

  -- ---- file references

  pub creates : (r : FlatWrapper) (w : Scene) (base : List ℕ) (usage rock : ℕ)
      → ComesBeside 0 rows limit r (created (in_wrapping rows r w) base usage rock) (created (in_plain rows limit w) base usage rock)
  unfolding with_reference
  creates r w base usage rock =
      let all = w.references ++ record { id = w.next_id; base = base; usage = usage; rock = rock } ∷ [] in
      let more : Scene = record w { references = all; next_id = w.next_id + 1 } in
      comes_to (scene_if rows limit (is_identifier w.next_id) (quiet rows limit r more) (quiet rows limit r w))

  pub creates_temp : (r : FlatWrapper) (w : Scene) (args : List ℕ)
      → ComesBeside 0 rows limit r (fileref_create_temp (in_wrapping rows r w) args)
      (fileref_create_temp (in_plain rows limit w) args)
  unfolding fileref_create_temp
  creates_temp r w args = creates r w (codes "gxtemp" ++ decimal w.next_id) (arg args 0) (arg args 1)

  pub creates_by_name : (r : FlatWrapper) (w : Scene) (f : FlatState) (args : List ℕ)
      → ComesBeside 0 rows limit r (fileref_create_by_name (in_wrapping rows r w) f args)
      (fileref_create_by_name (in_plain rows limit w) f args)
  unfolding fileref_create_by_name
  creates_by_name r w f args =
      bound rows limit (string_length f 1 (arg args 1))
      (λ v count. created v (base_of (string_chars f 1 (arg args 1) count)) (arg args 0) (arg args 2)) r w
      (λ count. creates r w (base_of (string_chars f 1 (arg args 1) count)) (arg args 0) (arg args 2))

  pub creates_by_prompt : (r : FlatWrapper) (w : Scene) (args : List ℕ)
      → ComesBeside 0 rows limit r (fileref_create_by_prompt (in_wrapping rows r w) args)
      (fileref_create_by_prompt (in_plain rows limit w) args)
  unfolding fileref_create_by_prompt
  creates_by_prompt r w args =
      comes_to (then_scene rows limit (λ v. waits v selectors.fileref_create_by_prompt args) (prompt_says rows limit r w)
      (λ r' v. quiet rows limit r' (waits v selectors.fileref_create_by_prompt args)))

  pub prompt_goes : (r : FlatWrapper) (w : Scene) (args line : List ℕ)
      → ComesBeside 1 rows limit r (prompt_goes_on (in_wrapping rows r w) args line)
      (prompt_goes_on (in_plain rows limit w) args line)
  unfolding prompt_goes_on
  prompt_goes r w args [] = comes_taken rows limit (comes_to (quiet rows limit (restarted r) (record w { fresh = true })))
  prompt_goes r w args (c ∷ cs) =
      comes_taken rows limit
      (creates (restarted r) (record w { fresh = true }) (base_of (c ∷ cs)) (arg args 0) (arg args 2))

  pub creates_from : (r : FlatWrapper) (w : Scene) (args : List ℕ)
      → ComesBeside 0 rows limit r (fileref_create_from_fileref (in_wrapping rows r w) args)
      (fileref_create_from_fileref (in_plain rows limit w) args)
  unfolding fileref_create_from_fileref
  creates_from r w args =
      comes_if rows limit (has_reference w (arg args 1))
      (creates r w (reference_at w (arg args 1)).base (arg args 0) (arg args 2)) (comes_to (quiet rows limit r w))

  -- ---- files

  opens : (r : FlatWrapper) (w : Scene) (selector : ℕ) (args content : List ℕ)
      → ComesBeside 0 rows limit r (open_with (in_wrapping rows r w) selector args content)
      (open_with (in_plain rows limit w) selector args content)
  unfolding open_with
  opens r w selector args content =
      let kind = kinds.File (file_name w (arg args 0)) content (form_for selector (reference_at w (arg args 0)).usage) in
      comes_to (new_stream r w kind (arg args 1) (arg args 2))

  pub opens_file_stream : (selector : ℕ) (r : FlatWrapper) (w : Scene) (args : List ℕ)
      → ComesBeside 0 rows limit r (stream_open_file selector (in_wrapping rows r w) args)
      (stream_open_file selector (in_plain rows limit w) args)
  unfolding stream_open_file
  opens_file_stream selector r w args =
      comes_if rows limit (arg args 1 == write_mode) (turned rows limit (opens r w selector args []))
      (comes_if rows limit (mode_loads (arg args 1) && is_identifier w.next_id)
      (comes_to (quiet rows limit r (waits w selector args)))
      (comes_to (quiet rows limit r w)))

  pub open_goes : (r : FlatWrapper) (w : Scene) (selector : ℕ) (args : List ℕ) (load : Load)
      → ComesBeside 0 rows limit r (open_goes_on (in_wrapping rows r w) selector args load)
      (open_goes_on (in_plain rows limit w) selector args load)
  open_goes r w selector args of_load.Missing =
      comes_if rows limit (arg args 1 == read_mode) (comes_to (quiet rows limit r w)) (opens r w selector args [])
  open_goes r w selector args of_load.TooLong = comes_to (quiet rows limit r w)
  open_goes r w selector args (of_load.Found bytes) = opens r w selector args bytes
