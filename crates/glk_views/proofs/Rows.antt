-- Each row of the table of calls, in both views.
use Rattle.std.proofs.Common.{ℕ, ◌==◌, Bool, true, false, if◌then◌else◌, List, [], ◌∷◌, ◌++◌, Some}
use Rattle.std.proofs.Common.{IfSome}
use Rattle.gx_state.specs.Flat.{FlatState}
use Rattle.glk_objects.specs.Objects as objects
use Rattle.glk_streams.specs.Streams as streams
use Rattle.glk_streams.specs.declared.kinds.Places.{Places}
use Rattle.glk_windows.specs.Windows as windows
use Rattle.glk_windows.specs.Windows.{entry_id, window_entry}
use Rattle.glk_screen.specs.Wrapper.{FlatWrapper}
use Rattle.glk_world.specs.World.{Scene, arg, waits, reference_id, reference_at}
use Rattle.glk_world.specs.Calls.{without_reference, without_window, with_arrangement, window_cleared, cursor_moved}
use Rattle.glk_world.specs.Calls.{repositioned}
use Rattle.glk_replies.specs.Numbers as selectors
use Rattle.glk_replies.specs.Parts.{give, give_each, can_lay}
use Rattle.glk_object_calls.specs.Gestalts.{gestalt, gestalt_ext, has_glyphs}
use Rattle.glk_object_calls.specs.Windows.{first_window, pair_at, window_close, window_get_size, window_set_arrangement}
use Rattle.glk_object_calls.specs.Windows.{window_get_arrangement, window_move_cursor, window_get_echo_stream}
use Rattle.glk_object_calls.specs.Windows.{window_iterate, window_get_rock, window_get_type, window_get_parent}
use Rattle.glk_object_calls.specs.Windows.{window_get_sibling, window_get_root, window_clear, window_get_stream}
use Rattle.glk_object_calls.specs.Windows.{set_window}
use Rattle.glk_object_calls.specs.Streams.{stream_of, stream_iterate, stream_get_rock, counts, stream_set_position}
use Rattle.glk_object_calls.specs.Streams.{stream_get_position, stream_set_current, stream_get_current}
use Rattle.glk_object_calls.specs.References.{fileref_destroy, fileref_iterate, fileref_get_rock, fileref_delete_file}
use Rattle.glk_object_calls.specs.References.{fileref_does_file_exist}
use Rattle.glk_text_calls.specs.declared.characters.Case.TheVariants as case
use Rattle.glk_text_calls.specs.Characters.{char_to_case}
use Rattle.glk_event_calls.specs.Events.{select_poll, no_event}
use Rattle.glk_dispatch.specs.CallRows.{Doing, CallRow}
use Rattle.glk_dispatch.specs.ObjectCalls.{window_calls, stream_calls}
use Rattle.glk_dispatch.specs.TextCalls.{text_calls, event_calls, unicode_calls}
use Rattle.glk_dispatch.specs.Table.{call_table, row_in}
use Rattle.glk_dispatch.specs.Calls.{done}
use Rattle.glk_views.specs.Beside.{in_wrapping, in_plain, ComesBeside, comes_to}
use Rattle.glk_views.proofs.Says.{quiet}
use Rattle.glk_views.proofs.Outcomes.{turned, looked, replied}
use Rattle.glk_views.proofs.Objects.{opens_window, sets_echo, opens_memory_stream, closes_stream, creates_temp}
use Rattle.glk_views.proofs.Objects.{creates_by_name, creates_by_prompt, creates_from, opens_file_stream}
use Rattle.glk_views.proofs.Texts.{puts_char, puts_string, puts_buffer, gets_buffer, gets_line, gets_char, recases}
use Rattle.glk_views.proofs.Texts.{asks_line, asks_char, cancels_char, cancels_line, selects}

module _ (rows : Bool) (limit : ℕ) where
  abbrev pub Does : Doing → Type 0
  Does d = (r : FlatWrapper) (w : Scene) (f : FlatState) (room : ℕ) (args : List ℕ)
      → ComesBeside 0 rows limit r (done d (in_wrapping rows r w) f room args) (done d (in_plain rows limit w) f room args)

infixr 5 ◌&◌
pub data AllDo (rows : Bool) (limit : ℕ) : List CallRow → Type 0 where
  none : AllDo rows limit []
  ◌&◌ : {row : CallRow} {more : List CallRow} → Does rows limit row.does → AllDo rows limit more
      → AllDo rows limit (row ∷ more)

module _ (rows : Bool) (limit : ℕ) where
  windows_do : AllDo rows limit window_calls
  unfolding window_calls gestalt gestalt_ext window_iterate window_get_rock window_get_root window_close window_get_size
      window_set_arrangement window_get_arrangement window_get_type window_get_parent window_clear window_move_cursor
      window_get_stream window_get_echo_stream set_window window_get_sibling without_window with_arrangement
      window_cleared cursor_moved
  windows_do =
      (λ r w f room args. comes_to (quiet rows limit r w))
      & (λ r w f room args. comes_to (quiet rows limit r w))
      & (λ r w f room args. comes_to (quiet rows limit r w))
      & (λ r w f room args.
      let place : Places = record { at = arg args 2; width = 4; count = if has_glyphs args then 1 else 0 } in
      turned rows limit (looked rows limit (can_lay f place) (comes_to (quiet rows limit r w))))
      & (λ r w f room args.
      let win = objects.next entry_id w.windows.entries (arg args 0) in
      turned rows limit
      (replied rows limit (give f room win (arg args 1) ((window_entry w.windows.entries win).rock ∷ [])) r w))
      & (λ r w f room args. comes_to (quiet rows limit r w))
      & (λ r w f room args. comes_to (quiet rows limit r w))
      & (λ r w f room args. turned rows limit (opens_window rows limit r w args))
      & (λ r w f room args. turned rows limit
      (replied rows limit (give f room 0 (arg args 1) (counts w (first_window w args).stream)) r (without_window w (arg args 0))))
      & (λ r w f room args.
      let size = windows.text_size w.windows (arg args 0) in
      turned rows limit
      (replied rows limit (give_each f room 0 (arg args 1 ∷ arg args 2 ∷ []) (size.0 ∷ size.1 ∷ [])) r w))
      & (λ r w f room args.
      comes_to (quiet rows limit r (with_arrangement w (arg args 0) (arg args 1) (arg args 2) (arg args 3))))
      & (λ r w f room args.
      let p = pair_at w.windows (arg args 0) in
      turned rows limit
      (replied rows limit
      (give_each f room 0 (arg args 1 ∷ arg args 2 ∷ arg args 3 ∷ []) (p.method ∷ p.size ∷ p.key ∷ [])) r w))
      & (λ r w f room args. comes_to (quiet rows limit r w))
      & (λ r w f room args. comes_to (quiet rows limit r w))
      & (λ r w f room args. comes_to (quiet rows limit r (window_cleared w (arg args 0))))
      & (λ r w f room args. comes_to (quiet rows limit r (cursor_moved w (arg args 0) (arg args 1) (arg args 2))))
      & (λ r w f room args. comes_to (quiet rows limit r w))
      & (λ r w f room args. turned rows limit (sets_echo rows limit r w args))
      & (λ r w f room args. comes_to (quiet rows limit r w))
      & (λ r w f room args. comes_to (quiet rows limit r (record w { current = (first_window w args).stream })))
      & (λ r w f room args. comes_to (quiet rows limit r w))
      & none

  streams_do : AllDo rows limit stream_calls
  unfolding stream_calls stream_iterate stream_get_rock stream_set_position stream_get_position stream_set_current
      stream_get_current fileref_destroy fileref_iterate fileref_get_rock fileref_delete_file fileref_does_file_exist
      repositioned without_reference
  streams_do =
      (λ r w f room args.
      let next = objects.next streams.id_of w.streams (arg args 0) in
      turned rows limit (replied rows limit (give f room next (arg args 1) ((stream_of w next).rock ∷ [])) r w))
      & (λ r w f room args. comes_to (quiet rows limit r w))
      & (λ r w f room args. opens_file_stream rows limit selectors.stream_open_file r w args)
      & (λ r w f room args. turned rows limit (opens_memory_stream rows limit false r w args))
      & (λ r w f room args. closes_stream rows limit r w f room args)
      & (λ r w f room args. comes_to (quiet rows limit r (repositioned w (arg args 0) (arg args 1) (arg args 2))))
      & (λ r w f room args. comes_to (quiet rows limit r w))
      & (λ r w f room args. comes_to (quiet rows limit r (record w { current = arg args 0 })))
      & (λ r w f room args. comes_to (quiet rows limit r w))
      & (λ r w f room args. turned rows limit (creates_temp rows limit r w args))
      & (λ r w f room args. turned rows limit (creates_by_name rows limit r w f args))
      & (λ r w f room args. creates_by_prompt rows limit r w args)
      & (λ r w f room args. comes_to (quiet rows limit r (without_reference w (arg args 0))))
      & (λ r w f room args.
      let next = objects.next reference_id w.references (arg args 0) in
      turned rows limit (replied rows limit (give f room next (arg args 1) ((reference_at w next).rock ∷ [])) r w))
      & (λ r w f room args. comes_to (quiet rows limit r w))
      & (λ r w f room args. comes_to (quiet rows limit r (waits w selectors.fileref_delete_file args)))
      & (λ r w f room args. comes_to (quiet rows limit r (waits w selectors.fileref_does_file_exist args)))
      & (λ r w f room args. turned rows limit (creates_from rows limit r w args))
      & none

  texts_do : AllDo rows limit text_calls
  unfolding text_calls char_to_case
  texts_do =
      (λ r w f room args. turned rows limit (puts_char rows limit r w f w.current 1 (arg args 0)))
      & (λ r w f room args. turned rows limit (puts_char rows limit r w f (arg args 0) 1 (arg args 1)))
      & (λ r w f room args. turned rows limit (puts_string rows limit r w f w.current 1 (arg args 0)))
      & (λ r w f room args. turned rows limit (puts_string rows limit r w f (arg args 0) 1 (arg args 1)))
      & (λ r w f room args. turned rows limit (puts_buffer rows limit r w f w.current 1 (arg args 0) (arg args 1)))
      & (λ r w f room args. turned rows limit (puts_buffer rows limit r w f (arg args 0) 1 (arg args 1) (arg args 2)))
      & (λ r w f room args. comes_to (quiet rows limit r w))
      & (λ r w f room args. comes_to (quiet rows limit r w))
      & (λ r w f room args. turned rows limit (gets_char rows limit 1 r w f args))
      & (λ r w f room args. turned rows limit (gets_line rows limit 1 r w f args))
      & (λ r w f room args. turned rows limit (gets_buffer rows limit 1 r w f args))
      & (λ r w f room args. comes_to (quiet rows limit r w))
      & (λ r w f room args. comes_to (quiet rows limit r w))
      & (λ r w f room args. comes_to (quiet rows limit r w))
      & (λ r w f room args. comes_to (quiet rows limit r w))
      & (λ r w f room args. comes_to (quiet rows limit r w))
      & (λ r w f room args. comes_to (quiet rows limit r w))
      & none

  events_do : AllDo rows limit event_calls
  unfolding event_calls select_poll
  events_do =
      (λ r w f room args. selects rows limit r w f room args)
      & (λ r w f room args. turned rows limit (replied rows limit (give f room 0 (arg args 0) no_event) r w))
      & (λ r w f room args. turned rows limit (asks_line rows limit false r w args))
      & (λ r w f room args. turned rows limit (cancels_line rows limit r w f room args))
      & (λ r w f room args. turned rows limit (asks_char rows limit false r w args))
      & (λ r w f room args. turned rows limit (cancels_char rows limit r w args))
      & none

  unicode_do : AllDo rows limit unicode_calls
  unfolding unicode_calls
  unicode_do =
      (λ r w f room args. turned rows limit (recases rows limit case.Lower case.Lower r w f args))
      & (λ r w f room args. turned rows limit (recases rows limit case.Upper case.Upper r w f args))
      & (λ r w f room args. turned rows limit
      (recases rows limit case.Upper (if arg args 3 == 0 then case.Same else case.Lower) r w f args))
      & (λ r w f room args. turned rows limit (puts_char rows limit r w f w.current 4 (arg args 0)))
      & (λ r w f room args. turned rows limit (puts_string rows limit r w f w.current 4 (arg args 0)))
      & (λ r w f room args. turned rows limit (puts_buffer rows limit r w f w.current 4 (arg args 0) (arg args 1)))
      & (λ r w f room args. turned rows limit (puts_char rows limit r w f (arg args 0) 4 (arg args 1)))
      & (λ r w f room args. turned rows limit (puts_string rows limit r w f (arg args 0) 4 (arg args 1)))
      & (λ r w f room args. turned rows limit (puts_buffer rows limit r w f (arg args 0) 4 (arg args 1) (arg args 2)))
      & (λ r w f room args. turned rows limit (gets_char rows limit 4 r w f args))
      & (λ r w f room args. turned rows limit (gets_buffer rows limit 4 r w f args))
      & (λ r w f room args. turned rows limit (gets_line rows limit 4 r w f args))
      & (λ r w f room args. opens_file_stream rows limit selectors.stream_open_file_uni r w args)
      & (λ r w f room args. turned rows limit (opens_memory_stream rows limit true r w args))
      & (λ r w f room args. turned rows limit (asks_char rows limit true r w args))
      & (λ r w f room args. turned rows limit (asks_line rows limit true r w args))
      & (λ r w f room args. comes_to (quiet rows limit r w))
      & none

  -- ---- the row of a selector

  both_do : (xs ys : List CallRow) → AllDo rows limit xs → AllDo rows limit ys → AllDo rows limit (xs ++ ys)
  both_do [] ys h k = k
  both_do (x ∷ xs) ys (h & hs) k = h & both_do xs ys hs k

  pub all_do : AllDo rows limit call_table
  all_do =
      both_do window_calls _ windows_do
      (both_do stream_calls _ streams_do
      (both_do text_calls _ texts_do (both_do event_calls unicode_calls events_do unicode_do)))

  pub row_does : (list : List CallRow) → AllDo rows limit list → (number : ℕ)
      → IfSome (row_in list number) (λ row. Does rows limit row.does)
  row_does [] all number = tt
  row_does (row ∷ more) (h & hs) number =
      elim (row.looks.number == number) as
      (λ b. IfSome (if b then Some row else row_in more number) (λ row. Does rows limit row.does)) [
        | true ↦ h
        | false ↦ row_does more hs number
      ]
