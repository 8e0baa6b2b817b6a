-- The calls of Glk on the program, windows, streams and file references (Glk 0.7.5, "Windows", "Streams", "File
-- References"), in rising order of selector.
use Rattle.std.specs.Prelude.{◌&&◌, ◌||◌, not, ℕ, Bool, true, false, List, [], ◌∷◌, is_some, Ok}
use Rattle.gx_state.specs.Flat.{FlatState}
use Rattle.glk_windows.specs.Changes.{closing_grows, arranging_grows}
use Rattle.glk_world.specs.World.{Scene, silent, is_composed, has_reference, Outcome, arg}
use Rattle.glk_world.specs.Calls.{is_identifier, can_open}
use Rattle.glk_replies.specs.Numbers as selectors
use Rattle.glk_replies.specs.declared.Turn.{Turn}
use Rattle.glk_replies.specs.declared.Turn.TheVariants.{Exit}
use Rattle.glk_object_calls.specs.Gestalts.{gestalt, gestalt_ext, has_glyphs}
use Rattle.glk_object_calls.specs.Windows.{window_open, window_close, window_get_size, window_set_arrangement}
use Rattle.glk_object_calls.specs.Windows.{window_get_arrangement, window_move_cursor, window_set_echo_stream}
use Rattle.glk_object_calls.specs.Windows.{window_get_echo_stream, window_iterate, window_get_rock, window_get_type}
use Rattle.glk_object_calls.specs.Windows.{window_get_parent, window_get_sibling, window_get_root, window_clear}
use Rattle.glk_object_calls.specs.Windows.{window_get_stream, set_window}
use Rattle.glk_object_calls.specs.Streams.{stream_iterate, stream_get_rock}
use Rattle.glk_object_calls.specs.Streams.{stream_close, file_to_store, stream_set_position, stream_get_position}
use Rattle.glk_object_calls.specs.Streams.{stream_set_current, stream_get_current}
use Rattle.glk_object_calls.specs.References.{fileref_create_temp, fileref_create_by_name, fileref_create_by_prompt}
use Rattle.glk_object_calls.specs.References.{fileref_create_from_fileref, fileref_destroy, fileref_iterate}
use Rattle.glk_object_calls.specs.References.{fileref_get_rock, fileref_delete_file, fileref_does_file_exist}
use Rattle.glk_dispatch.specs.declared.table.ObjectClass.TheVariants.{Window, Stream, Reference}
use Rattle.glk_dispatch.specs.CallRows.{CallRow, row_with, on, maybe_on, naming, giving, plain, looking, taking_turn}
use Rattle.glk_dispatch.specs.CallRows.{idles}
use Rattle.glk_dispatch.specs.CallRows.{wants, is_given, opens_file, opens_memory, answers, turns}

-- glk_exit ("Exiting Your Program")
abbrev pub exits : Scene → List ℕ → Outcome Turn
exits w args = Ok (silent w, Exit)

abbrev always : Scene → FlatState → List ℕ → Bool
always w f args = true

-- for a new object
abbrev makes : Scene → FlatState → List ℕ → Bool
makes w f args = is_identifier w.next_id

-- the program, what the library can do, windows
unfoldable pub window_calls : List CallRow
window_calls =
    row_with selectors.exit 0 (taking_turn exits) ∷
    row_with selectors.tick 0 (plain idles) ∷
    row_with selectors.gestalt 2 (plain gestalt) ∷
    wants (λ w f args. has_glyphs args) (row_with selectors.gestalt_ext 4 (looking gestalt_ext)) ∷
    wants (is_given 1) (maybe_on Window (row_with selectors.window_iterate 2 (answers window_iterate))) ∷
    on Window (row_with selectors.window_get_rock 1 (plain window_get_rock)) ∷
    row_with selectors.window_get_root 0 (plain (λ w args. window_get_root w)) ∷
    wants (λ w f args. can_open w (arg args 0) (arg args 1) (arg args 3))
    (maybe_on Window (row_with selectors.window_open 5 (plain window_open))) ∷
    wants (λ w f args. closing_grows w.windows (arg args 0) || is_given 1 w f args)
    (giving 1 2 (on Window (row_with selectors.window_close 2 (answers window_close)))) ∷
    wants (λ w f args. is_given 1 w f args || is_given 2 w f args)
    (giving 2 1 (on Window (row_with selectors.window_get_size 3 (answers window_get_size)))) ∷
    wants (λ w f args. arranging_grows w.windows (arg args 0) (arg args 1) (arg args 2) (arg args 3))
    (naming Window 3 (on Window (row_with selectors.window_set_arrangement 4 (plain window_set_arrangement)))) ∷
    wants (λ w f args. is_given 1 w f args || is_given 2 w f args || is_given 3 w f args)
    (giving 3 1 (on Window (row_with selectors.window_get_arrangement 4 (answers window_get_arrangement)))) ∷
    on Window (row_with selectors.window_get_type 1 (plain window_get_type)) ∷
    on Window (row_with selectors.window_get_parent 1 (plain window_get_parent)) ∷
    on Window (row_with selectors.window_clear 1 (plain window_clear)) ∷
    on Window (row_with selectors.window_move_cursor 3 (plain window_move_cursor)) ∷
    on Window (row_with selectors.window_get_stream 1 (plain window_get_stream)) ∷
    naming Stream 1 (on Window (row_with selectors.window_set_echo_stream 2 (plain window_set_echo_stream))) ∷
    on Window (row_with selectors.window_get_echo_stream 1 (plain window_get_echo_stream)) ∷
    maybe_on Window (row_with selectors.set_window 1 (plain set_window)) ∷
    on Window (row_with selectors.window_get_sibling 1 (plain window_get_sibling)) ∷ []

-- streams and file references
unfoldable pub stream_calls : List CallRow
stream_calls =
    wants (is_given 1) (maybe_on Stream (row_with selectors.stream_iterate 2 (answers stream_iterate))) ∷
    on Stream (row_with selectors.stream_get_rock 1 (plain stream_get_rock)) ∷
    opens_file selectors.stream_open_file ∷
    opens_memory selectors.stream_open_memory false ∷
    wants (λ w f args. is_given 1 w f args && not (is_some (file_to_store w (arg args 0))))
    (giving 1 2 (on Stream (row_with selectors.stream_close 2 (turns stream_close)))) ∷
    on Stream (row_with selectors.stream_set_position 3 (plain stream_set_position)) ∷
    on Stream (row_with selectors.stream_get_position 1 (plain stream_get_position)) ∷
    maybe_on Stream (row_with selectors.stream_set_current 1 (plain stream_set_current)) ∷
    row_with selectors.stream_get_current 0 (plain (λ w args. stream_get_current w)) ∷
    wants makes (row_with selectors.fileref_create_temp 2 (plain fileref_create_temp)) ∷
    wants makes (row_with selectors.fileref_create_by_name 3 (looking fileref_create_by_name)) ∷
    wants (λ w f args. not (is_composed w))
    (row_with selectors.fileref_create_by_prompt 3 (taking_turn fileref_create_by_prompt)) ∷
    on Reference (row_with selectors.fileref_destroy 1 (plain fileref_destroy)) ∷
    wants (is_given 1) (maybe_on Reference (row_with selectors.fileref_iterate 2 (answers fileref_iterate))) ∷
    on Reference (row_with selectors.fileref_get_rock 1 (plain fileref_get_rock)) ∷
    wants always (on Reference (row_with selectors.fileref_delete_file 1 (taking_turn fileref_delete_file))) ∷
    wants always (on Reference (row_with selectors.fileref_does_file_exist 1 (taking_turn fileref_does_file_exist))) ∷
    wants (λ w f args. has_reference w (arg args 1) && is_identifier w.next_id)
    (naming Reference 1 (row_with selectors.fileref_create_from_fileref 3 (plain fileref_create_from_fileref))) ∷ []
