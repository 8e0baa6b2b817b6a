-- The calls of file references (Glk 0.7.5, "File References" and "File Streams").
use Rattle.std.specs.Prelude.{ℕ, ◌/◌, ◌%◌, ◌==◌, ◌||◌, ◌&&◌, not, if◌then◌else◌, Bool, false, List, [], ◌∷◌, ◌++◌}
use Rattle.std.specs.Prelude.{codes, decimal, Ok}
use Rattle.gx_words.specs.Results.{◌>>=◌}
use Rattle.gx_outside.specs.declared.devices.Load.{Load}
use Rattle.gx_outside.specs.declared.devices.Load.TheVariants as of_load
use Rattle.gx_state.specs.Flat.{FlatState}
use Rattle.gx_state.specs.declared.effects.Reply.{Reply}
use Rattle.glk_files.specs.Names.{base_of, suffix_of}
use Rattle.glk_objects.specs.Objects as objects
use Rattle.glk_streams.specs.Constants.{write_mode, read_mode, read_write_mode, write_append_mode}
use Rattle.glk_streams.specs.declared.kinds.FileForm.{FileForm}
use Rattle.glk_streams.specs.declared.kinds.FileForm.TheVariants as forms
use Rattle.glk_streams.specs.declared.kinds.StreamKind.TheVariants as kinds
use Rattle.glk_world.specs.World.{Scene, silent, has_reference, reference_at, reference_id, Outcome, answered, waits}
use Rattle.glk_world.specs.World.{arg}
use Rattle.glk_world.specs.Calls.{is_identifier, new_id, with_reference, without_reference, with_new_stream}
use Rattle.glk_world.specs.Shown.{show_prompt, line_taken}
use Rattle.glk_replies.specs.declared.Turn.{Turn}
use Rattle.glk_replies.specs.declared.Turn.TheVariants as turn
use Rattle.glk_replies.specs.Numbers as selectors
use Rattle.glk_replies.specs.Parts.{replies, give}
use Rattle.glk_replies.specs.Strings.{string_length, string_chars}
use Rattle.glk_object_calls.specs.Constants.{text_mode}
use Rattle.glk_object_calls.specs.Answers.{tells, replying, as_turn}

-- ---- file references

-- a new file reference
abbrev pub created : Scene → List ℕ → ℕ → ℕ → Outcome Reply
created w base usage rock = answered (with_reference w base usage rock) (replies (new_id w))

-- fileref_create_temp: a name that no other has, by the identifier
unfoldable pub fileref_create_temp : Scene → List ℕ → Outcome Reply
fileref_create_temp w args = created w (codes "gxtemp" ++ decimal w.next_id) (arg args 0) (arg args 1)

-- fileref_create_by_name: the name is a string of bytes
unfoldable pub fileref_create_by_name : Scene → FlatState → List ℕ → Outcome Reply
fileref_create_by_name w f args = string_length f 1 (arg args 1) >>= λ count.
    created w (base_of (string_chars f 1 (arg args 1) count)) (arg args 0) (arg args 2)

-- fileref_create_by_prompt: a line is the name
unfoldable pub fileref_create_by_prompt : Scene → List ℕ → Outcome Turn
fileref_create_by_prompt w args =
    let shown = show_prompt w in Ok ((waits shown.0 selectors.fileref_create_by_prompt args, shown.1), turn.Prompt)

-- the line; an empty one answers 0
unfoldable pub prompt_goes_on : Scene → List ℕ → List ℕ → Outcome Reply
prompt_goes_on w args [] = tells (line_taken w) 0
prompt_goes_on w args (c ∷ cs) = created (line_taken w) (base_of (c ∷ cs)) (arg args 0) (arg args 2)

-- fileref_create_from_fileref: the same name for another usage; 0 for none
unfoldable pub fileref_create_from_fileref : Scene → List ℕ → Outcome Reply
fileref_create_from_fileref w args = if has_reference w (arg args 1)
    then created w (reference_at w (arg args 1)).base (arg args 0) (arg args 2) else tells w 0

unfoldable pub fileref_destroy : Scene → List ℕ → Outcome Reply
fileref_destroy w args = answered (without_reference w (arg args 0)) (replies 0)

-- fileref_iterate ("Opaque Objects"): the next file reference and its rock, zeros at the end
unfoldable pub fileref_iterate : Scene → FlatState → ℕ → List ℕ → Outcome Reply
fileref_iterate w f room args = let next = objects.next reference_id w.references (arg args 0) in
    replying w (give f room next (arg args 1) ((reference_at w next).rock ∷ []))

unfoldable pub fileref_get_rock : Scene → List ℕ → Outcome Reply
fileref_get_rock w args = tells w (reference_at w (arg args 0)).rock

-- ---- the file of a file reference

-- its full name
abbrev pub file_name : Scene → ℕ → List ℕ
file_name w id = (reference_at w id).base ++ suffix_of (reference_at w id).usage

unfoldable pub fileref_delete_file : Scene → List ℕ → Outcome Turn
fileref_delete_file w args =
    Ok (silent (waits w selectors.fileref_delete_file args), turn.Remove (file_name w (arg args 0)))

unfoldable pub fileref_does_file_exist : Scene → List ℕ → Outcome Turn
fileref_does_file_exist w args =
    Ok (silent (waits w selectors.fileref_does_file_exist args), turn.Has (file_name w (arg args 0)))

-- ---- "File Streams": the selector is that of stream_open_file or stream_open_file_uni

-- the form of the file's characters: in the Unicode form UTF-8 for a text, else four bytes each
abbrev pub form_for : ℕ → ℕ → FileForm
form_for selector usage = if selector == selectors.stream_open_file_uni
    then (if usage / text_mode % 2 == 1 then forms.Utf8 else forms.Wide) else forms.Latin

-- a stream of a file with this content
unfoldable pub open_with : Scene → ℕ → List ℕ → List ℕ → Outcome Reply
open_with w selector args content =
    let kind = kinds.File (file_name w (arg args 0)) content (form_for selector (reference_at w (arg args 0)).usage) in
    answered (with_new_stream w kind (arg args 1) (arg args 2)) (replies (new_id w))

-- a mode in which a file is loaded
abbrev pub mode_loads : ℕ → Bool
mode_loads mode = mode == read_mode || mode == read_write_mode || mode == write_append_mode

-- stream_open_file: for writing alone the file begins empty, else it is loaded; another mode is refused, and so is each
-- where no identifier is left
unfoldable pub stream_open_file : ℕ → Scene → List ℕ → Outcome Turn
stream_open_file selector w args =
    if arg args 1 == write_mode then as_turn (open_with w selector args []) else
    if mode_loads (arg args 1) && is_identifier w.next_id
    then Ok (silent (waits w selector args), turn.Load (file_name w (arg args 0))) else
    Ok (silent w, turn.Answer (replies 0))

-- where that may want memory: a stream is made, or the name of the file that is loaded for one
abbrev pub opening_grows : Scene → List ℕ → Bool
opening_grows w args = (arg args 1 == write_mode || mode_loads (arg args 1)) && is_identifier w.next_id

-- the file was loaded: one that is missing begins empty, unless it was to be read alone
abbrev pub open_goes_on : Scene → ℕ → List ℕ → Load → Outcome Reply
open_goes_on w selector args of_load.Missing =
    if arg args 1 == read_mode then tells w 0 else open_with w selector args []
open_goes_on w selector args of_load.TooLong = tells w 0
open_goes_on w selector args (of_load.Found bytes) = open_with w selector args bytes

-- Where that may want memory: a stream is made where an identifier is left.
abbrev pub open_goes_on_grow : Scene → List ℕ → Load → Bool
open_goes_on_grow w args of_load.Missing = not (arg args 1 == read_mode) && is_identifier w.next_id
open_goes_on_grow w args of_load.TooLong = false
open_goes_on_grow w args (of_load.Found bytes) = is_identifier w.next_id
