-- The streams in order of creation.
use Rattle.std.specs.Prelude.{ℕ, ◌==◌, not, Bool, List, map, filter, Option}
use Rattle.std.specs.List.{list_any}
use Rattle.glk_objects.specs.Objects as objects
use Rattle.glk_streams.specs.declared.kinds.StreamKind.TheVariants as kinds
use Rattle.glk_streams.specs.declared.kinds.Stream.{Stream}
use Rattle.glk_streams.specs.Stream.{window_of, file_in, is_stored}

abbrev pub id_of : Stream → ℕ
id_of s = s.id

-- what stands for a stream that isn't there
abbrev pub no_stream : Stream
no_stream =
    record { id = 0; kind = kinds.Window 0; mode = 0; rock = 0; position = 0; highest = 0; read = 0; written = 0 }

abbrev pub has : List Stream → ℕ → Bool
has streams id = objects.has id_of streams id

abbrev pub stream : List Stream → ℕ → Stream
stream streams id = objects.at id_of no_stream streams id

-- the stream of this one's identifier becomes this one
abbrev pub with_stream : List Stream → Stream → List Stream
with_stream streams new = objects.with id_of streams new

-- the name and content of a file stream; the stream that stands for none has no file
abbrev pub file_of : List Stream → ℕ → Option (List ℕ × List ℕ)
file_of streams id = file_in (stream streams id).kind

-- the streams of windows that are gone are gone
abbrev pub without_windows : List Stream → List ℕ → List Stream
without_windows streams gone = filter (λ s. not (list_any (λ win. win == window_of s) gone)) streams

-- the files that have to be stored
abbrev pub open_files : List Stream → List ℕ
open_files streams = map id_of (filter (λ s. is_stored s.kind s) streams)
