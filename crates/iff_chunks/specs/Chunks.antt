-- The chunks of a form (Quetzal 1.4, "Introduction to the IFF format").
use Rattle.std.specs.Prelude.{ℕ, zero, suc, ◌+◌, ◌*◌, ◌%◌, ◌==◌, nat_eq, ◌&&◌, Bool, not, nat_le, if◌then◌else◌, List}
use Rattle.std.specs.Prelude.{codes, [], ◌∷◌, length, take, drop, slice_index, Option, Result, Ok, Err}
use Rattle.std.specs.Str.{bytes_eq}
use Rattle.std.specs.List.{find, starts_with}
use Rattle.iff_chunks.specs.Faults.{◌>>=◌}
use Rattle.iff_chunks.specs.declared.faults.IffFault.{IffFault}
use Rattle.iff_chunks.specs.declared.faults.IffFault.TheVariants as fault
use Rattle.iff_chunks.specs.declared.parts.Part.{Part}
use Rattle.iff_chunks.specs.declared.parts.Sought.{Sought}
use Rattle.iff_chunks.specs.declared.parts.Sought.TheVariants.{Letters, Place}

-- a length: the big-endian number of four bytes
abbrev pub length_at : List ℕ → ℕ → ℕ
length_at bytes place =
    (slice_index bytes place * 256 + slice_index bytes (place + 1)) * 65536 +
    (slice_index bytes (place + 2) * 256 + slice_index bytes (place + 3))

-- four letters
abbrev pub id_at : List ℕ → ℕ → List ℕ
id_at bytes place =
    slice_index bytes place ∷ slice_index bytes (place + 1) ∷
    slice_index bytes (place + 2) ∷ slice_index bytes (place + 3) ∷ []

-- the chunk whose header is at a place of a form
unfoldable pub part_at : List ℕ → ℕ → Result Part IffFault
part_at form place =
    let size = length_at form (place + 4) in
    if not (nat_le (place + 8 + size) (length form)) then Err fault.Cut else
    Ok (record { id = id_at form place; at = place + 8; len = size })

-- The chunks from a place on, at most so many: a form has fewer of them than bytes. A body of odd length is filled up,
-- and then comes the next header.
unfoldable pub parts_from : ℕ → List ℕ → ℕ → Result (List Part) IffFault
parts_from zero form place = Ok []
parts_from (suc most) form place =
    if nat_le (length form) place then Ok [] else
    part_at form place >>= λ part.
    parts_from most form (part.at + part.len + part.len % 2) >>= λ parts. Ok (part ∷ parts)

abbrev pub begins_form : List ℕ → Bool
begins_form bytes = starts_with nat_eq bytes (codes "FORM")

-- A form of a kind at the start of the bytes, or the first fault of its header: FORM, the length from the kind on, the
-- kind.
unfoldable pub form_in : List ℕ → List ℕ → Result (List ℕ) IffFault
form_in bytes kind =
    if not (nat_le 12 (length bytes)) then Err fault.Cut else
    if not (begins_form bytes) then Err fault.NotForm else
    if not (bytes_eq (id_at bytes 8) kind) then Err fault.WrongKind else
    if not (nat_le 4 (length_at bytes 4) && nat_le (8 + length_at bytes 4) (length bytes)) then Err fault.Cut else
    Ok (take (8 + length_at bytes 4) bytes)

-- the chunks of a form of a kind, or the first fault
unfoldable pub chunks : List ℕ → List ℕ → Result (List Part) IffFault
chunks bytes kind = form_in bytes kind >>= λ form. parts_from (length form) form 12

-- the body of a chunk
abbrev pub body : List ℕ → Part → List ℕ
body bytes part = take part.len (drop part.at bytes)

-- a chunk is sought by its letters, or by the place where its header begins
abbrev pub is_sought : Sought → Part → Bool
is_sought (Letters id) part = bytes_eq part.id id
is_sought (Place place) part = part.at == place + 8

-- the first chunk of a form that is sought
abbrev pub part_found : Sought → Result (List Part) IffFault → Result (Option Part) IffFault
part_found sought form = form >>= λ parts. Ok (find (is_sought sought) parts)
