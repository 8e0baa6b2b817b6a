-- What the tests of a header say.
use Rattle.std.proofs.Common.{◌≡◌, ◌≤◌, ◌==◌, ◌&&◌, nat_le, ℕ, Bool, true, List, length, take}
use Rattle.std.proofs.lemmas.Bool.{leb-true, and_parts, eqb-true}
use Rattle.std.proofs.lemmas.List.{length-take-le}
use Rattle.gx_story.specs.declared.headers.Header.{Header}
use Rattle.gx_words.specs.Constants.{magic_at, ceiling, stack_limit, magic, header_len}
use Rattle.gx_story.specs.Constants.{first_version, last_version}
use Rattle.gx_words.specs.Numbers.{word}
use Rattle.gx_story.specs.Stories.{has_sizes, FlatStory, IsStory}

-- the story with this header whose stored part is at the start of the bytes
abbrev pub stored_story : Header → List ℕ → FlatStory
stored_story header bytes = record { header = header; bytes = take header.extstart bytes }

-- the tests that a header has to pass, by their names
abbrev pub has_header : List ℕ → Bool
has_header bytes = nat_le header_len (length bytes)

abbrev pub has_magic : List ℕ → Bool
has_magic bytes = word bytes magic_at == magic

abbrev pub has_version : Header → Bool
has_version header = nat_le first_version header.version && nat_le header.version last_version

abbrev pub is_within_limits : Header → Bool
is_within_limits header = nat_le header.endmem ceiling && nat_le header.stack_size stack_limit

abbrev pub has_stored_part : Header → List ℕ → Bool
has_stored_part header bytes = nat_le header.extstart (length bytes)

pub is_story : (header : Header) (bytes : List ℕ) → has_sizes header ≡ true → header.endmem ≤ ceiling
    → header.stack_size ≤ stack_limit → header.extstart ≤ length bytes → IsStory (stored_story header bytes)
is_story header bytes sizes memory stack stored =
    let g = and_parts _ _ sizes in
    let f = and_parts _ _ g.0 in
    let e = and_parts _ _ f.0 in
    let d = and_parts _ _ e.0 in
    let c = and_parts _ _ d.0 in
    let b = and_parts _ _ c.0 in
    record {
      ramstart_whole = eqb-true _ _ b.0;
      extstart_whole = eqb-true _ _ b.1;
      endmem_whole = eqb-true _ _ c.1;
      stack_whole = eqb-true _ _ d.1;
      header_first = leb-true _ _ e.1;
      ramstart_first = leb-true _ _ f.1;
      extstart_first = leb-true _ _ g.1;
      memory_limited = memory;
      stack_limited = stack;
      stored_whole = length-take-le header.extstart bytes stored;
    }
