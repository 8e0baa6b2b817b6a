-- Story files (Glulx 3.1.2, "The Header"): which are accepted, as what, and with which fault others
-- are refused.
use Rattle.std.specs.Prelude.{ℕ, ◌/◌, ◌%◌, ◌^◌, ◌==◌, nat_le, ◌&&◌, Bool, not, if◌then◌else◌, List, length, take}
use Rattle.std.specs.Prelude.{Result, Ok, Err, ◌≡◌, ◌≤◌}
use Rattle.gx_words.specs.Constants.{magic_at, version_at, ramstart_at, extstart_at, endmem_at, stack_size_at}
use Rattle.gx_words.specs.Constants.{start_function_at, table_at, ceiling, stack_limit, magic, checksum_at, header_len}
use Rattle.gx_story.specs.Constants.{first_version, last_version}
use Rattle.gx_words.specs.Numbers.{word, sum_of_words}
use Rattle.gx_words.specs.Results.{◌>>=◌}
use Rattle.iff_chunks.specs.Chunks.{begins_form}
use Rattle.gx_story.specs.Blorbs.{story_in}
use Rattle.gx_story.specs.declared.faults.StoryFault.{StoryFault}
use Rattle.gx_story.specs.declared.faults.StoryFault.TheVariants as fault
use Rattle.gx_story.specs.declared.headers.Header.{Header}

-- a header, and the stored part
pub record FlatStory : Type 0 where
  pub header : Header
  pub bytes : List ℕ

-- the words of a header in their order, the magic left out
abbrev pub header_at_start : List ℕ → Header
header_at_start bytes = record {
  version = word bytes version_at;
  ramstart = word bytes ramstart_at;
  extstart = word bytes extstart_at;
  endmem = word bytes endmem_at;
  stack_size = word bytes stack_size_at;
  start_function = word bytes start_function_at;
  table = word bytes table_at;
  checksum = word bytes checksum_at;
}

-- the sizes are whole pages, in order
abbrev pub is_whole : ℕ → Bool
is_whole size = size % 256 == 0

abbrev pub has_sizes : Header → Bool
has_sizes header =
    is_whole header.ramstart && is_whole header.extstart && is_whole header.endmem && is_whole header.stack_size &&
    nat_le 256 header.ramstart && nat_le header.ramstart header.extstart && nat_le header.extstart header.endmem

-- the header of a bare story, or its first fault
unfoldable pub header : List ℕ → Result Header StoryFault
header bytes =
    let h = header_at_start bytes in
    if not (nat_le header_len (length bytes)) then Err fault.Short else
    if not (word bytes magic_at == magic) then Err fault.NotGlulx else
    if not (nat_le first_version h.version && nat_le h.version last_version) then Err fault.Version else
    if not (has_sizes h) then Err fault.Sizes else
    if not (nat_le h.endmem ceiling && nat_le h.stack_size stack_limit) then Err fault.TooLarge else
    if not (nat_le h.extstart (length bytes)) then Err fault.Cut else Ok h

-- a bare story: its header, and then as many bytes as EXTSTART says
unfoldable pub bare : List ℕ → Result FlatStory StoryFault
bare bytes = header bytes >>= λ header. Ok (record { header = header; bytes = take header.extstart bytes })

-- the story of a file: a Blorb where it begins with FORM, else bare
unfoldable pub accepted : List ℕ → Result FlatStory StoryFault
accepted bytes = if begins_form bytes then story_in bytes >>= bare else bare bytes

-- the header states the sum modulo 2^32 of the stored part's words
abbrev pub is_checked : FlatStory → Bool
is_checked story = sum_of_words (length story.bytes / 4) story.bytes % 2 ^ 32 == story.header.checksum

-- WHAT CONTRACTS SAY

-- what holds of every story that is accepted
pub record IsStory (story : FlatStory) : Type 0 where
  pub ramstart_whole : story.header.ramstart % 256 ≡ 0
  pub extstart_whole : story.header.extstart % 256 ≡ 0
  pub endmem_whole : story.header.endmem % 256 ≡ 0
  pub stack_whole : story.header.stack_size % 256 ≡ 0
  pub header_first : 256 ≤ story.header.ramstart
  pub ramstart_first : story.header.ramstart ≤ story.header.extstart
  pub extstart_first : story.header.extstart ≤ story.header.endmem
  pub memory_limited : story.header.endmem ≤ ceiling
  pub stack_limited : story.header.stack_size ≤ stack_limit
  pub stored_whole : length story.bytes ≡ story.header.extstart
