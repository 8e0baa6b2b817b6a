-- The story of every number is accepted, and can be started.
use Rattle.std.proofs.Common.{◌≡◌, ℕ, ◌+◌, ◌-◌, ◌*◌, ◌%◌, ◌^◌, ◌<◌, ◌≤◌, nat_le, not, if◌then◌else◌, Bool, true, false}
use Rattle.std.proofs.Common.{List, [], ◌∷◌, ◌++◌, length, take, replicate, Some, is_some, IsSome, Result, Ok, Err}
use Rattle.std.proofs.Common.{refl, ap, sym, ◌∙◌, append_assoc, arith}
use Rattle.std.specs.Option.{option_and_then}
use Rattle.std.specs.Result.{result_ok}
use Rattle.std.proofs.lemmas.Bool.{le-leb}
use Rattle.std.proofs.lemmas.Bool.Decides.{nat_tests}
use Rattle.std.proofs.lemmas.List.{length-append, take_all}
use Rattle.gx_words.specs.Constants.{extstart_at, ceiling}
use Rattle.gx_words.specs.Numbers.{byte, word, sum_of_words}
use Rattle.iff_chunks.specs.Chunks.{begins_form}
use Rattle.gx_words.specs.declared.faults.Fault.{Fault}
use Rattle.gx_story.specs.declared.faults.StoryFault.{StoryFault}
use Rattle.gx_story.specs.Stories.{FlatStory, accepted, bare, header, header_at_start, has_sizes}
use Rattle.gx_story.specs.Stories.{is_whole}
use Rattle.gx_story.proofs.HeaderTests.{stored_story, has_header, has_magic, has_version, is_within_limits}
use Rattle.gx_story.proofs.HeaderTests.{has_stored_part}
use Rattle.gx_pages.specs.Memory.{number_in}
use Rattle.gx_stack.specs.Formats.{locals_len}
use Rattle.gx_state.specs.Entry.{kind_at, format_from, function_at, entered, started, initial}
use Rattle.gx_machine.specs.Machine.{Whole}
use Rattle.gx_machine.specs.Start.{first_machine}
use Rattle.gx_work.specs.Work.{page, ram, ram_count, work_story_with, work_story}
use Rattle.gx_work.proofs.Pages.{length-page}
use Rattle.gx_work.proofs.Stories.{length-work, headed}
use Rattle.gx_play.specs.Constants.{usual_depth}
use Rattle.gx_play.specs.Jobs.{work_machine}

-- THE FILE
all-passed : {X E : Type 0} (a b c d e f : Bool) (short magic version sizes large cut : E) (x : X) → a ≡ true
    → b ≡ true → c ≡ true → d ≡ true → e ≡ true → f ≡ true
    → (let r : Result X E =
    if not a then Err short else if not b then Err magic else if not c then Err version else if not d then Err sizes
    else
    if not e then Err large else if not f then Err cut else Ok x in r ≡ Ok x)
all-passed a b c d e f short magic version sizes large cut x pa pb pc pd pe pf = rw (pa, pb, pc, pd, pe, pf) refl

module _ (number : ℕ) where
  size : ℕ
  size = 0x100 + 4 * ram_count number

  is-no-form : begins_form (work_story number) ≡ false
  unfolding work_story work_story_with page
  is-no-form = refl

  passes-header : has_header (work_story number) ≡ true
  passes-header = rw (length-work number) (grind (arith, nat_tests))

  passes-magic : has_magic (work_story number) ≡ true
  passes-magic = let h = headed number in rw h.magic refl

  passes-version : has_version (header_at_start (work_story number)) ≡ true
  passes-version = let h = headed number in rw h.version refl

  whole : is_whole (0x100 + 4 * ram_count number) ≡ true
  whole = grind (arith, nat_tests)

  not-below : nat_le 0x100 (0x100 + 4 * ram_count number) ≡ true
  not-below = grind (arith, nat_tests)

  not-above : nat_le (0x100 + 4 * ram_count number) ceiling ≡ true
  not-above = grind (arith, nat_tests)

  itself : nat_le (0x100 + 4 * ram_count number) (0x100 + 4 * ram_count number) ≡ true
  itself = grind (arith, nat_tests)

  passes-sizes : has_sizes (header_at_start (work_story number)) ≡ true
  passes-sizes = let h = headed number in
      rw (h.ramstart, h.extstart, h.endmem, h.stack_size, length-work number, whole, not-below, itself) refl

  passes-limits : is_within_limits (header_at_start (work_story number)) ≡ true
  passes-limits = let h = headed number in rw (h.endmem, h.stack_size, length-work number, not-above) refl

  passes-stored : has_stored_part (header_at_start (work_story number)) (work_story number) ≡ true
  passes-stored = let h = headed number in rw (h.extstart, length-work number, itself) refl

  header-is : header (work_story number) ≡ Ok (header_at_start (work_story number))
  unfolding header
  header-is =
      let bytes = work_story number in
      all-passed (has_header bytes) (has_magic bytes) (has_version (header_at_start bytes))
      (has_sizes (header_at_start bytes)) (is_within_limits (header_at_start bytes))
      (has_stored_part (header_at_start bytes) bytes) _ _ _ _ _ _ (header_at_start bytes)
      passes-header passes-magic passes-version passes-sizes passes-limits passes-stored

  abbrev pub story : FlatStory
  story = stored_story (header_at_start (work_story number)) (work_story number)

  pub accepts : accepted (work_story number) ≡ Ok story
  unfolding accepted bare
  accepts = rw (is-no-form, header-is) refl

-- THE START FUNCTION: its type and its format are read from the first page
module _ (count checksum : ℕ) (rest : List ℕ) where
  inside : (at : ℕ) → at < 256 → nat_le (at + 1) (length (page count checksum ++ rest)) ≡ true
  inside at here = rw (length-append (page count checksum) rest, length-page count checksum)
      (le-leb (at + 1) (256 + length rest) (omega arith))

  reads : (at v : ℕ) → at < 256 → byte (page count checksum ++ rest) at ≡ v
      → number_in 1 (page count checksum ++ rest) at ≡ Ok v
  unfolding number_in
  reads at v here is = rw (inside at here, is) refl

  reads-type : number_in 1 (page count checksum ++ rest) 0x24 ≡ Ok 0xC1
  unfolding page
  reads-type = reads 0x24 0xC1 (omega arith) refl

  reads-locals : number_in 1 (page count checksum ++ rest) 0x25 ≡ Ok 4
  unfolding page
  reads-locals = reads 0x25 4 (omega arith) refl

  reads-count : number_in 1 (page count checksum ++ rest) 0x26 ≡ Ok 2
  unfolding page
  reads-count = reads 0x26 2 (omega arith) refl

  reads-end : number_in 1 (page count checksum ++ rest) 0x27 ≡ Ok 0
  unfolding page
  reads-end = reads 0x27 0 (omega arith) refl

  reads-last : number_in 1 (page count checksum ++ rest) 0x28 ≡ Ok 0
  unfolding page
  reads-last = reads 0x28 0 (omega arith) refl

  function-is : function_at (page count checksum ++ rest) 0x24 0 0 0x100 ≡ Ok (0xC1, 4 ∷ 2 ∷ 0 ∷ 0 ∷ [])
  unfolding function_at kind_at format_from locals_len
  function-is = rw (reads-type, reads-locals, reads-count, reads-end, reads-last) refl

starts : (story : FlatStory) (memory : List ℕ) (x : ℕ × List ℕ) → (initial story).memory ≡ memory
    → story.header.start_function ≡ 0x24 → story.header.stack_size ≡ 0x100
    → function_at memory 0x24 0 0 0x100 ≡ Ok x → is_some (result_ok (first_machine story usual_depth)) ≡ true
unfolding first_machine started entered
starts story memory x same start stack function = rw (same, start, stack, function) refl

-- memory begins with the first page
module _ (number : ℕ) where
  abbrev checksum : ℕ
  checksum = sum_of_words (64 + ram_count number) (work_story_with number 0) % 2 ^ 32

  begins : (zeros : List ℕ) → take (word (work_story number) extstart_at) (work_story number) ++ zeros
      ≡ page (ram_count number) checksum ++ (ram (ram_count number) number ++ zeros)
  unfolding work_story work_story_with
  begins zeros =
      let h = headed number in
      let short : length (work_story number) ≤ word (work_story number) extstart_at = omega (arith, h.extstart) in
      ap (λ (b : List ℕ). b ++ zeros) (take_all (word (work_story number) extstart_at) (work_story number) short)
      ∙ append_assoc (page (ram_count number) checksum) (ram (ram_count number) number) zeros

  pub works : IsSome (work_machine number)
  unfolding work_machine
  works =
      let h = headed number in
      let s : FlatStory = story number in
      let zeros : List ℕ = replicate (s.header.endmem - length s.bytes) 0 in
      rw (accepts number) (starts s (page (ram_count number) checksum ++ (ram (ram_count number) number ++ zeros))
      (0xC1, 4 ∷ 2 ∷ 0 ∷ 0 ∷ []) (begins zeros) h.start_function h.stack_size
      (function-is (ram_count number) checksum (ram (ram_count number) number ++ zeros)))

  -- the machine that was started
  pub started-by : (bytes : List ℕ) (s : FlatStory) (w : Whole) → bytes ≡ work_story number → accepted bytes ≡ Ok s
      → first_machine s usual_depth ≡ Ok w → work_machine number ≡ Some w
  unfolding work_machine
  started-by bytes s w is accepts-it starts-it =
      ap (λ (r : Result FlatStory StoryFault).
      option_and_then (λ (story : FlatStory). result_ok (first_machine story usual_depth)) (result_ok r))
      (ap accepted (sym is) ∙ accepts-it)
      ∙ ap (λ (r : Result Whole Fault). result_ok r) starts-it
