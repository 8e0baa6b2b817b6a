-- The page before RAM, whose bytes are known but for the sizes, the count and the checksum.
use Rattle.std.proofs.Common.{◌≡◌, ◌<◌, ◌^◌, ◌++◌, ℕ, ◌+◌, ◌*◌, List, length, replicate, refl, sym, ◌∙◌}
use Rattle.gx_words.specs.Numbers.{word, bytes_of_word, bytes_of_number, spliced, sum_of_words}
use Rattle.gx_words.specs.Constants.{extstart_at, endmem_at, checksum_at}
use Rattle.gx_work.specs.Work.{page}
use Rattle.gx_work.specs.Laws.{HasHeader}
use Rattle.gx_work.specs.declared.TheConstants.{HEAD, COUNT_AT}
use Rattle.gx_work.proofs.Words.{read_back}

pub length-page : (count checksum : ℕ) → length (page count checksum) ≡ 256
unfolding page
length-page count checksum = refl

-- the checksum's word isn't summed up
pub page_put : (count checksum : ℕ)
    → spliced (page count 0) checksum_at (bytes_of_number 4 checksum) ≡ page count checksum
unfolding page
page_put count checksum = refl

pub page_read : (count checksum : ℕ) (rest : List ℕ) → checksum < 2 ^ 32
    → word (page count checksum ++ rest) checksum_at ≡ checksum
unfolding page
page_read count checksum rest fits = read_back checksum fits

pub page_sum : (count checksum : ℕ) → sum_of_words 64 (page count checksum) ≡ sum_of_words 64 (page count 0)
unfolding page sum_of_words
page_sum count checksum = refl

-- the page is made of the constant part and what depends on the count
pub page_made : (count : ℕ) (size_bytes count_bytes : List ℕ) (a b c d : List ℕ)
    → size_bytes ≡ bytes_of_word (0x100 + 4 * count) → count_bytes ≡ bytes_of_word count
    → a ≡ spliced (replicate 256 0) 0 HEAD → b ≡ spliced a extstart_at size_bytes → c ≡ spliced b endmem_at size_bytes
    → d ≡ spliced c COUNT_AT count_bytes
    → d ≡ page count 0
unfolding page
page_made count size_bytes count_bytes a b c d size_is count_is head extstart endmem words =
    rw (words, endmem, extstart, head, size_is, count_is) refl

-- the other words of the header
pub page_header : (count checksum : ℕ) (rest : List ℕ) → 0x100 + 4 * count < 2 ^ 32
    → length (page count checksum ++ rest) ≡ 0x100 + 4 * count → HasHeader (page count checksum ++ rest)
unfolding page
page_header count checksum rest fits size = record {
  magic = refl;
  version = refl;
  ramstart = refl;
  extstart = read_back (0x100 + 4 * count) fits ∙ sym size;
  endmem = read_back (0x100 + 4 * count) fits ∙ sym size;
  stack_size = refl;
  start_function = refl;
  table = refl;
}
