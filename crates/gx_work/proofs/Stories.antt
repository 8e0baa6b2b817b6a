-- The sum of a story's words is that of its page and of its RAM.
use Rattle.std.proofs.Common.{◌≡◌, ◌<◌, ◌≤◌, ◌+◌, ◌*◌, ◌/◌, ◌%◌, ◌^◌, ◌++◌, ℕ, List, length, refl, ap, ◌∙◌}
use Rattle.std.proofs.Common.{append_assoc, append-nil, arith}
use Rattle.std.proofs.lemmas.List.{length-append}
use Rattle.gx_words.specs.Numbers.{word, bytes_of_word, bytes_of_number, spliced, sum_of_words}
use Rattle.gx_words.specs.Constants.{checksum_at}
use Rattle.gx_work.specs.Work.{page, ram, ram_count, work_word, work_story_with, work_story}
use Rattle.gx_work.specs.Laws.{ram_sum, HasHeader}
use Rattle.gx_work.proofs.Words.{length-ram, sum_with_ram}
use Rattle.gx_work.proofs.Pages.{length-page, page_header, page_put, page_read, page_sum}
use Rattle.gx_work.proofs.Turns.{ram_first, ram_more}

story_sum : (number checksum : ℕ)
    → sum_of_words (64 + ram_count number) (work_story_with number checksum)
    ≡ sum_of_words 64 (page (ram_count number) 0) + ram_sum (ram_count number) number
unfolding work_story_with
story_sum number checksum =
    sum_with_ram (ram_count number) number (page (ram_count number) checksum) (length-page (ram_count number) checksum)
    ∙ ap (λ (n : ℕ). n + ram_sum (ram_count number) number) (page_sum (ram_count number) checksum)

length-story : (number checksum : ℕ) → length (work_story_with number checksum) ≡ 0x100 + 4 * ram_count number
unfolding work_story_with
length-story number checksum =
    let count = ram_count number in
    rw (length-append (page count checksum) (ram count number), length-page count checksum, length-ram count number)
    refl

pub length-work : (number : ℕ) → length (work_story number) ≡ 0x100 + 4 * ram_count number
unfolding work_story
length-work number = length-story number (sum_of_words (64 + ram_count number) (work_story_with number 0) % 2 ^ 32)

checksum_read : (number checksum : ℕ) → checksum < 2 ^ 32
    → word (work_story_with number checksum) checksum_at ≡ checksum
unfolding work_story_with
checksum_read number checksum fits = page_read (ram_count number) checksum (ram (ram_count number) number) fits

-- the checksum's word is the sum of the others
pub checked : (number : ℕ)
    → word (work_story number) checksum_at ≡ sum_of_words (length (work_story number) / 4) (work_story number) % 2 ^ 32
unfolding work_story
checked number =
    let count = ram_count number in
    let sum = sum_of_words (64 + count) (work_story_with number 0) % 2 ^ 32 in
    let words : length (work_story_with number sum) / 4 ≡ 64 + count = omega (arith, length-story number sum) in
    checksum_read number sum (omega arith) ∙ rw (words, story_sum number sum, story_sum number 0) refl

pub headed : (number : ℕ) → HasHeader (work_story number)
unfolding work_story work_story_with
headed number =
    let count = ram_count number in
    let checksum = sum_of_words (64 + count) (work_story_with number 0) % 2 ^ 32 in
    page_header count checksum (ram count number) (omega arith) (length-story number checksum)

-- the story from its parts
pub made : (number page_part ram_part : ℕ) → page_part ≡ sum_of_words 64 (page (ram_count number) 0) % 2 ^ 32
    → ram_part ≡ ram_sum (ram_count number) number % 2 ^ 32
    → page (ram_count number) ((page_part + ram_part) % 2 ^ 32) ++ ram (ram_count number) number ≡ work_story number
unfolding work_story work_story_with
made number page_part ram_part a b =
    let sum : (page_part + ram_part) % 2 ^ 32 ≡ sum_of_words (64 + ram_count number) (work_story_with number 0) % 2
    ^ 32 = rw (story_sum number 0) (omega arith) in
    ap (work_story_with number) sum

-- the turns of the loop that adds RAM
pub begun : (number count page_part ram_part : ℕ) (blank put story : List ℕ) → blank ≡ page count 0
    → put ≡ spliced blank checksum_at (bytes_of_number 4 ((page_part + ram_part) % 2 ^ 32)) → story ≡ put
    → story ≡ page count ((page_part + ram_part) % 2 ^ 32) ++ ram 0 number
begun number count page_part ram_part blank put story blank_is put_is story_is =
    rw (story_is, put_is, blank_is, page_put count ((page_part + ram_part) % 2 ^ 32), ram_first number, append-nil) refl

pub grown : (number count checksum index : ℕ) (story added new : List ℕ)
    → story ≡ page count checksum ++ ram index number → added ≡ bytes_of_word (work_word number index)
    → new ≡ story ++ added
    → new ≡ page count checksum ++ ram (index + 1) number
grown number count checksum index story added new before word_is new_is =
    rw (new_is, before, word_is, ram_more index number, append_assoc) refl

pub done : (number page_part ram_part index : ℕ) (blank story : List ℕ) → blank ≡ page (ram_count number) 0
    → page_part ≡ sum_of_words (length blank / 4) blank % 2 ^ 32
    → ram_part ≡ ram_sum (ram_count number) number % 2 ^ 32
    → story ≡ page (ram_count number) ((page_part + ram_part) % 2 ^ 32) ++ ram index number
    → ram_count number ≤ index → index ≤ ram_count number → story ≡ work_story number
done number page_part ram_part index blank story blank_is page_is ram_is before above below =
    let all : index ≡ ram_count number = omega arith in
    let words : length blank / 4 ≡ 64 = rw (blank_is, length-page (ram_count number) 0) refl in
    let page_sum_is : page_part ≡ sum_of_words 64 (page (ram_count number) 0) % 2 ^ 32 =
    rw (page_is, words, blank_is) refl in
    before ∙ ap (λ (n : ℕ). page (ram_count number) ((page_part + ram_part) % 2 ^ 32) ++ ram n number) all
    ∙ made number page_part ram_part page_sum_is ram_is
