-- What holds of the story of a number.
use Rattle.std.specs.Prelude.{◌≡◌, ℕ, zero, suc, ◌+◌, List, length}
use Rattle.gx_words.specs.Constants.{magic_at, version_at, ramstart_at, extstart_at, endmem_at, stack_size_at}
use Rattle.gx_words.specs.Constants.{start_function_at, table_at, magic}
use Rattle.gx_words.specs.Numbers.{word}
use Rattle.gx_work.specs.Work.{work_word}

-- the sum of the first words of RAM
unfoldable pub ram_sum : ℕ → ℕ → ℕ
ram_sum zero number = 0
ram_sum (suc n) number = ram_sum n number + work_word number n

-- what the header says of the story
pub record HasHeader (story : List ℕ) : Type 0 where
  pub magic : word story magic_at ≡ magic
  pub version : word story version_at ≡ 0x00030102
  pub ramstart : word story ramstart_at ≡ 0x100
  pub extstart : word story extstart_at ≡ length story
  pub endmem : word story endmem_at ≡ length story
  pub stack_size : word story stack_size_at ≡ 0x100
  pub start_function : word story start_function_at ≡ 0x24
  pub table : word story table_at ≡ 0
