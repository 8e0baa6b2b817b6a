-- The rows that search (Glulx 3.1.2, "Searching"), in the order of their numbers.
--
-- A fault in any line leaves the state as it is.
use Rattle.std.specs.Prelude.{ℕ, Bool, false, if◌then◌else◌, Option, Some, None, Result}
use Rattle.gx_words.specs.declared.faults.Fault.{Fault}
use Rattle.gx_words.specs.Results.{◌>>=◌}
use Rattle.gx_search.specs.declared.asks.Ask.{Ask}
use Rattle.gx_search.specs.Constants.{return_index}
use Rattle.gx_search.specs.Keys.{has_option}
use Rattle.gx_search.specs.Searches.{Struct, Search, search_of}
use Rattle.gx_search.specs.declared.turns.Layout.TheVariants as layout
use Rattle.gx_search.specs.Halving.{binary}
use Rattle.gx_state.specs.declared.effects.Effect.{Effect}
use Rattle.gx_state.specs.Flat.{FlatState}
use Rattle.gx_operands.specs.Instructions.{Instruction, L1, L2, L3, L4, L5, L6, L7}
use Rattle.gx_operands.specs.Stores.{stores}
use Rattle.ops_memory.specs.declared.searches.Method.{Method}
use Rattle.ops_memory.specs.declared.searches.Method.TheVariants.{Linear, Binary, Linked}

-- what is asked of a row of structs: L1 to L7 are the key, its size, the start, the size of a struct, the count,
-- the offset of keys and the options
abbrev pub row_ask : Instruction → Ask
row_ask i = record {
  key = L1 i;
  key_size = L2 i;
  start = L3 i;
  struct_size = L4 i;
  count = L5 i;
  key_offset = L6 i;
  next_offset = 0;
  options = L7 i;
}

-- and of a list of structs: L1 to L6 are the key, its size, the start, the offset of keys, that of links, and
-- the options
abbrev pub list_ask : Instruction → Ask
list_ask i = record (row_ask i) { struct_size = 0; count = 0; key_offset = L4 i; next_offset = L5 i; options = L6 i }

-- the search of each method, and whether its S1 is an index
abbrev pub search_by : Method → FlatState → Instruction → Search
search_by Linear f i = search_of layout.Row f.memory (row_ask i)
search_by Binary f i = binary f.memory (row_ask i)
search_by Linked f i = search_of layout.List f.memory (list_ask i)

abbrev pub is_indexed : Method → Instruction → Bool
is_indexed Linked i = false
is_indexed m i = has_option (row_ask i) return_index

-- S1 = the address of the struct that is found, or 0; as an index, or FFFFFFFF
abbrev pub found_word : Bool → Option Struct → ℕ
found_word indexed None = if indexed then 0xFFFFFFFF else 0
found_word indexed (Some s) = if indexed then s.index else s.address

abbrev pub searches : Method → FlatState → Instruction → Result (FlatState × Effect) Fault
searches m f i = (search_by m f i).outcome >>= λ found. stores f i (found_word (is_indexed m i) found)

-- 150 linearsearch (L1 L2 L3 L4 L5 L6 L7 S1): S1 = the first struct of a row that has the key
unfoldable pub linearsearch : FlatState → Instruction → Result (FlatState × Effect) Fault
linearsearch f i = searches Linear f i

-- 151 binarysearch (L1 L2 L3 L4 L5 L6 L7 S1): S1 = a struct that has the key in a row whose keys rise
unfoldable pub binarysearch : FlatState → Instruction → Result (FlatState × Effect) Fault
binarysearch f i = searches Binary f i

-- 152 linkedsearch (L1 L2 L3 L4 L5 L6 S1): S1 = the first struct of a list that has the key, always its address
unfoldable pub linkedsearch : FlatState → Instruction → Result (FlatState × Effect) Fault
linkedsearch f i = searches Linked f i
