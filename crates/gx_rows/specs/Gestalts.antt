-- The answers of the instruction gestalt (Glulx 3.1.2, "Miscellaneous").
use Rattle.std.specs.Prelude.{◌==◌, ◌||◌, ℕ, Bool, if◌then◌else◌}
use Rattle.gx_words.specs.Constants.{null_system, filter_system, glk_system}

-- The selectors. The last tells of hasundo and discardundo, which this machine has beside 3.1.2.
abbrev pub glulx_version : ℕ
glulx_version = 0

abbrev pub terp_version : ℕ
terp_version = 1

abbrev pub resize_mem : ℕ
resize_mem = 2

abbrev pub undo : ℕ
undo = 3

abbrev pub io_system : ℕ
io_system = 4

abbrev pub unicode : ℕ
unicode = 5

abbrev pub mem_copy : ℕ
mem_copy = 6

abbrev pub m_alloc : ℕ
m_alloc = 7

abbrev pub m_alloc_heap : ℕ
m_alloc_heap = 8

abbrev pub extended_undo : ℕ
extended_undo = 12

-- the I/O systems that the machine has
abbrev pub is_iosystem : ℕ → Bool
is_iosystem system = system == null_system || system == filter_system || system == glk_system

-- by selector and argument; the heap's start is 0 where the heap is inactive
unfoldable pub gestalt_of : ℕ → ℕ → ℕ → ℕ
gestalt_of selector argument heap_start =
    if selector == glulx_version then 0x00030103 else  -- 3.1.2, and hasundo and discardundo
    if selector == terp_version then 0x00010000 else  -- 1.0.0
    if selector == io_system then (if is_iosystem argument then 1 else 0) else
    if selector == m_alloc_heap then heap_start else
    if selector == resize_mem || selector == undo || selector == unicode then 1 else
    if selector == mem_copy || selector == m_alloc || selector == extended_undo then 1 else
    0  -- acceleration, floats, others
