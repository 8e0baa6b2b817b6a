-- The rows of the size of memory, of its ranges and of its heap (Glulx 3.1.2, "Memory Map", "Block Copy and Clear" and
-- "Memory Allocation Heap"), in the order of their numbers.
--
-- An instruction's pops are made in its `sp`, and PC becomes `next`. A fault in any line leaves the state as it is.
use Rattle.std.specs.Prelude.{ℕ, ◌+◌, ◌%◌, ◌==◌, ◌||◌, max, Bool, not, nat_lt}
use Rattle.std.specs.Prelude.{if◌then◌else◌, length, take, drop, replicate, Option, Some, None, Result, Ok, Err}
use Rattle.std.specs.Option.{ok_or}
use Rattle.gx_words.specs.declared.faults.Fault.{Fault}
use Rattle.gx_words.specs.declared.faults.Fault.TheVariants.{BadAddress, MemSize, HeapUse}
use Rattle.gx_words.specs.Numbers.{rounded_up}
use Rattle.gx_words.specs.Results.{◌>>=◌}
use Rattle.gx_words.specs.Constants.{ceiling}
use Rattle.heap_blocks.specs.Heap.{is_inactive, block_address}
use Rattle.gx_state.specs.declared.effects.Effect.{Effect}
use Rattle.gx_state.specs.Flat.{FlatState, written, write_fault}
use Rattle.gx_state.specs.Space.{with_size, with_block, without_block}
use Rattle.gx_operands.specs.Instructions.{Instruction, L1, L2, L3}
use Rattle.gx_operands.specs.Stores.{stores, goes}

-- THE SIZE OF MEMORY

-- 102 getmemsize (S1): S1 = the size of memory
unfoldable pub getmemsize : FlatState → Instruction → Result (FlatState × Effect) Fault
getmemsize f i = stores f i (length f.memory)

-- memory can't be so large, or its size can't be set since the heap is active
abbrev pub is_size_refused : FlatState → ℕ → Bool
is_size_refused f size = nat_lt ceiling size || not (is_inactive f.heap)

-- 103 setmemsize (L1 S1): sets the size of memory to L1; S1 = 0, or 1 where it is refused and stays. S1 is
-- stored in memory of the new size.
unfoldable pub setmemsize : FlatState → Instruction → Result (FlatState × Effect) Fault
setmemsize f i = if nat_lt (L1 i) f.story.header.endmem || not (L1 i % 256 == 0) then Err MemSize else
    if is_size_refused f (L1 i) then stores f i 1 else stores (with_size f (L1 i)) i 0

-- BLOCK COPY AND CLEAR

-- The fault of a range that is read, and that of one that is written. A range without a byte touches no address.
unfoldable pub source_fault : FlatState → ℕ → ℕ → Result (Unit {0}) Fault
source_fault f at n = if n == 0 then Ok tt else if nat_lt (length f.memory) (at + n) then Err BadAddress else Ok tt

unfoldable pub target_fault : FlatState → ℕ → ℕ → Result (Unit {0}) Fault
target_fault f at n = if n == 0 then Ok tt else write_fault f at n

-- 170 mzero (L1 L2): L1 zeros are written at L2
unfoldable pub mzero : FlatState → Instruction → Result (FlatState × Effect) Fault
mzero f i = target_fault f (L2 i) (L1 i) >>= λ _. goes (written f (L2 i) (replicate (L1 i) 0)) i

-- 171 mcopy (L1 L2 L3): the L1 bytes at L2 are written at L3, as if through a copy
unfoldable pub mcopy : FlatState → Instruction → Result (FlatState × Effect) Fault
mcopy f i = do
  _ ← source_fault f (L2 i) (L1 i)
  _ ← target_fault f (L3 i) (L1 i)
  goes (written f (L3 i) (take (L1 i) (drop (L2 i) f.memory))) i

-- MEMORY ALLOCATION HEAP

-- a block of L1 bytes at its place, if there is one, which memory covers; S1, its address, may be stored in it
abbrev pub allocated : FlatState → Instruction → Option ℕ → Result (FlatState × Effect) Fault
allocated f i None = stores f i 0
allocated f i (Some at) = stores (with_size f (max (length f.memory) (rounded_up (at + L1 i)))) i at >>= λ r.
    Ok (with_block r.0 (length f.memory) at (L1 i), r.1)

-- 178 malloc (L1 S1): S1 = the address of a new block of L1 bytes, or 0 where there is no place for it
unfoldable pub malloc : FlatState → Instruction → Result (FlatState × Effect) Fault
malloc f i =
    if L1 i == 0 then Err HeapUse else allocated f i (block_address f.heap (length f.memory) (L1 i) ceiling)

-- 179 mfree (L1): frees the block at L1
unfoldable pub mfree : FlatState → Instruction → Result (FlatState × Effect) Fault
mfree f i = ok_or (without_block f (L1 i)) HeapUse >>= λ g. goes g i
