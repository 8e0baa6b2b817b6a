-- The numbers of streams that the standard fixes (Glk 0.7.5), and the one that it leaves open. The constants of code,
-- WRITE for write_mode and so on, are tied to these.
use Rattle.std.specs.Prelude.{ℕ}

-- how a file or memory is open ("File Streams", "Memory Streams"): filemode_Write, filemode_Read, filemode_ReadWrite,
-- filemode_WriteAppend
abbrev pub write_mode : ℕ
write_mode = 0x01

abbrev pub read_mode : ℕ
read_mode = 0x02

abbrev pub read_write_mode : ℕ
read_write_mode = 0x03

abbrev pub write_append_mode : ℕ
write_append_mode = 0x05

-- where a position is counted from ("Stream Positions"): seekmode_Start, seekmode_Current, seekmode_End
abbrev pub seek_start : ℕ
seek_start = 0

abbrev pub seek_current : ℕ
seek_current = 1

abbrev pub seek_end : ℕ
seek_end = 2

-- the most bytes that a file holds, which the standard leaves open
abbrev pub largest : ℕ
largest = 0x01000000
