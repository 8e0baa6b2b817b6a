-- How an instruction's number is spelled (Glulx 3.1.2, "Instruction Format").
use Rattle.std.specs.Prelude.{◌==◌, ◌+◌, ◌-◌, ℕ, nat_lt, if◌then◌else◌, List, length, Option, Some, None}
use Rattle.gx_words.specs.Numbers.{byte, half, word, bytes_of_number}

-- the number and length of the opcode at the head of a list of bytes, unless it ends before
unfoldable pub opcode_of : List ℕ → Option (ℕ × ℕ)
opcode_of bytes =
    if length bytes == 0 then None else
    if nat_lt (byte bytes 0) 0x80 then Some (byte bytes 0, 1) else
    if nat_lt (byte bytes 0) 0xC0 then (if nat_lt (length bytes) 2 then None else Some (half bytes 0 - 0x8000, 2)) else
    (if nat_lt (length bytes) 4 then None else Some (word bytes 0 - 0xC0000000, 4))

-- the bytes of a number that is spelled in 1, 2 or 4 of them
abbrev pub spelled : ℕ → ℕ → List ℕ
spelled number size =
    bytes_of_number size (number + (if size == 1 then 0 else if size == 2 then 0x8000 else 0xC0000000))

-- how many bytes the shortest form of a number has
abbrev pub shortest : ℕ → ℕ
shortest number = if nat_lt number 0x80 then 1 else if nat_lt number 0x4000 then 2 else 4
