-- What the code's plans stand for.
use Rattle.gx_rows.specs.Table.{row_at}
use Rattle.gx_operands.specs.declared.plan.Plan.{Plan}
use Rattle.gx_operands.specs.Instructions.{Operands, Instruction}
use Rattle.std.specs.Prelude.{ℕ, ◌≤◌}
use Rattle.gx_stack.specs.Values.{count}
use Rattle.gx_state.specs.Flat.{FlatState, frame_of}

-- what the operands so far gave, while they are read
abbrev pub operands_of : Plan → Operands
operands_of p =
    record {
      loads = p.loads.items;
      dest = p.dest;
      second = p.second;
      stored = p.stored;
      cursor = record { at = p.next; popped = p.popped };
    }

abbrev pub instruction_of : Plan → Instruction
instruction_of p =
    record { row = row_at p.row; loads = p.loads.items; dest = p.dest; second = p.second; next = p.next; sp = p.sp }

-- the frame has so many values
abbrev pub HasValues : FlatState → ℕ → Type 0
HasValues f values = values ≤ count f.stack.bytes (frame_of f)
