-- a bit of memory is stored
use Rattle.std.proofs.Common.{◌/◌, ◌%◌, ◌^◌, ℕ, ap, ◌∙◌}
use Rattle.gx_machine.proofs.Fetching.{bit_stored}
use Rattle.gx_machine.proofs.quick.fetch_bit.Goals as goal

pub returns-clause-value : goal.returns-clause-value
returns-clause-value g c =
    let read = rw (c.memory.ensures.value, c.byte_of_bit.ensures) at c.in_ok-byte.ensures.value in
    bit_stored _ _ _ _ _ _ _ _ _ _ c.requires.class c.requires.number read
    (c.bit_of-bit.ensures ∙ ap (λ (k : ℕ). c.in_ok-byte.byte / 2 ^ k % 2) c.bit_in_byte.ensures.value)
    c.store_on.ensures.value
