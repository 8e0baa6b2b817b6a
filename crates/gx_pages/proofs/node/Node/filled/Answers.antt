use Rattle.std.proofs.Common.{◌≡◌, ℕ, ◌*◌, length, replicate, ap, subst, sym, ◌∙◌, arith}
use Rattle.std.proofs.Math.Nat.{mul_comm}
use Rattle.gx_pages.proofs.Flat.{all_whole, zeros_flat}
use Rattle.gx_pages.proofs.node.Node.filled.Goals as goal

pub returns-clause-whole : goal.returns-clause-whole
returns-clause-whole g c =
    let all = c.in_ok-owners.field-0 in
    let count : length all ≡ 16 = c.in_ok-owners.ensures.count in
    record {
      whole = all_whole g.C.Chunk.IsWhole all
          (λ i d l. subst g.C.Chunk.IsWhole (sym (c.in_ok-owners.ensures.same i d (omega arith))) c.requires);
      count = count;
    }

pub returns-clause-zero : goal.returns-clause-zero
returns-clause-zero g c = λ zero.
    let all = c.in_ok-owners.field-0 in
    let n = g.C.Chunk.SIZE in
    let count : length all ≡ 16 = c.in_ok-owners.ensures.count in
    zeros_flat g.C.Chunk.bytes_of n all (λ i d l.
    ap g.C.Chunk.bytes_of (c.in_ok-owners.ensures.same i d (omega arith)) ∙ zero)
    ∙ ap (λ (k : ℕ). replicate (n * k) 0) count
    ∙ ap (λ (k : ℕ). replicate k 0) (mul_comm n 16)
