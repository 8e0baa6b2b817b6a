-- a story has 256 bytes at least
use Rattle.std.proofs.Common.{ap, arith, length}
use Rattle.std.proofs.lemmas.List.{length-take}
use Rattle.quetzal.proofs.chunks.is_of_story.Goals as goal

pub slice_bounds-eq-end : goal.slice_bounds-eq-end
slice_bounds-eq-end c =
    let s = c.bytes.ensures.sound in
    omega (
      arith,
      length-take 128 c.bytes.result.now,
      ap length c.bytes.ensures.value,
      s.stored_whole,
      s.ramstart_first,
      s.header_first,
    )
