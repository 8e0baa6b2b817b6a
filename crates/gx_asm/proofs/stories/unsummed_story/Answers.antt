use Rattle.std.proofs.Common.{◌≡◌, arith}
use Rattle.gx_asm.specs.Stories.{story_len}
use Rattle.gx_asm.proofs.Wrapped.{unsummed_made}
use Rattle.gx_asm.proofs.stories.unsummed_story.Goals as goal

pub returns : goal.returns
returns c =
    let low = c.next_multiple_of-size.ensures.lower_bound in
    let high = c.next_multiple_of-size.ensures.upper_bound in
    let whole = c.next_multiple_of-size.ensures.multiple in
    let size : c.next_multiple_of-size.result ≡ story_len c.args.code.now = omega (arith, low, high, whole) in
    unsummed_made c.args.code.now c.head.result _ _ _ c.next_multiple_of-size.result size c.head.ensures
    (rw c.in_ok-story.ensures.value at c.in_ok-extend_from_slice.ensures.ok) c.in_ok-extend_from_slice-2.ensures.ok
    (rw c.len.ensures at c.in_ok-extend_from_slice-3.ensures.ok)
