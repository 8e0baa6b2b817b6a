use Rattle.glk_views.proofs.PartLaws.{wrapping_keeps_parts}
use Rattle.glk_views.proofs.wrapping_keeps_parts.Goals as goal

pub returns : goal.returns
returns c = wrapping_keeps_parts
