use Rattle.std.proofs.Common.{ℕ}
use Rattle.std.proofs.lemmas.List.{take-replicate}
use Rattle.gx_pages.proofs.page.zeros.Goals as goal

pub returns : goal.returns
returns c = take-replicate {X = ℕ} c.args.count 256 0 c.requires
