use Rattle.std.proofs.lemmas.Result.{MatchResult-weaker}
use Rattle.gx_pages.specs.Leaves.{IsLeaf, leaf_bytes}
use Rattle.gx_pages.specs.Nodes.{clones_whole, clones_flat}
use Rattle.gx_pages.proofs.table.share.Goals as goal

pub returns-clause-whole : goal.returns-clause-whole
returns-clause-whole g c =
    MatchResult-weaker c.clone.result c.clone.ensures.cases
    (λ w z. clones_whole IsLeaf c.args.leaves.now.items w.items z.0 c.requires)
    (λ y q. tt)

pub returns-clause-same : goal.returns-clause-same
returns-clause-same g c =
    MatchResult-weaker c.clone.result c.clone.ensures.cases
    (λ w z. clones_flat leaf_bytes c.args.leaves.now.items w.items z.0)
    (λ y q. tt)
