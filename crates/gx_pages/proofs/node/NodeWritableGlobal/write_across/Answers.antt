use Rattle.std.proofs.Common.{ℕ, List, ap, ◌∙◌}
use Rattle.gx_words.specs.Numbers.{spliced}
use Rattle.gx_pages.specs.Nodes.{clones_flat, clones_whole}
use Rattle.gx_pages.proofs.node.NodeWritableGlobal.write_across.Goals as goal

pub put-requires-clause-whole : goal.put-requires-clause-whole
put-requires-clause-whole g c =
    clones_whole g.C.Chunk.IsWhole c.args.self.now.chunks c.in_ok-copy.copy.chunks c.in_ok-copy.ensures.cases.0
    c.requires.whole.whole

pub returns-clause-ok : goal.returns-clause-ok
returns-clause-ok g c =
    c.in_ok-put.ensures.ok
    ∙ ap (λ (m : List ℕ). spliced m c.args.at c.args.bytes.now)
    (clones_flat g.C.Chunk.bytes_of c.args.self.now.chunks c.in_ok-copy.copy.chunks c.in_ok-copy.ensures.cases.0)
