-- the page and the words of RAM so far
use Rattle.std.proofs.Common.{◌≡◌, ◌++◌}
use Rattle.gx_work.specs.Work.{page, ram}
use Rattle.gx_work.proofs.make_story.Given as goal

abbrev pub invariant-loop-index : goal.invariant-loop-index
invariant-loop-index l = l.story ≡ page l.count l.checksum ++ ram l.index l.number
