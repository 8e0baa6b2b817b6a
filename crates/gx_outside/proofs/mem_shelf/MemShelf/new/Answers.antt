use Rattle.gx_outside.proofs.ByName.{files_of-by_name}
use Rattle.gx_outside.proofs.mem_shelf.MemShelf.new.Goals as goal

pub returns-clause-none : goal.returns-clause-none
returns-clause-none c = files_of-by_name c.new.result c.new.ensures.empty
