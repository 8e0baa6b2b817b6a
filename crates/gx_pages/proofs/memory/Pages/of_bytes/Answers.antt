use Rattle.std.proofs.Common.{sym, arith}
use Rattle.std.proofs.lemmas.List.{length-take-le}
use Rattle.gx_pages.proofs.memory.Pages.of_bytes.Goals as goal

pub slice_bounds-page_of-end : goal.slice_bounds-page_of-end
slice_bounds-page_of-end g c =
    sym (length-take-le 256 c.args.bytes.now (omega (arith, c.requires.whole.whole, c.requires.some)))

pub page_of-requires : goal.page_of-requires
page_of-requires g c =
    length-take-le 256 c.args.bytes.now (omega (arith, c.requires.whole.whole, c.requires.some))
