use Rattle.std.proofs.Common.{length, take}
use Rattle.std.proofs.lemmas.Bool.Decides.{Decides-eqb}
use Rattle.std.proofs.lemmas.Slice.Eq.{slice_eq-Decides}
use Rattle.gx_pages.proofs.Splice.{spliced_found}
use Rattle.gx_pages.proofs.chunk.begins.Goals as goal

pub returns : goal.returns
returns c same all at k made =
    let bytes = c.args.bytes.now in
    let there = c.args.there.now in
    spliced_found all bytes there at k made c.requires
    ((slice_eq-Decides Decides-eqb (take (length bytes) there) bytes c.eq.result c.eq.ensures).0 same)
