use Rattle.std.proofs.Common.{◌≡◌, ◌++◌, drop}
use Rattle.std.specs.Str.{encode_utf8_all}
use Rattle.glk_files.specs.Names.{stem_of}
use Rattle.glk_files.proofs.Stem.{stem_within}
use Rattle.glk_files.proofs.names.stem.Given as goal

abbrev pub invariant-loop-v : goal.invariant-loop-v
invariant-loop-v l =
    l.name ++ encode_utf8_all (stem_within l.room (drop l.v-index l.chars)) ≡ encode_utf8_all (stem_of l.chars)
