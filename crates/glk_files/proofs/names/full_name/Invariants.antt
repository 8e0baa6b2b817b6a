use Rattle.std.proofs.Common.{◌≡◌, ◌++◌}
use Rattle.std.specs.Str.Iter.{chars_rest}
use Rattle.glk_files.specs.Names.{suffix_of}
use Rattle.glk_files.proofs.names.full_name.Given as goal

abbrev pub invariant-loop-c : goal.invariant-loop-c
invariant-loop-c l = l.name ++ chars_rest l.c-iterator ≡ l.base ++ suffix_of l.usage
