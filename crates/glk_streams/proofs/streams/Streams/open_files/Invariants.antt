use Rattle.std.proofs.Common.{◌≡◌, ◌++◌, drop}
use Rattle.glk_streams.specs.Streams.{open_files}
use Rattle.glk_streams.proofs.streams.Streams.open_files.Given as goal

abbrev pub invariant-loop-stream : goal.invariant-loop-stream
invariant-loop-stream l = l.ids ++ open_files (drop l.stream-index l.stream-items) ≡ open_files l.stream-items
