-- What contracts see of the four objects that a run is handed.
use Rattle.std.specs.Prelude.{List}
use Rattle.gx_outside.specs.Outside.{FlatSource, FlatSink, FlatShelf}
use Rattle.gx_outside.specs.Reads.{SourceRead}
use Rattle.gx_outside.specs.Sends.{Send}
use Rattle.gx_outside.specs.Shelves.{Trace}
use Rattle.rand_core.specs.Stream.{Stream}

-- The source of input, the sink of text, the shelf of files, and the random words to come.
pub record Devices : Type 0 where
  pub source : FlatSource
  pub sink : FlatSink
  pub shelf : FlatShelf
  pub words : Stream
  pub reads : List SourceRead  -- the calls of the source, of the sink and of the shelf since the run began
  pub sends : List Send
  pub asked : Trace

abbrev pub devices : FlatSource → FlatSink → FlatShelf → Stream → List SourceRead → List Send → Trace → Devices
devices source sink shelf words reads sends asked =
    record { source = source; sink = sink; shelf = shelf; words = words; reads = reads; sends = sends; asked = asked }
