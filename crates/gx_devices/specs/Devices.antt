-- What contracts see of the program's devices. None of them tells what it holds.
use Rattle.std.specs.Prelude.{ℕ, [], Option, false}
use Rattle.std.specs.declared.io.Error.{Error}
use Rattle.gx_outside.specs.declared.calls.Calls.{Calls}
use Rattle.gx_outside.specs.Files.{no_files}
use Rattle.gx_outside.specs.Outside.{FlatSource, FlatSink, FlatShelf}
use Rattle.gx_devices.specs.Last.{FlatCall}

-- a source over a reader, with the error of the last read that failed
pub record HeldSource (I : Type 0) : Type 0 where
  pub reader : I
  pub calls : Calls
  pub offered : ℕ
  pub error : Option Error

abbrev pub seen_source : {I : Type 0} → HeldSource I → FlatSource
seen_source s = record { calls = s.calls; offered = s.offered; tells = false; left = [] }

-- a sink over a writer, with the error of the last send that failed
pub record HeldSink (W : Type 0) : Type 0 where
  pub writer : W
  pub calls : Calls
  pub error : Option Error

abbrev pub seen_sink : {W : Type 0} → HeldSink W → FlatSink
seen_sink s = record { calls = s.calls; tells = false; taken = [] }

-- the folder, with its last call
pub record HeldFolder : Type 0 where
  pub calls : Calls
  pub last : Option FlatCall

abbrev pub seen_folder : HeldFolder → FlatShelf
seen_folder s = record { calls = s.calls; tells = false; files = no_files }
