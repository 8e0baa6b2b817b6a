-- WHAT CONTRACTS NEED, and no reader of the theorem. The devices of job work, which hold nothing, by how often they
-- were called; the definition starts with those that weren't called (`work_start` of Jobs).
use Rattle.std.specs.Prelude.{ℕ, Bool, true, false, List, []}
use Rattle.gx_outside.specs.Files.{no_files}
use Rattle.gx_outside.specs.Outside.{FlatSource, FlatSink, FlatShelf}

-- a source in which nothing is left, after so many reads, which had room for so many bytes in all
abbrev pub no_source : ℕ → ℕ → FlatSource
no_source reads offered =
    record {
      calls = record { made = reads; faults = 0; failing = false; wanting = false };
      offered = offered;
      tells = true;
      left = [];
    }

-- a sink with this text, after so many sends, the last of which wanted memory or didn't
abbrev pub gathered : ℕ → Bool → List ℕ → FlatSink
gathered sends wanting text =
    record {
      calls = record { made = sends; faults = 0; failing = false; wanting = wanting };
      tells = true;
      taken = text;
    }

-- a shelf without files, after so many calls, the last of which wanted memory or didn't
abbrev pub no_shelf : ℕ → Bool → FlatShelf
no_shelf calls wanting =
    record {
      calls = record { made = calls; faults = 0; failing = false; wanting = wanting };
      tells = true;
      files = no_files;
    }
