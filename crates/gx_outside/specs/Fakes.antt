-- What contracts see of the devices in memory.
use Rattle.std.specs.Prelude.{ℕ, List, map, Bool, true, ◌==◌, string_bytes, String, refl}
use Rattle.std.specs.List.{list_any}
use Rattle.std.specs.Coded.{Coded, code_by, coded×, coded_ℕ, coded_bool, coded_list}
use Rattle.std.specs.declared.alloc.Global.{Global}
use Rattle.std.specs.BTreeMap.{BTreeMap}
use Rattle.std.specs.Cmp.Lexicographic.{slice_cmp}
use Rattle.std.specs.Ordering.{nat_cmp}
use Rattle.std.specs.FinMap.{FinMap, code, from_entries, get}
use Rattle.gx_outside.specs.Files.{Files}
use Rattle.gx_outside.specs.Outside.{FlatSource, FlatSink, FlatShelf, no_call, raised_by, counted_call}
use Rattle.gx_outside.specs.declared.calls.Calls.{Calls}

-- the numbers of the calls that fail, and the counts
pub record HeldCalls : Type 0 where
  pub fails : List ℕ
  pub counts : Calls

-- no call was made yet
abbrev pub no_calls : List ℕ → HeldCalls
no_calls fails = record { fails = fails; counts = no_call }

-- the next call's number is among those that fail
abbrev pub fails_next : HeldCalls → Bool
fails_next c = list_any (λ n. n == raised_by 1 c.counts.made) c.fails

-- one more call was made, and wanted memory or didn't
abbrev pub after_call : HeldCalls → Bool → HeldCalls
after_call c wanted = record c { counts = counted_call c.counts (fails_next c) wanted }

-- a sink in memory: the bytes that it has taken
pub record HeldSink : Type 0 where
  pub taken : List ℕ
  pub calls : HeldCalls

-- a source in memory: the bytes left, how many a call gives at most, and how many were offered in all
pub record HeldSource : Type 0 where
  pub left : List ℕ
  pub piece : ℕ
  pub offered : ℕ
  pub calls : HeldCalls

-- a finite map from names to bytes
abbrev pub FilesByName : Type 0
FilesByName = FinMap (slice_cmp nat_cmp) (List ℕ)

-- a shelf in memory
pub record HeldShelf : Type 0 where
  pub files : FilesByName
  pub calls : HeldCalls

-- The three that follow are of no account to a reader: a proof tells values apart by their codes.
abbrev calls_code : Coded HeldCalls
calls_code =
    code_by (List ℕ × (ℕ × (ℕ × (Bool × Bool))))
    (coded× (coded_list coded_ℕ) (coded× coded_ℕ (coded× coded_ℕ (coded× coded_bool coded_bool))))
    (λ c. (c.fails, (c.counts.made, (c.counts.faults, (c.counts.failing, c.counts.wanting)))))
    (λ p. record {
      fails = p.0;
      counts = record
          { made = p.1.0; faults = p.1.1.0; failing = p.1.1.1.0; wanting = p.1.1.1.1 };
    })
    (λ _. refl)

abbrev files_code : Coded FilesByName
files_code = code (coded_list coded_ℕ) (coded_list coded_ℕ)

abbrev pub shelf_code : Coded HeldShelf
shelf_code =
    code_by (FilesByName × HeldCalls) (coded× files_code calls_code) (λ s. (s.files, s.calls))
    (λ p. record { files = p.0; calls = p.1 }) (λ _. refl)

-- what stands under each name
abbrev pub files_of : FilesByName → Files
files_of files name = get files name

-- a map with texts as its keys, by their bytes
abbrev pub by_name : BTreeMap (String Global) (List ℕ) → FilesByName
by_name files = from_entries (map (λ e. (string_bytes e.0, e.1)) files.entries)

-- What contracts see of them through the traits: they tell all that they hold.
abbrev pub seen_source : HeldSource → FlatSource
seen_source s = record { calls = s.calls.counts; offered = s.offered; tells = true; left = s.left }

abbrev pub seen_sink : HeldSink → FlatSink
seen_sink s = record { calls = s.calls.counts; tells = true; taken = s.taken }

abbrev pub seen_shelf : HeldShelf → FlatShelf
seen_shelf s = record { calls = s.calls.counts; tells = true; files = files_of s.files }
