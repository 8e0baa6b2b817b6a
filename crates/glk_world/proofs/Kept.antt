-- The next identifier stays above all that were given.
use Rattle.std.proofs.Common.{◌≡◌, ◌≢◌, Result, Ok, Err, OnOk, IfOk, subst, ◌<◌, ◌≤◌, ◌+◌, ◌==◌, ℕ, true, false}
use Rattle.std.proofs.Common.{if◌then◌else◌, List, [], ◌∷◌, ◌++◌, map, not, refl, arith}
use Rattle.std.specs.List.{filter}
use Rattle.std.proofs.lemmas.Bool.Decides.{nat_tests}
use Rattle.glk_windows.specs.Constants.{pair_window, text_grid}
use Rattle.glk_world.specs.declared.references.FileReference.{FileReference}
use Rattle.glk_world.specs.World.{reference_id}
use Rattle.glk_objects.specs.Objects as objects
use Rattle.glk_objects.specs.Objects.{IsAboveAll, IsBelowAll}
use Rattle.glk_objects.proofs.Rising.{rises_end, rises_without, below_end, below_without}
use Rattle.glk_objects.proofs.Above.{above_more, above_end, above_with, above_without, above_filter, above_map}
use Rattle.glk_streams.specs.declared.kinds.Stream.{Stream}
use Rattle.glk_streams.specs.declared.kinds.StreamKind.{StreamKind}
use Rattle.glk_streams.specs.Stream as one
use Rattle.glk_streams.specs.Streams as streams
use Rattle.glk_windows.specs.declared.entries.Entry.{Entry}
use Rattle.glk_windows.specs.declared.grid.Grid.{Grid}
use Rattle.glk_windows.specs.Tree.{is_among}
use Rattle.glk_windows.specs.Grids.{grid_id, empty_grid, sized_to, put, blanked}
use Rattle.glk_windows.specs.Windows.{FlatWindows, entry_id, no_windows, window_entry, grid_at, sizes}
use Rattle.glk_windows.specs.Windows.{last_given, IsNewId}
use Rattle.glk_windows.proofs.Placing.{forgetting_id}
use Rattle.glk_world.proofs.Turns.{windowless}
use Rattle.glk_windows.specs.Changes.{fitted, new_entry, rooted, split_by, with_new_window, leaving, chosen}
use Rattle.glk_windows.specs.Changes.{forgetting, left_of, closed_tree, with_grid_of, put_to, cleared_in, moved_in}
use Rattle.glk_windows.specs.Changes.{with_echo_stream}
use Rattle.glk_windows.specs.Changes.{without_echoes, allows_arrangement, arranged_tree, arranged, window_closed}

pub streams_with : (ss : List Stream) (new : Stream) (n : ℕ) → IsAboveAll streams.id_of ss n
    → IsAboveAll streams.id_of (streams.with_stream ss new) n
streams_with ss new n above = above_with streams.id_of ss new n above

fitted_new : (f : FlatWindows) (n : ℕ) → IsNewId f n → IsNewId (fitted f) n
fitted_new f n new = record {
  entries = new.entries;
  grids = above_map grid_id (λ g. sized_to (sizes f g.id) g) (λ g. refl) f.grids n new.grids;
}

grid_new : (f : FlatWindows) (win n : ℕ) (g : Grid) → IsNewId f n → IsNewId (with_grid_of f win g) n
grid_new f win n g new =
    elim (objects.has grid_id f.grids win) as
    (λ b. IsNewId (if b then record f { grids = objects.with grid_id f.grids g } else f) n) [
      | true ↦ record { entries = new.entries; grids = above_with grid_id f.grids g n new.grids }
      | false ↦ new
    ]

pub put_new : (f : FlatWindows) (win c n : ℕ) → IsNewId f n → IsNewId (put_to f win c) n
unfolding put_to
put_new f win c n new = grid_new f win n (put (grid_at f.grids win) c) new

pub cleared_new : (f : FlatWindows) (win n : ℕ) → IsNewId f n → IsNewId (cleared_in f win) n
unfolding cleared_in
cleared_new f win n new = grid_new f win n (blanked (grid_at f.grids win)) new

pub moved_new : (f : FlatWindows) (win x y n : ℕ) → IsNewId f n → IsNewId (moved_in f win x y) n
unfolding moved_in
moved_new f win x y n new = grid_new f win n (record (grid_at f.grids win) { x = x; y = y }) new

pub echoed_new : (f : FlatWindows) (win stream n : ℕ) → IsNewId f n → IsNewId (with_echo_stream f win stream) n
unfolding with_echo_stream
echoed_new f win stream n new = record {
  entries = above_with entry_id f.entries (record (window_entry f.entries win) { echo = stream }) n new.entries;
  grids = new.grids;
}

pub forgotten_new : (f : FlatWindows) (stream n : ℕ) → IsNewId f n → IsNewId (without_echoes f stream) n
forgotten_new f stream n new = record {
  entries = above_map entry_id (forgetting (stream ∷ [])) (forgetting_id (stream ∷ [])) f.entries n new.entries;
  grids = new.grids;
}

pub arranged_new : (f : FlatWindows) (win method size key n : ℕ) → IsNewId f n
    → IsNewId (arranged f win method size key) n
unfolding arranged
arranged_new f win method size key n new =
    elim (allows_arrangement f win method key) as
    (λ b. IsNewId (if b then fitted (record f { tree = arranged_tree f win method size key }) else f) n) [
      | true ↦ fitted_new (record f { tree = arranged_tree f win method size key }) n
          (record { entries = new.entries; grids = new.grids })
      | false ↦ new
    ]

with_grid_new : (grids : List Grid) (kind id n : ℕ) → IsAboveAll grid_id grids n → id < n
    → IsAboveAll grid_id (if kind == text_grid then grids ++ empty_grid id ∷ [] else grids) n
with_grid_new grids kind id n above less =
    elim (kind == text_grid) as (λ b. IsAboveAll grid_id (if b then grids ++ empty_grid id ∷ [] else grids) n) [
      | true ↦ above_end grid_id grids (empty_grid id) n above less
      | false ↦ above
    ]

pub added_new : (f : FlatWindows) (split method size kind rock id : ℕ) → IsNewId f id
    → IsNewId (with_new_window f split method size kind rock id) (last_given split id + 1)
unfolding with_new_window
added_new f split method size kind rock id new =
    elim (split == 0) as (λ b. IsNewId (fitted
    (if b then rooted f kind rock id else split_by f split method size kind rock id))
    ((if b then id + 1 else id + 3) + 1)) [
      | true ↦ fitted_new (rooted f kind rock id) (id + 1 + 1) (record {
        entries = above_end entry_id f.entries (new_entry id kind rock) (id + 1 + 1)
            (above_more entry_id f.entries id (id + 1 + 1) new.entries (omega arith)) (omega arith);
        grids = with_grid_new f.grids kind id (id + 1 + 1)
            (above_more grid_id f.grids id (id + 1 + 1) new.grids (omega arith)) (omega arith);
      })
      | false ↦ fitted_new (split_by f split method size kind rock id) (id + 3 + 1) (record {
        entries = above_end entry_id (f.entries ++ new_entry id kind rock ∷ []) (new_entry (id + 2) pair_window 0)
            (id + 3 + 1)
            (above_end entry_id f.entries (new_entry id kind rock) (id + 3 + 1)
            (above_more entry_id f.entries id (id + 3 + 1) new.entries (omega arith)) (omega arith)) (omega arith);
        grids = with_grid_new f.grids kind id (id + 3 + 1)
            (above_more grid_id f.grids id (id + 3 + 1) new.grids (omega arith)) (omega arith);
      })
    ]

pub closed_new : (f : FlatWindows) (win n : ℕ) → IsNewId f n → IsNewId (window_closed f win) n
unfolding window_closed
closed_new f win n new =
    let ids = leaving f.tree win in
    let gone = map (λ (e : Entry). e.stream) (chosen ids f.entries) in
    fitted_new (record f {
      entries = left_of f.entries ids;
      tree = closed_tree ids f.tree win;
      grids = filter (λ g. not (is_among ids g.id)) f.grids;
    }) n (record {
      entries = above_map entry_id (forgetting gone) (forgetting_id gone)
          (filter (λ e. not (is_among ids e.id)) f.entries) n
          (above_filter entry_id (λ e. not (is_among ids e.id)) f.entries n new.entries);
      grids = above_filter grid_id (λ g. not (is_among ids g.id)) f.grids n new.grids;
    })

pub none_new : (columns rows n : ℕ) → IsNewId (no_windows columns rows) n
none_new columns rows n = record { entries = tt; grids = tt }

pub new_more : (f : FlatWindows) (n m : ℕ) → IsNewId f n → n ≤ m → IsNewId f m
new_more f n m new le = record {
  entries = above_more entry_id f.entries n m new.entries le;
  grids = above_more grid_id f.grids n m new.grids le;
}

pub ruleset windows_kept = (
  put_new,
  cleared_new,
  moved_new,
  echoed_new,
  forgotten_new,
  arranged_new,
  added_new,
  closed_new,
  none_new,
  new_more,
)

pub streams_without : (ss : List Stream) (id n : ℕ) → IsAboveAll streams.id_of ss n
    → IsAboveAll streams.id_of (objects.all_but streams.id_of ss id) n
streams_without ss id n above = above_without streams.id_of ss id n above

pub streams_gone : (ss : List Stream) (gone : List ℕ) (n : ℕ) → IsAboveAll streams.id_of ss n
    → IsAboveAll streams.id_of (streams.without_windows ss gone) n
streams_gone ss gone n above = above_filter streams.id_of _ ss n above

pub streams_more : (ss : List Stream) (n m : ℕ) → IsAboveAll streams.id_of ss n → n ≤ m → IsAboveAll streams.id_of ss m
streams_more ss n m above le = above_more streams.id_of ss n m above le

pub streams_opened : (ss : List Stream) (id n mode rock : ℕ) (kind : StreamKind) → IsAboveAll streams.id_of ss n
    → id < n
    → IsAboveAll streams.id_of (ss ++ one.opened id kind mode rock ∷ []) n
unfolding one.opened
streams_opened ss id n mode rock kind above less =
    above_end streams.id_of ss (one.opened id kind mode rock) n above less

pub ruleset streams_kept = (streams_with, streams_without, streams_gone, streams_more, streams_opened)

pub ruleset both_kept = (windows_kept, streams_kept)

pub ruleset puts_kept = (windowless, streams_kept)

pub references_end : (rs : List FileReference) (new : FileReference) → IsAboveAll reference_id rs new.id
    → IsAboveAll reference_id (rs ++ new ∷ []) (new.id + 1)
references_end rs new above =
    above_end reference_id rs new (new.id + 1) (above_more reference_id rs new.id (new.id + 1) above (omega arith))
    (omega arith)

pub references_rise : (rs : List FileReference) (new : FileReference) → objects.AreRising reference_id rs
    → IsAboveAll reference_id rs new.id → objects.AreRising reference_id (rs ++ new ∷ [])
references_rise rs new up above = rises_end reference_id rs new up above

pub references_left : (rs : List FileReference) (id : ℕ) → objects.AreRising reference_id rs
    → objects.AreRising reference_id (objects.all_but reference_id rs id)
references_left rs id up = rises_without reference_id rs id up

pub references_under : (rs : List FileReference) (id n : ℕ) → IsAboveAll reference_id rs n
    → IsAboveAll reference_id (objects.all_but reference_id rs id) n
references_under rs id n above = above_without reference_id rs id n above

pub references_more : (rs : List FileReference) (n m : ℕ) → IsAboveAll reference_id rs n → n ≤ m
    → IsAboveAll reference_id rs m
references_more rs n m above le = above_more reference_id rs n m above le

pub references_first : (rs : List FileReference) (new : FileReference) → IsBelowAll reference_id rs 0 → 0 < new.id
    → IsBelowAll reference_id (rs ++ new ∷ []) 0
references_first rs new first some = below_end reference_id rs 0 new first some

pub references_over : (rs : List FileReference) (id : ℕ) → IsBelowAll reference_id rs 0
    → IsBelowAll reference_id (objects.all_but reference_id rs id) 0
references_over rs id first = below_without reference_id rs 0 id first

pub ruleset references_kept = (references_end, references_rise, references_left, references_under, references_over)

pub ruleset opening_kept = (streams_more, streams_opened)

-- so many identifiers are given to what opening a window makes
pub made_first : (split id made : ℕ) → split ≡ 0 → made ≡ 2 → id + made ≡ last_given split id + 1
made_first split id made first two = grind (arith, nat_tests, first, two)

pub made_beside : (split id made : ℕ) → split ≢ 0 → made ≡ 4 → id + made ≡ last_given split id + 1
made_beside split id made beside four = grind (arith, nat_tests, beside, four)

pub given_ok : {A E P : Type 0} (r : Result A E) (v : A) → r ≡ Ok v → OnOk r P → P
given_ok (Ok x) v is holds = holds
given_ok (Err e) v is holds = absurd (cc)

pub given_if : {A E : Type 0} (P : A → Type 0) (r : Result A E) (v : A) → r ≡ Ok v → IfOk r P → P v
given_if P (Ok x) v is holds = let same : x ≡ v = cc in subst P same holds
given_if P (Err e) v is holds = absurd (cc)
