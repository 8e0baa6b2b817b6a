-- A map with texts as its keys, seen as a finite map from names to bytes, and that as files.
use Rattle.std.proofs.Common.{◌≡◌, ℕ, List, [], ◌∷◌, map, false, cond, Option, Some, None, refl, sym, ap, ◌∙◌}
use Rattle.std.proofs.lemmas.Bool.{cond-false}
use Rattle.std.proofs.lemmas.Cmp.{eq_by_cmp_equiv, nat_list_cmp_total}
use Rattle.std.proofs.lemmas.Map.Text.{btree_map_updates_text, is_eq-slice_cmp}
use Rattle.std.specs.BTreeMap.{BTreeMap, UpdatesBy, get_by_text, is_at}
use Rattle.std.specs.Cmp.Lexicographic.{slice_cmp}
use Rattle.std.specs.FinMap.{get, insert, remove, find, get-insert, get-remove, get-from_entries, same_map}
use Rattle.std.specs.FinMap.{slice_cmp-IsAntisymmetric, nat_cmp-IsAntisymmetric}
use Rattle.std.specs.Map.{lookup}
use Rattle.std.specs.Ordering.{nat_cmp, eq_by_cmp}
use Rattle.std.specs.Prelude.{String}
use Rattle.std.specs.Str.{bytes_eq}
use Rattle.std.specs.String.{string_bytes, string_cmp}
use Rattle.std.specs.declared.alloc.Global.{Global}
use Rattle.gx_outside.specs.Files.{Files, with_file, no_files}
use Rattle.gx_outside.specs.Fakes.{FilesByName, files_of, by_name}

abbrev Texts : Type 0
Texts = BTreeMap (String Global) (List ℕ)

found : (q : List ℕ) (es : List (String Global × List ℕ))
    → find (slice_cmp nat_cmp) q (map (λ e. (string_bytes e.0, e.1)) es)
    ≡ lookup (is_at (λ k. slice_cmp nat_cmp q (string_bytes k))) es
found q [] = refl
found q (e ∷ es) = ap (cond (eq_by_cmp (slice_cmp nat_cmp) q (string_bytes e.0)) (Some e.1)) (found q es)

-- what the view has under a name is what the map has at it
pub get-by_name : (m : Texts) (q : List ℕ) → get (by_name m) q ≡ get_by_text m q
get-by_name m q = get-from_entries nat_list_cmp_total _ q ∙ found q m.entries

same_bytes : (q k : List ℕ) → eq_by_cmp (slice_cmp nat_cmp) q k ≡ eq_by_cmp (slice_cmp nat_cmp) k q
same_bytes q k = (eq_by_cmp_equiv nat_list_cmp_total).symm q k

same_files : (m n : FilesByName) → ((q : List ℕ) → get m q ≡ get n q) → m ≡ n
same_files = same_map nat_list_cmp_total (slice_cmp-IsAntisymmetric nat_cmp-IsAntisymmetric)

changed : (name : List ℕ) (m n : Texts) (w : Option (List ℕ))
    → UpdatesBy string_cmp (λ k. slice_cmp nat_cmp name (string_bytes k)) m n w → (q : List ℕ)
    → get (by_name n) q ≡ cond (eq_by_cmp (slice_cmp nat_cmp) q name) w (get (by_name m) q)
changed name m n w is q =
    get-by_name n q ∙ btree_map_updates_text name m n w is q
    ∙ ap (λ b. cond b w (get_by_text m q)) (sym (is_eq-slice_cmp name q) ∙ same_bytes name q)
    ∙ ap (cond (eq_by_cmp (slice_cmp nat_cmp) q name) w) (sym (get-by_name m q))

-- an entry put into the map is put into the view
pub by_name-insert : (name v : List ℕ) (m n : Texts)
    → UpdatesBy string_cmp (λ k. slice_cmp nat_cmp name (string_bytes k)) m n (Some v)
    → by_name n ≡ insert (by_name m) name v
by_name-insert name v m n is =
    same_files _ _ (λ q. changed name m n (Some v) is q ∙ sym (get-insert nat_list_cmp_total (by_name m) name v q))

-- an entry taken from the map is taken from the view
pub by_name-remove : (name : List ℕ) (m n : Texts)
    → UpdatesBy string_cmp (λ k. slice_cmp nat_cmp name (string_bytes k)) m n None → by_name n ≡ remove (by_name m) name
by_name-remove name m n is =
    same_files _ _ (λ q. changed name m n None is q ∙ sym (get-remove nat_list_cmp_total (by_name m) name q))

-- a view of no entries is no files
pub files_of-by_name : (m : Texts) → m.entries ≡ [] → files_of (by_name m) ≡ no_files
files_of-by_name m none = λ i q.
    (get-by_name m q ∙ ap (λ (es : List (String Global × List ℕ)).
    lookup (is_at (λ k. slice_cmp nat_cmp q (string_bytes k))) es) none) i

-- the same of files
pub files_of-insert : (m : FilesByName) (name v : List ℕ)
    → files_of (insert m name v) ≡ with_file (files_of m) name (Some v)
files_of-insert m name v = λ i other.
    (get-insert nat_list_cmp_total m name v other
    ∙ ap (λ b. cond b (Some v) (get m other)) (is_eq-slice_cmp other name)) i

pub files_of-remove : (m : FilesByName) (name : List ℕ) → files_of (remove m name) ≡ with_file (files_of m) name None
files_of-remove m name = λ i other.
    (get-remove nat_list_cmp_total m name other ∙ ap (λ b. cond b None (get m other)) (is_eq-slice_cmp other name)) i

-- other names stand
pub get-insert_other : (m : FilesByName) (name v other : List ℕ) → bytes_eq other name ≡ false
    → get (insert m name v) other ≡ get m other
get-insert_other m name v other e =
    ap (λ (f : Files). f other) (files_of-insert m name v) ∙ cond-false (bytes_eq other name) (Some v) (get m other) e

pub get-remove_other : (m : FilesByName) (name other : List ℕ) → bytes_eq other name ≡ false
    → get (remove m name) other ≡ get m other
get-remove_other m name other e =
    ap (λ (f : Files). f other) (files_of-remove m name) ∙ cond-false (bytes_eq other name) None (get m other) e

pub ruleset changes = (files_of-insert, files_of-remove, get-insert_other, get-remove_other)
