-- How windows are stored, so that a proof can tell two of them apart: a tree as the list of its nodes, each behind
-- what is below it.
use Rattle.std.specs.Prelude.{◌≡◌, ℕ, Bool, List, [], ◌∷◌, refl, Option}
use Rattle.std.proofs.Common.{◌∙◌, ap, ◌⊎◌, inl, inr}
use Rattle.std.specs.Coded.{Coded, code_by, coded_list, coded_option, coded_bool, coded×, coded⊎, coded_ℕ}
use Rattle.glk_windows.specs.declared.tree.Arrangement.{Arrangement}
use Rattle.glk_windows.specs.declared.entries.Entry.{Entry}
use Rattle.glk_windows.specs.declared.grid.Grid.{Grid}
use Rattle.glk_windows.specs.Tree.{Shape, One, Two}
use Rattle.glk_windows.specs.Windows.{FlatWindows}

abbrev pub arrangement_code : Coded Arrangement
arrangement_code =
    code_by (ℕ × (ℕ × (ℕ × (ℕ × Bool)))) (coded× coded_ℕ (coded× coded_ℕ (coded× coded_ℕ (coded× coded_ℕ coded_bool))))
    (λ a. (a.id, (a.method, (a.size, (a.key, a.key_is_blank)))))
    (λ p. record { id = p.0; method = p.1.0; size = p.1.1.0; key = p.1.1.1.0; key_is_blank = p.1.1.1.1 })
    (λ _. refl)

abbrev pub nodes : Shape → List (ℕ ⊎ Arrangement) → List (ℕ ⊎ Arrangement)
nodes (One id) rest = inl id ∷ rest
nodes (Two a first second) rest = nodes first (nodes second (inr a ∷ rest))

abbrev pub joined : ℕ ⊎ Arrangement → List Shape → List Shape
joined (inl id) below = One id ∷ below
joined (inr a) (second ∷ first ∷ below) = Two a first second ∷ below
joined (inr a) below = below

abbrev pub shapes : List (ℕ ⊎ Arrangement) → List Shape → List Shape
shapes [] below = below
shapes (node ∷ rest) below = shapes rest (joined node below)

abbrev pub top : List Shape → Shape
top [] = One 0
top (s ∷ below) = s

abbrev pub shapes-nodes : (s : Shape) (rest : List (ℕ ⊎ Arrangement)) (below : List Shape)
    → shapes (nodes s rest) below ≡ shapes rest (s ∷ below)
shapes-nodes (One id) rest below = refl
shapes-nodes (Two a first second) rest below = shapes-nodes first _ below ∙ shapes-nodes second _ (first ∷ below)

abbrev pub shape_code : Coded Shape
shape_code =
    code_by (List (ℕ ⊎ Arrangement)) (coded_list (coded⊎ coded_ℕ arrangement_code)) (λ s. nodes s [])
    (λ ns. top (shapes ns [])) (λ s. ap top (shapes-nodes s [] []))

abbrev pub entry_code : Coded Entry
entry_code =
    code_by (ℕ × (ℕ × (ℕ × (ℕ × ℕ)))) (coded× coded_ℕ (coded× coded_ℕ (coded× coded_ℕ (coded× coded_ℕ coded_ℕ))))
    (λ e. (e.id, (e.kind, (e.rock, (e.stream, e.echo)))))
    (λ p. record { id = p.0; kind = p.1.0; rock = p.1.1.0; stream = p.1.1.1.0; echo = p.1.1.1.1 }) (λ _. refl)

abbrev pub grid_code : Coded Grid
grid_code =
    code_by (ℕ × (ℕ × (List (List ℕ) × (ℕ × ℕ))))
    (coded× coded_ℕ (coded× coded_ℕ (coded× (coded_list (coded_list coded_ℕ)) (coded× coded_ℕ coded_ℕ))))
    (λ g. (g.id, (g.columns, (g.rows, (g.x, g.y)))))
    (λ p. record { id = p.0; columns = p.1.0; rows = p.1.1.0; x = p.1.1.1.0; y = p.1.1.1.1 }) (λ _. refl)

abbrev pub windows_code : Coded FlatWindows
windows_code =
    code_by (List Entry × (Option Shape × (List Grid × (ℕ × ℕ))))
    (coded× (coded_list entry_code)
    (coded× (coded_option shape_code) (coded× (coded_list grid_code) (coded× coded_ℕ coded_ℕ))))
    (λ f. (f.entries, (f.tree, (f.grids, (f.columns, f.rows)))))
    (λ p. record { entries = p.0; tree = p.1.0; grids = p.1.1.0; columns = p.1.1.1.0; rows = p.1.1.1.1 })
    (λ _. refl)
