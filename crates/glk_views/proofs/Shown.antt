-- The rows of grids at a wait, in both views: they stand as they are, where nothing is held.
use Rattle.std.proofs.Common.{◌≡◌, ℕ, ◌==◌, Bool, true, false, if◌then◌else◌, List, [], ◌∷◌, ◌++◌}
use Rattle.std.proofs.Common.{length, map, refl, sym, ◌∙◌, ap, arith}
use Rattle.std.proofs.lemmas.List.{append-nil, map-append}
use Rattle.std.proofs.lemmas.List.Folds.{concat-append}
use Rattle.std.specs.List.{concat}
use Rattle.std.specs.Prelude.{codes}
use Rattle.std.specs.Char.{encode_utf8}
use Rattle.std.specs.Str.{encode_utf8_all}
use Rattle.gx_words.specs.Constants.{line_feed}
use Rattle.glk_text.specs.Characters.{shown}
use Rattle.glk_screen.specs.Wrapper.{FlatWrapper, LetGo, let_go, taken_by}
use Rattle.glk_screen.proofs.Flowing.{enc_append}
use Rattle.glk_world.specs.declared.grids.ShownGrid.{ShownGrid}
use Rattle.glk_world.specs.World.{Scene, Said, silent, then_said, said_each}
use Rattle.glk_world.specs.Shown.{shown_grid, last_rows, same_rows, said_row, said_grid, show_rows, row_let_go, show_grids}
use Rattle.glk_views.specs.Parts.{Part, grid_row, goes, barred, as_it_comes, lines_taken, wrapped}
use Rattle.glk_views.specs.Beside.{in_wrapping, in_plain, SaysBeside}
use Rattle.glk_views.proofs.Says.{joined_text, joined_at, go_says, line_bytes}

-- a row of which nothing is held
abbrev none_held : ℕ → ℕ → FlatWrapper
none_held size gone = record { limit = size; gone = gone; row = [] }

-- the rows that are shown, each behind a bar
abbrev bar : Bool × List ℕ → List ℕ
bar x = barred x.0 x.1

abbrev bars : List (Bool × List ℕ) → List ℕ
bars xs = concat (map bar xs)

abbrev part_of : Bool × List ℕ → Part
part_of x = grid_row x.0 x.1

-- the columns of the present row after them
abbrev gone_after : ℕ → List (Bool × List ℕ) → ℕ
gone_after gone [] = gone
gone_after gone (x ∷ xs) = 0

none_gone : (xs : List (Bool × List ℕ)) → gone_after 0 xs ≡ 0
none_gone [] = refl
none_gone (x ∷ xs) = refl

gone_both : (gone : ℕ) (xs ys : List (Bool × List ℕ)) → gone_after (gone_after gone xs) ys ≡ gone_after gone (xs ++ ys)
gone_both gone [] ys = refl
gone_both gone (x ∷ xs) ys = none_gone ys

rows_wrapped : (size gone : ℕ) (xs : List (Bool × List ℕ))
    → wrapped (none_held size gone) (map part_of xs) ≡ (bars xs, none_held size (gone_after gone xs))
rows_wrapped size gone [] = refl
rows_wrapped size gone (x ∷ xs) =
    ap (joined_text (bar x)) (rows_wrapped size 0 xs)
    ∙ ap {B = LetGo} (λ (now : ℕ). (bar x ++ bars xs, none_held size now)) (none_gone xs)

rows_come : (xs : List (Bool × List ℕ)) → as_it_comes (map part_of xs) ≡ bars xs
rows_come [] = refl
rows_come (x ∷ xs) = ap (λ (text : List ℕ). bar x ++ text) (rows_come xs)

rows_untaken : (xs : List (Bool × List ℕ)) → lines_taken (map part_of xs) ≡ 0
rows_untaken [] = refl
rows_untaken (x ∷ xs) = rows_untaken xs

bars_both : (xs ys : List (Bool × List ℕ))
    → encode_utf8_all (bars xs) ++ encode_utf8_all (bars ys) ≡ encode_utf8_all (bars (xs ++ ys))
bars_both xs ys =
    sym (enc_append (bars xs) (bars ys))
    ∙ ap encode_utf8_all (sym (ap concat (map-append bar xs ys) ∙ concat-append (map bar xs) (map bar ys)))

-- The same rows in both, and nothing is held after them.
record Stand (rows : Bool) (limit size gone : ℕ) (a b : Said) : Type 0 where
  scene : Scene
  stood : List (Bool × List ℕ)
  wraps : a ≡ (in_wrapping rows (none_held size (gone_after gone stood)) scene, encode_utf8_all (bars stood))
  comes : b ≡ (in_plain rows limit scene, encode_utf8_all (bars stood))

row_bytes : (fresh : Bool) (xs : List ℕ)
    → (if fresh then [] else line_feed ∷ []) ++ (codes "| " ++ (encode_utf8_all xs ++ line_feed ∷ []))
    ≡ encode_utf8_all (barred fresh xs)
unfolding encode_utf8
row_bytes true xs = ap (λ (t : List ℕ). codes "| " ++ t) (sym (line_bytes xs))
row_bytes false xs = ap (λ (t : List ℕ). line_feed ∷ (codes "| " ++ t)) (sym (line_bytes xs))

module _ (rows : Bool) (limit size : ℕ) where
  stand_says : (gone : ℕ) (a b : Said) → Stand rows limit size gone a b → SaysBeside 0 rows limit (none_held size gone) a b
  stand_says gone a b h =
      let shape : LetGo → Said = λ out. (in_wrapping rows out.1 h.scene, encode_utf8_all out.0) in
      let text : List ℕ → Said = λ chars. (in_plain rows limit h.scene, encode_utf8_all chars) in
      record {
        scene = h.scene;
        parts = map part_of h.stood;
        wraps = h.wraps ∙ sym (ap shape (rows_wrapped size gone h.stood));
        comes = h.comes ∙ sym (ap text (rows_come h.stood));
        lines = omega (arith, rows_untaken h.stood);
      }

  none_stands : (gone : ℕ) (w : Scene)
      → Stand rows limit size gone (silent (in_wrapping rows (none_held size gone) w)) (silent (in_plain rows limit w))
  none_stands gone w =
      record { scene = w; stood = []; wraps = refl; comes = refl }

  if_stands : (c : Bool) {gone : ℕ} {a1 b1 a2 b2 : Said} → Stand rows limit size gone a1 b1
      → Stand rows limit size gone a2 b2 → Stand rows limit size gone (if c then a1 else a2) (if c then b1 else b2)
  if_stands true h k = h
  if_stands false h k = k

  then_stands : {gone : ℕ} {a b : Said} (more : Scene → Said) → Stand rows limit size gone a b
      → ((now : ℕ) (w : Scene)
      → Stand rows limit size now (more (in_wrapping rows (none_held size now) w)) (more (in_plain rows limit w)))
      → Stand rows limit size gone (then_said a more) (then_said b more)
  then_stands {gone} {a} {b} more h on =
      let next = on (gone_after gone h.stood) h.scene in
      let behind : Said → Said = λ x. (x.0, encode_utf8_all (bars h.stood) ++ x.1) in
      let now = gone_after (gone_after gone h.stood) next.stood in
      let text = bars_both h.stood next.stood in
      let both : List ℕ = encode_utf8_all (bars (h.stood ++ next.stood)) in
      record {
        scene = next.scene;
        stood = h.stood ++ next.stood;
        wraps = ap (λ (x : Said). then_said x more) h.wraps ∙ ap behind next.wraps
            ∙ ap {B = Said} (λ (t : List ℕ). (in_wrapping rows (none_held size now) next.scene, t)) text
            ∙ ap {B = Said} (λ (g : ℕ). (in_wrapping rows (none_held size g) next.scene, both))
            (gone_both gone h.stood next.stood);
        comes = ap (λ (x : Said). then_said x more) h.comes ∙ ap behind next.comes
            ∙ ap {B = Said} (λ (t : List ℕ). (in_plain rows limit next.scene, t)) text;
      }

  each_stands : {A : Type 0} (say : Scene → A → Said)
      → ((gone : ℕ) (w : Scene) (x : A)
      → Stand rows limit size gone (say (in_wrapping rows (none_held size gone) w) x) (say (in_plain rows limit w) x))
      → (gone : ℕ) (w : Scene) (xs : List A)
      → Stand rows limit size gone (said_each say (in_wrapping rows (none_held size gone) w) xs)
      (said_each say (in_plain rows limit w) xs)
  unfolding said_each
  each_stands say one gone w [] = none_stands gone w
  each_stands say one gone w (x ∷ xs) =
      then_stands (λ more. said_each say more xs) (one gone w x) (λ now v. each_stands say one now v xs)

  row_stands : (gone : ℕ) (w : Scene) (row : List ℕ)
      → Stand rows limit size gone (said_row (in_wrapping rows (none_held size gone) w) row)
      (said_row (in_plain rows limit w) row)
  unfolding said_row
  row_stands gone w row =
      let scene : Scene = record w { fresh = true } in
      let cs : List ℕ = map shown row in
      let bytes = row_bytes w.fresh cs ∙ ap encode_utf8_all (sym (append-nil (barred w.fresh cs))) in
      if_stands (length row == 0) (none_stands gone w)
      (record {
        scene = scene;
        stood = (w.fresh, cs) ∷ [];
        wraps = ap {B = Said} (λ (t : List ℕ). (in_wrapping rows (none_held size 0) scene, t)) bytes;
        comes = ap {B = Said} (λ (t : List ℕ). (in_plain rows limit scene, t)) bytes;
      })

  grid_stands : (gone : ℕ) (w : Scene) (grid : ShownGrid)
      → Stand rows limit size gone (said_grid (in_wrapping rows (none_held size gone) w) grid)
      (said_grid (in_plain rows limit w) grid)
  unfolding said_grid
  grid_stands gone w grid =
      if_stands (same_rows grid.rows (last_rows w.shown grid.id)) (none_stands gone w)
      (each_stands said_row row_stands gone w grid.rows)

  rows_stand : (gone : ℕ) (w : Scene)
      → Stand rows limit size gone (show_rows (in_wrapping rows (none_held size gone) w)) (show_rows (in_plain rows limit w))
  unfolding show_rows
  rows_stand gone w =
      let grids = map shown_grid w.windows.grids in
      then_stands (λ more. silent (record more { shown = grids })) (each_stands said_grid grid_stands gone w grids)
      (λ now v. none_stands now (record v { shown = grids }))

pub grids_say : (rows : Bool) (limit : ℕ) (r : FlatWrapper) (w : Scene)
    → SaysBeside 0 rows limit r (show_grids (in_wrapping rows r w)) (show_grids (in_plain rows limit w))
unfolding show_grids
grids_say true limit r w =
    let none : FlatWrapper = (let_go r).1 in
    let first : SaysBeside 0 true limit r (row_let_go (in_wrapping true r w)) (silent (in_plain true limit w)) = record {
      scene = w;
      parts = goes ∷ [];
      wraps = ap {B = Said} (λ (t : List ℕ). (in_wrapping true none w, encode_utf8_all t)) (sym (append-nil r.row));
      comes = refl;
      lines = omega arith;
    } in
    joined_at true limit r (row_let_go (in_wrapping true r w)) (silent (in_plain true limit w)) show_rows show_rows first
    (stand_says true limit r.limit (taken_by r) _ _ (rows_stand true limit r.limit (taken_by r) w))
grids_say false limit r w = go_says false limit r w
