-- The ends of a run in a view that wraps, and of the same run in the view that doesn't.
use Rattle.std.proofs.Common.{◌≡◌, ℕ, zero, suc, ◌+◌, ◌<◌, ◌≤◌, Bool, true, false, List, [], ◌∷◌, ◌++◌, refl, sym, ◌∙◌, ap, subst}
use Rattle.std.proofs.Common.{arith}
use Rattle.std.proofs.lemmas.List.{append-nil}
use Rattle.glk_screen.specs.Wrapper.{FlatWrapper, no_row}
use Rattle.glk_screen.specs.Laws.{IsWrapped}
use Rattle.glk_world.specs.World.{FlatWorld, Scene, after, empty_world}
use Rattle.glk_world.specs.Shown.{end_text}
use Rattle.glk_views.specs.Parts.{as_it_comes, wrapped}
use Rattle.glk_views.specs.Beside.{wrapping_view, plain_view, in_wrapping, in_plain}
use Rattle.glk_views.proofs.PartLaws.{wrapping_keeps_parts}
use Rattle.glk_views.proofs.Says.{end_says}
use Rattle.glk_replies.specs.declared.Given.TheVariants as given
use Rattle.gx_session.specs.declared.ends.Stop.{Stop}
use Rattle.gx_session.specs.Sending.{pending}
use Rattle.gx_session.specs.Configurations.{Phase, Configuration, Verdict, steps, asks, goes_on}
use Rattle.gx_session.specs.Moves.{move_of, sends_now, all_sent}
use Rattle.gx_session.specs.Session.{RunEnd, stop_of, final_of}
use Rattle.gx_session.specs.Standing.{act_of}
use Rattle.gx_session.proofs.Parts.{moves_left, with_last_screen}
use Rattle.gx_session.proofs.Finals.{goes-nearer, stop-stays, stop-comes, move-sends, move-acts}
use Rattle.gx_play.specs.Wrapped.{none_taken, IsWrappedRun, start_with_input, WrapsRuns}
use Rattle.gx_play.proofs.WrappedMoves.{Worlds, with_line, Runs, runs, Verdicts, both_move, both_stop, world_says, acts}

end_held : (rows : Bool) (r : FlatWrapper) (w : Scene) → (end_text (in_wrapping rows r w)).0.row.row ≡ []
unfolding end_text
end_held true r w = refl
end_held false r w = refl

module _ (rows : Bool) (limit : ℕ) (r : FlatWrapper) (input : List ℕ) where
  acts_at : {x y : Configuration} → Runs rows limit r input x y → Verdicts rows limit r input (act_of x) (act_of y)
  acts_at (runs m a b s t n took h) = acts rows limit r input m a b s t n h m.phase refl took (runs m a b s t n took h)

  first_sent : {x y : Configuration} → Runs rows limit r input x y → Runs rows limit r input (all_sent x) y
  first_sent (runs m a b s t n took h) = runs m a b (s ++ pending s a.text ∷ []) t n took h

  second_sent : {x y : Configuration} → Runs rows limit r input x y → Runs rows limit r input x (all_sent y)
  second_sent (runs m a b s t n took h) = runs m a b s (t ++ pending t b.text ∷ []) n took h

  abbrev Ends : RunEnd → RunEnd → Type 0
  Ends e k = (e.stop ≡ k.stop) × Runs rows limit r input e.configuration k.configuration

  -- what is nearer to the end
  abbrev On : ℕ → Type 0
  On n = (x y : Configuration) → Runs rows limit r input x y → moves_left x + moves_left y < n → Ends (stop_of x) (stop_of y)

  ends_by : (n : ℕ) (x y : Configuration) → moves_left x + moves_left y < suc n → On n → (u v : Verdict) → move_of x ≡ u
      → move_of y ≡ v → Verdicts rows limit r input u v → Ends (stop_of x) (stop_of y)
  ends_by n x y less on u v first second (both_move {x = x'} {y = y'} h) =
      let near1 = goes-nearer x x' first in
      let near2 = goes-nearer y y' second in
      subst (λ (e : RunEnd). Ends e (stop_of y)) (stop-stays x x' first)
      (subst (λ (k : RunEnd). Ends (stop_of x') k) (stop-stays y y' second)
      (on x' y' h (omega (arith, near1, near2, less))))
  ends_by n x y less on u v first second (both_stop s {x = x'} {y = y'} h) =
      let end1 : RunEnd = record { stop = s; configuration = x' } in
      let end2 : RunEnd = record { stop = s; configuration = y' } in
      let same : Ends end1 end2 = (refl, h) in
      subst (λ (e : RunEnd). Ends e (stop_of y)) (sym (stop-comes x x' s first))
      (subst (λ (k : RunEnd). Ends end1 k) (sym (stop-comes y y' s second)) same)

  ends_from : (n : ℕ) (x y : Configuration) → Runs rows limit r input x y → moves_left x + moves_left y < suc n → On n
      → (c d : Bool) → sends_now x ≡ c → sends_now y ≡ d → Ends (stop_of x) (stop_of y)
  ends_from n x y h less on true d first second =
      let e = move-sends x first in
      let near = goes-nearer x (all_sent x) e in
      subst (λ (e : RunEnd). Ends e (stop_of y)) (stop-stays x (all_sent x) e)
      (on (all_sent x) y (first_sent h) (omega (arith, near, less)))
  ends_from n x y h less on false true first second =
      let e = move-sends y second in
      let near = goes-nearer y (all_sent y) e in
      subst (λ (k : RunEnd). Ends (stop_of x) k) (stop-stays y (all_sent y) e)
      (on x (all_sent y) (second_sent h) (omega (arith, near, less)))
  ends_from n x y h less on false false first second =
      ends_by n x y less on (act_of x) (act_of y) (move-acts x first) (move-acts y second) (acts_at h)

  ends : (n : ℕ) → On n
  ends zero x y h less = absurd (omega arith)
  ends (suc n) x y h less = ends_from n x y h less (ends n) (sends_now x) (sends_now y) refl refl

  shown : {x y : Configuration} → Runs rows limit r input x y → Runs rows limit r input (with_last_screen x) (with_last_screen y)
  shown (runs m a b s t n took h) =
      runs m (after a (end_text a.scene)) (after b (end_text b.scene)) s t n took
      (world_says rows limit r a b h end_text (λ r' w. end_says rows limit r' w))

  none_after : {x y : Configuration} → Runs rows limit r input x y → (with_last_screen x).world.scene.row.row ≡ []
  none_after (runs m a b s t n took h) =
      ap (λ (v : FlatWorld). (end_text v.scene).0.row.row) h.wraps ∙ end_held rows (wrapped r h.parts).1 h.scene

-- ---- the end of a run from its beginning

with_more : (phase : Phase) (n : ℕ) → n ≤ with_line phase n
with_more (goes_on (given.Line chars) w) n = omega arith
with_more (goes_on (given.Loaded load) w) n = omega arith
with_more (goes_on given.Stored w) n = omega arith
with_more (goes_on (given.Was was) w) n = omega arith
with_more steps n = omega arith
with_more (asks t w) n = omega arith

module _ (rows : Bool) (columns : ℕ) (input : List ℕ) where
  wrapped_by : (first second : Stop) → first ≡ second → {x y : Configuration} → Runs rows columns (no_row columns) input x y
      → x.world.scene.row.row ≡ []
      → IsWrappedRun rows columns input (record { stop = first; configuration = x }) (record { stop = second; configuration = y })
  wrapped_by first second same (runs m a b s t n took h) none =
      let in_both : FlatWorld → FlatWorld = λ v. record { scene = in_plain rows columns v.scene; text = b.text } in
      let of_scene : Scene → FlatWorld = λ w. record { scene = w; text = b.text } in
      let world : in_both a ≡ b =
      ap in_both h.wraps ∙ ap of_scene (sym (ap (λ (v : FlatWorld). v.scene) h.comes)) in
      let out = wrapped (no_row columns) h.parts in
      let held : out.1.row ≡ [] = sym (ap (λ (v : FlatWorld). v.scene.row.row) h.wraps) ∙ none in
      let right = wrapping_keeps_parts (no_row columns) h.parts refl in
      record {
        stop = same;
        rest = ap (λ (v : FlatWorld). let c : Configuration = record m { world = v; sent = t } in c) world;
        parts = h.parts;
        text = ap (λ (v : FlatWorld). v.text) h.comes;
        wrapped_text = ap (λ (v : FlatWorld). v.text) h.wraps;
        none_held = held;
        kept = subst (λ (text : List ℕ). IsWrapped (as_it_comes h.parts) text) (append-nil out.0)
            (subst (λ (row : List ℕ). IsWrapped (as_it_comes h.parts) (out.0 ++ row)) held right.kept);
        within = right.within;
        count = with_line m.phase n;
        takes = took;
        lines = let few = h.lines in omega (arith, few, with_more m.phase n);
      }

  wraps_from : (x y : Configuration) → Runs rows columns (no_row columns) input x y
      → IsWrappedRun rows columns input (final_of x) (final_of y)
  unfolding final_of
  wraps_from x y h =
      let both = ends rows columns (no_row columns) input (suc (moves_left x + moves_left y)) x y h (omega arith) in
      wrapped_by (stop_of x).stop (stop_of y).stop both.0 (shown rows columns (no_row columns) input both.1)
      (none_after rows columns (no_row columns) input both.1)

pub wraps_runs : WrapsRuns
wraps_runs grids command whole log entry input answers =
    let columns = command.columns in
    let world1 : FlatWorld = empty_world (wrapping_view grids) columns command.rows in
    let world2 : FlatWorld = empty_world (plain_view grids) columns command.rows in
    let new : Worlds grids columns (no_row columns) 0 world1 world2 =
    record { scene = world2.scene; parts = []; wraps = refl; comes = refl; lines = omega arith } in
    let start1 : Configuration = start_with_input (wrapping_view grids) command whole log entry input answers in
    let start2 : Configuration = start_with_input (plain_view grids) command whole log entry input answers in
    wraps_from grids columns input start1 start2 (runs start2 world1 world2 [] [] 0 none_taken new)
