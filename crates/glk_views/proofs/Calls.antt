-- A call, and one that goes on, in both views.
use Rattle.std.proofs.Common.{◌≡◌, ℕ, ◌==◌, nat_lt, Bool, if◌then◌else◌, List, length, Option, Some, None}
use Rattle.std.proofs.Common.{Result, Err, IfSome, refl, ap, ◌∙◌}
use Rattle.gx_words.specs.declared.faults.Fault.{Fault}
use Rattle.gx_words.specs.declared.faults.Fault.TheVariants.{BadGlk}
use Rattle.gx_words.specs.Results.{◌>>=◌}
use Rattle.gx_state.specs.Flat.{FlatState}
use Rattle.glk_screen.specs.Wrapper.{FlatWrapper}
use Rattle.glk_world.specs.World.{WaitingCall, Scene, arg}
use Rattle.glk_replies.specs.TextNumbers as texts
use Rattle.glk_replies.specs.declared.Given.{Given}
use Rattle.glk_replies.specs.declared.Given.TheVariants as given
use Rattle.glk_object_calls.specs.Answers.{as_turn}
use Rattle.glk_dispatch.specs.declared.table.ObjectClass.{ObjectClass}
use Rattle.glk_dispatch.specs.declared.table.ObjectClass.TheVariants.{Plain, Window, Stream, Reference}
use Rattle.glk_dispatch.specs.declared.table.Selector.{Selector}
use Rattle.glk_dispatch.specs.CallRows.{CallRow}
use Rattle.glk_dispatch.specs.Table.{call_table, row_for, is_dropped}
use Rattle.glk_dispatch.specs.Calls.{named, looked_at, is_on_none, nothing, done, glk_call}
use Rattle.glk_dispatch.specs.Going.{resumed, go_by, glk_go_on}
use Rattle.glk_dispatch.proofs.Ready.{call_by}
use Rattle.glk_views.specs.Beside.{in_wrapping, in_plain, ComesBeside, comes_to, fails}
use Rattle.glk_views.specs.Calls.{lines_in, CallsBeside}
use Rattle.glk_views.proofs.Says.{quiet, line_says, end_says}
use Rattle.glk_views.proofs.Outcomes.{turned, comes_if, looked, replied}
use Rattle.glk_views.proofs.Objects.{closes, prompt_goes, open_goes}
use Rattle.glk_views.proofs.Shown.{grids_say}
use Rattle.glk_views.proofs.Texts.{select_goes, program_puts, puts_save, takes_rest}
use Rattle.glk_views.proofs.Rows.{Does, all_do, row_does}

module _ (rows : Bool) (limit : ℕ) where
  named_same : (r : FlatWrapper) (w : Scene) (class : ObjectClass) (id : ℕ)
      → named (in_wrapping rows r w) class id ≡ named (in_plain rows limit w) class id
  named_same r w Plain id = refl
  named_same r w Window id = refl
  named_same r w Stream id = refl
  named_same r w Reference id = refl

  looks_same : (r : FlatWrapper) (w : Scene) (row : Selector) (args : List ℕ)
      → looked_at (in_wrapping rows r w) row args ≡ looked_at (in_plain rows limit w) row args
  unfolding looked_at
  looks_same r w row args =
      let few = nat_lt (length args) row.arguments in
      let look : Result (Unit {0}) Fault → Result (Unit {0}) Fault → Result (Unit {0}) Fault =
      λ first other. if few then Err BadGlk else (first >>= λ there. other) in
      ap (λ (x : Result (Unit {0}) Fault). look x (named (in_wrapping rows r w) row.other (arg args row.other_place)))
      (named_same r w row.first (arg args 0))
      ∙ ap (λ (x : Result (Unit {0}) Fault). look (named (in_plain rows limit w) row.first (arg args 0)) x)
      (named_same r w row.other (arg args row.other_place))

  does_nothing : (r : FlatWrapper) (w : Scene) (f : FlatState) (room : ℕ) (row : Selector) (args : List ℕ)
      → ComesBeside 0 rows limit r (nothing (in_wrapping rows r w) f room row args)
      (nothing (in_plain rows limit w) f room row args)
  unfolding nothing
  does_nothing r w f room row args =
      comes_if rows limit (row.references == 0) (comes_to (quiet rows limit r w)) (replied rows limit _ r w)

  row_calls : (row : CallRow) → Does rows limit row.does → (r : FlatWrapper) (w : Scene) (f : FlatState) (room : ℕ)
      (args : List ℕ) (first second : Result (Unit {0}) Fault) → first ≡ second
      → ComesBeside 0 rows limit r
      (first >>= λ there. if is_on_none row.looks args then as_turn (nothing (in_wrapping rows r w) f room row.looks args)
      else done row.does (in_wrapping rows r w) f room args)
      (second >>= λ there. if is_on_none row.looks args then as_turn (nothing (in_plain rows limit w) f room row.looks args)
      else done row.does (in_plain rows limit w) f room args)
  row_calls row does r w f room args first second same =
      rw same
      (looked rows limit second (comes_if rows limit (is_on_none row.looks args)
      (turned rows limit (does_nothing r w f room row.looks args)) (does r w f room args)))

  calls_by : (found : Option CallRow) → IfSome found (λ row. Does rows limit row.does) → (r : FlatWrapper) (w : Scene)
      (f : FlatState) (room selector : ℕ) (args : List ℕ)
      → ComesBeside 0 rows limit r (call_by found (in_wrapping rows r w) f room selector args)
      (call_by found (in_plain rows limit w) f room selector args)
  calls_by None does r w f room selector args =
      comes_if rows limit (is_dropped selector) (comes_to (quiet rows limit r w)) (fails BadGlk)
  calls_by (Some row) does r w f room selector args =
      row_calls row does r w f room args _ _ (looks_same r w row.looks args)

  pub glk_calls : (r : FlatWrapper) (w : Scene) (f : FlatState) (room selector : ℕ) (args : List ℕ)
      → ComesBeside 0 rows limit r (glk_call (in_wrapping rows r w) f room selector args)
      (glk_call (in_plain rows limit w) f room selector args)
  unfolding glk_call row_for
  glk_calls r w f room selector args =
      calls_by (row_for selector) (row_does rows limit call_table (all_do rows limit) selector) r w f room selector args

  -- ---- going on

  resumes : (r : FlatWrapper) (w : Scene) (f : FlatState) (room : ℕ) (call : WaitingCall) (g : Given)
      → ComesBeside (lines_in g) rows limit r (resumed (in_wrapping rows r w) f room call g) (resumed (in_plain rows limit w) f room call g)
  resumes r w f room call (given.Line line) =
      comes_if rows limit (call.selector == texts.select) (select_goes rows limit r w f room call.arguments line)
      (prompt_goes rows limit r w call.arguments line)
  resumes r w f room call (given.Loaded load) = open_goes rows limit r w call.selector call.arguments load
  resumes r w f room call given.Stored = closes rows limit r w f room call.arguments
  resumes r w f room call (given.Was was) = comes_to (quiet rows limit r w)

  goes_by : (waiting : Option WaitingCall) (r : FlatWrapper) (w : Scene) (f : FlatState) (room : ℕ) (g : Given)
      → ComesBeside (lines_in g) rows limit r (go_by waiting (in_wrapping rows r w) f room g) (go_by waiting (in_plain rows limit w) f room g)
  goes_by None r w f room g = fails BadGlk
  goes_by (Some call) r w f room g = turned rows limit (resumes r (record w { waiting = None }) f room call g)

  pub glk_goes : (r : FlatWrapper) (w : Scene) (f : FlatState) (room : ℕ) (g : Given)
      → ComesBeside (lines_in g) rows limit r (glk_go_on (in_wrapping rows r w) f room g) (glk_go_on (in_plain rows limit w) f room g)
  unfolding glk_go_on
  glk_goes r w f room g = goes_by w.waiting r w f room g

pub calls_beside : CallsBeside
calls_beside = record {
  calls = glk_calls;
  goes_on = glk_goes;
  prints = program_puts;
  saves = puts_save;
  restores = takes_rest;
  shows = grids_say;
  shows_line = line_says;
  ends = end_says;
}
