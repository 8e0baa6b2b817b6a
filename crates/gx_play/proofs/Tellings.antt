-- What the run of a story that is made of a number comes to.
use Rattle.std.proofs.Common.{◌≡◌, ℕ, ◌-◌, ◌<◌, ◌≤◌, ◌⊎◌, inl, inr, Bool, List, [], ◌∷◌, ◌++◌, length, Some, refl, ap}
use Rattle.std.proofs.Common.{subst, ◌∙◌, arith, decimal}
use Rattle.gx_outside.specs.Reads.{SourceRead}
use Rattle.gx_outside.specs.Sends.{Send}
use Rattle.gx_outside.specs.Shelves.{Request, Answer, Trace}
use Rattle.gx_state.specs.Flat.{FlatState}
use Rattle.gx_machine.specs.Machine.{Whole, FlatMachine}
use Rattle.gx_session.specs.Constants.{status_shelf_fault, status_no_memory}
use Rattle.gx_session.specs.Devices.{Devices, devices}
use Rattle.gx_session.specs.Session.{final_of}
use Rattle.gx_session.specs.Runs.{IsRun, IsSession, Report, EndsAt}
use Rattle.gx_play.specs.Jobs.{zeros, work_machine, work_start, work_line, ram_sum_of}
use Rattle.gx_play.specs.Silent.{gathered, no_shelf, no_source}
use Rattle.gx_session.specs.Configurations.{Configuration}

-- devices that hold nothing but this text, and never failed, after so many calls; how many bytes were offered in all,
-- and whether the last send wanted memory, and the last call of the shelf
abbrev pub quiet : ℕ → ℕ → ℕ → List ℕ → ℕ → Bool → Bool → List SourceRead → List Send → Trace → Devices
quiet reads offered sends text asks send-wanted shelf-wanted read sent asked =
    devices (no_source reads offered) (gathered sends send-wanted text)
    (no_shelf asks shelf-wanted) zeros read sent asked

-- the three numbers of a run, and the machine
pub record Tells (start : Configuration) (text : List ℕ) (r : Report) : Type 0 where
  pub steps : r.steps ≡ start.left - (final_of start).configuration.left
  pub text_is : text ≡ (final_of start).configuration.world.text
  pub machine : r.machine.machine ≡ (final_of start).configuration.machine

module _ (w : Whole) (reads offered sends asks reads' offered' sends' asks' : ℕ) (send shelf send' shelf' : Bool)
    (read : List SourceRead) (sent : List Send) (asked : Trace) (text : List ℕ) (r : Report) where
  abbrev start : Configuration
  start = work_start w

  abbrev entry : Devices
  entry = quiet reads offered sends [] asks send shelf [] [] []

  abbrev exit : Devices
  exit = quiet reads' offered' sends' text asks' send' shelf' read sent asked

  at-end : (coming : List ℕ) → EndsAt start (final_of start) entry exit coming r → Tells start text r
  at-end coming e =
      let steps = e.steps_are in
      record {
        steps = omega (arith, steps);
        text_is = e.text_is refl;
        machine = ap (λ (x : Whole). x.machine) e.machine_is;
      }

  told : (input coming : List ℕ) (answers : Trace → Request → Answer) → input ≡ [] → answers ≡ start.answers
      → IsSession (record start { input = input; answers = answers }) entry exit coming r
      → r.status < status_shelf_fault → Tells start text r
  told input coming answers is same session early =
      at-end coming
      (subst (λ (a : Trace → Request → Answer).
      EndsAt (record start { answers = a }) (final_of (record start { answers = a })) entry exit coming r) same
      (subst (λ (i : List ℕ). EndsAt (record start { input = i; answers = answers })
      (final_of (record start { input = i; answers = answers })) entry exit coming r) is (session.ended early)))

  below : (status : ℕ) → (status ≡ 0) ⊎ ((3 ≤ status) × (status ≤ 11)) → (status ≡ 8 → ⊥) → (status ≡ 9 → ⊥)
      → (status ≡ 10 → ⊥) → (status ≡ 11 → ⊥) → status < 8
  below status (inl e) shelf source sink memory = omega (arith, e)
  below status (inr b) shelf source sink memory = grind (arith, b.0, b.1, shelf, source, sink, memory)

  came : IsRun start entry exit r → (r.status ≡ status_no_memory → ⊥) → Tells start text r
  came run memory =
      let early : r.status < status_shelf_fault =
      below r.status run.report.status_is
      (λ e. let rose : 0 ≡ 1 = run.counts.shelf.rose e in absurd (omega (arith, rose)))
      (λ e. let rose : 0 ≡ 1 = run.counts.source.rose e in absurd (omega (arith, rose)))
      (λ e. let rose : 0 ≡ 1 = run.counts.sink.rose e in absurd (omega (arith, rose)))
      memory in
      told run.input run.coming run.answers (run.input_is refl) (run.answers_are refl) run.session early

  pub tells-of : (before : List ℕ) → before ≡ []
      → IsRun (work_start w) (quiet reads offered sends before asks send shelf [] [] []) exit r
      → (r.status ≡ status_no_memory → ⊥) → Tells (work_start w) text r
  tells-of before is run memory = came (subst
      (λ (b : List ℕ). IsRun (work_start w) (quiet reads offered sends b asks send shelf [] [] []) exit r) is run)
      memory

  -- the line that is made of them
  pub line-is : (number : ℕ) (f : FlatState) (sum : ℕ) → work_machine number ≡ Some w → Tells (work_start w) text r
      → f ≡ r.machine.machine.flat → sum ≡ ram_sum_of f
      → (decimal r.steps ++ 32 ∷ decimal (length text) ++ 32 ∷ decimal sum) ++ 10 ∷ [] ≡ work_line number
  unfolding work_line
  line-is number f sum is told flat sum-is =
      let flat-is : f ≡ (final_of (work_start w)).configuration.machine.flat =
      flat ∙ ap (λ (m : FlatMachine). m.flat) told.machine in
      rw (sum-is, flat-is, told.steps, told.text_is, is) refl
