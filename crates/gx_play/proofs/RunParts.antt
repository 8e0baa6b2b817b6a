-- What goes with the status of a run, from what its report says.
use Rattle.std.proofs.Common.{Option, Some, None, IsSome, IsSomeAnd, refl, arith}
use Rattle.gx_machine.specs.Machine.{Whole}
use Rattle.gx_session.specs.declared.ended.Ended.{Ended}
use Rattle.gx_session.specs.Devices.{Devices}
use Rattle.gx_session.specs.Configurations.{Configuration}
use Rattle.gx_session.specs.Runs.{IsReport, IsRun, report_of}
use Rattle.gx_play.specs.Loading.{HasRunParts}

there : {X : Type 0} (P : X → Type 0) (m : Option X) → IsSomeAnd m P → IsSome m
there P None h = absurd h
there P (Some x) h = refl

-- with the machine, where it is handed back
pub report-parts : {A : Type 0} (ended : Ended A) (handing : Type 0) → IsReport ended.status ended.fault ended.at
    → (handing → IsSome ended.machine) → HasRunParts handing ended
report-parts ended handing report has =
    let which = report.status_is in
    record {
      status_is = grind (arith, which);
      played = λ _. grind (arith, which);
      story_fault = λ e. absurd (grind (arith, which, e));
      run_fault = λ _ e. report.fault_is e;
      text_fault = λ e. absurd (grind (arith, which, e));
      listing_fault = λ e. absurd (grind (arith, which, e));
      no_fault = λ _ other _. (report.no_fault other).0;
      no_place = λ other _. (report.no_fault other).1;
      ran = λ h _. has h;
      not_run = λ before. absurd (grind (arith, which, before));
    }

module _ {A : Type 0} (ended : Ended A) (start : Configuration) (entry exit : Devices) where
  reported : (m : Option Whole) → IsSomeAnd m (λ end. IsRun start entry exit (report_of ended end))
      → IsReport ended.status ended.fault ended.at
  reported None h = absurd h
  reported (Some whole) h = h.report

  pub run-parts : IsSomeAnd ended.machine (λ end. IsRun start entry exit (report_of ended end))
      → HasRunParts (Unit {0}) ended
  run-parts run = report-parts ended (Unit {0}) (reported ended.machine run) (λ _. there _ ended.machine run)
