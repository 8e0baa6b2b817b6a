-- That the status is the outcome's where no device failed.
use Rattle.std.proofs.Common.{◌≡◌, ℕ, ◌<◌, ◌≤◌, ◌⊎◌, inl, inr, true, List, Option, Some, None, IsSomeAnd, Ok, Err}
use Rattle.std.proofs.Common.{refl, ap}
use Rattle.std.proofs.Common.{subst, sym, ◌∙◌, arith}
use Rattle.std.specs.Option.{option_and_then}
use Rattle.gx_outside.specs.Sends.{Send}
use Rattle.gx_outside.specs.Outside.{FlatShelf, FlatSink}
use Rattle.gx_outside.specs.Shelves.{Request, Answer, Trace}
use Rattle.gx_machine.specs.Machine.{Whole}
use Rattle.gx_session.specs.declared.ended.Ended.{Ended}
use Rattle.gx_session.specs.Constants.{status_shelf_fault, status_no_memory}
use Rattle.gx_session.specs.Devices.{Devices}
use Rattle.gx_session.specs.Runs.{IsRun, IsSession, Report, report_of}
use Rattle.gx_session.specs.Session.{final_of, stop_status}
use Rattle.gx_play.specs.Commands.{Command}
use Rattle.gx_play.specs.Outcomes.{CommandOutcome, refused, answers_with, runs, rewinds, outcome_of}
use Rattle.gx_play.specs.Outcomes.{status_of_outcome}
use Rattle.gx_play.specs.Answers.{IsRunTo, IsRewindOf, SendsOutput, Plays}
use Rattle.gx_play.specs.Loading.{PlaysOrNot}
use Rattle.gx_play.proofs.Outputs.{SendsLine, line_of}
use Rattle.gx_play.proofs.Seeds.{words_for}
use Rattle.gx_play.specs.Headline.{ComesOut, HasNoFailure}
use Rattle.rand_core.specs.Stream.{Stream}
use Rattle.gx_session.specs.Counts.{FailureCounts}
use Rattle.gx_session.specs.Configurations.{Configuration}
use Rattle.gx_outside.specs.declared.devices.SendFault.TheVariants as of_send

module _ {A : Type 0} (ended : Ended A) (entry exit : Devices) where
  -- WHERE NO DEVICE failed
  module _ (fine : HasNoFailure entry exit) (counts : FailureCounts entry exit ended.status) where
    either : (status : ℕ) → (status ≡ 0) ⊎ ((3 ≤ status) × (status ≤ 11)) → (status ≡ 8 → ⊥) → (status ≡ 9 → ⊥)
        → (status ≡ 10 → ⊥) → (status < 8) ⊎ (status ≡ 11)
    either status (inl e) shelf source sink = inl (omega (arith, e))
    either status (inr b) shelf source sink = grind (arith, b.0, b.1, shelf, source, sink)

    -- a run that isn't cut short ends as the session does
    module _ (start : Configuration) (shelf : FlatShelf) (words : Stream) (leaving : Devices) (r : Report) where
      abbrev loaded : Devices
      loaded = record entry { shelf = shelf; words = words }

      at-end : (input coming : List ℕ) (answers : Trace → Request → Answer) → input ≡ start.input
          → answers ≡ start.answers → IsSession (record start { input = input; answers = answers }) loaded leaving
          coming r
          → r.status < status_shelf_fault → r.status ≡ stop_status (final_of start).stop
      at-end input coming answers is same session early =
          (session.ended early).status_is
          ∙ ap (λ (i : List ℕ). stop_status (final_of (record start { input = i; answers = answers })).stop) is
          ∙ ap (λ (a : Trace → Request → Answer). stop_status (final_of (record start { answers = a })).stop) same

      run-ends : shelf.tells ≡ entry.shelf.tells → IsRun start loaded leaving r → r.status ≡ ended.status
          → entry.source.tells ≡ true → entry.shelf.tells ≡ true
          → (r.status ≡ stop_status (final_of start).stop) ⊎ (r.status ≡ status_no_memory)
      run-ends kept run same source-tells shelf-tells =
          elim (either r.status run.report.status_is (λ e. fine.shelf (counts.shelf.rose (sym same ∙ e)))
          (λ e. fine.source (counts.source.rose (sym same ∙ e))) (λ e. fine.sink (counts.sink.rose (sym same ∙ e)))) [
            | inl early ↦ inl (at-end run.input run.coming run.answers (run.input_is source-tells)
                (run.answers_are (kept ∙ shelf-tells)) run.session early)
            | inr memory ↦ inr memory
          ]

    some-ends : (seed : Option ℕ) (start : Configuration) (shelf : FlatShelf) (asked : Trace) (end : Option Whole)
        → shelf.tells ≡ entry.shelf.tells
        → IsSomeAnd end (λ whole. IsRunTo seed start (record entry { shelf = shelf }) (record exit { asked = asked })
        (report_of ended whole))
        → entry.source.tells ≡ true → entry.shelf.tells ≡ true → (ended.status ≡ stop_status (final_of start).stop)
        ⊎ (ended.status ≡ status_no_memory)
    some-ends seed start shelf asked None kept run source-tells shelf-tells = absurd run
    some-ends seed start shelf asked (Some whole) kept run source-tells shelf-tells =
        run-ends start shelf (words_for seed entry.words) (record exit { asked = asked; words = run.0 })
        (report_of ended whole) kept run.2 refl source-tells shelf-tells

    -- so does one on a tape, but for want of memory at the line
    line-sent : (line : List ℕ) (r : Report) (before now : FlatSink) (sends : List Send)
        → SendsLine line r before now sends ended → (r.status ≡ ended.status) ⊎ (ended.status ≡ status_no_memory)
    line-sent line r before now sends (inl (Ok done, has, sent, call)) = inl (sym has.status_is)
    line-sent line r before now sends (inl (Err of_send.Failed, has, sent, call)) =
        absurd (fine.sink (counts.sink.rose has.status_is))
    line-sent line r before now sends (inl (Err of_send.NoMemory, has, sent, call)) = inr has.status_is
    line-sent line r before now sends (inr (has, same, none)) = inr has.status_is

    below : (status : ℕ) → (status < status_shelf_fault) ⊎ (status_shelf_fault ≤ status)
    below status = grind arith

    tape-ends : (seed : Option ℕ) (back : ℕ) (start : Configuration) (shelf : FlatShelf) (asked : Trace)
        → shelf.tells ≡ entry.shelf.tells → IsRewindOf seed back start (record entry { shelf = shelf })
        (record exit { asked = asked }) ended
        → entry.source.tells ≡ true → entry.shelf.tells ≡ true → (ended.status ≡ stop_status (final_of start).stop)
        ⊎ (ended.status ≡ status_no_memory)
    tape-ends seed back start shelf asked kept run source-tells shelf-tells =
        let r : Report = run.report in
        let mid : Devices = record exit { sink = run.sink; sends = run.sends; asked = asked; words = run.run.0 } in
        let same : (r.status ≡ ended.status) ⊎ (ended.status ≡ status_no_memory) =
        elim (below r.status) [
          | inl early ↦ line-sent (line_of back r) r run.sink exit.sink run.more (run.rewound.told early)
          | inr late ↦ inl (sym (run.rewound.early late).0.status_is)
        ] in
        elim same [
          | inr memory ↦ inr memory
          | inl is ↦
              elim (run-ends start shelf (words_for seed entry.words) mid r kept run.run.2 is source-tells
              shelf-tells) [
                | inl ends ↦ inl (sym is ∙ ends)
                | inr memory ↦ inr (sym is ∙ memory)
              ]
        ]

    output-ends : (status : ℕ) (output : List ℕ) (before now : FlatSink) (sends : List Send)
        → SendsOutput status 0 0 0 output before now sends ended → (ended.status ≡ 10 → ⊥)
        → (ended.status ≡ status) ⊎ (ended.status ≡ status_no_memory)
    output-ends status output before now sends (Ok done, absent, sent, call) sink = inl absent.status_is
    output-ends status output before now sends (Err of_send.Failed, absent, sent, call) sink =
        absurd (sink absent.status_is)
    output-ends status output before now sends (Err of_send.NoMemory, absent, sent, call) sink = inr absent.status_is

    outcome-ends : (outcome : CommandOutcome) → Plays outcome entry exit ended → entry.source.tells ≡ true
        → entry.shelf.tells ≡ true → (ended.status ≡ status_of_outcome outcome) ⊎ (ended.status ≡ status_no_memory)
    outcome-ends (refused status fault at) unbegun source-tells shelf-tells = inl unbegun.1.0.status_is
    outcome-ends (answers_with status output) told source-tells shelf-tells =
        output-ends status output entry.sink exit.sink exit.sends told.1 (λ e. fine.sink (counts.sink.rose e))
    outcome-ends (runs seed start) begun source-tells shelf-tells =
        some-ends seed start begun.shelf begun.asked ended.machine begun.does.tells begun.run source-tells shelf-tells
    outcome-ends (rewinds seed back start) begun source-tells shelf-tells =
        tape-ends seed back start begun.shelf begun.asked begun.does.tells begun.run source-tells shelf-tells

    ends : (outcome : CommandOutcome) → PlaysOrNot outcome entry exit ended → entry.source.tells ≡ true
        → entry.shelf.tells ≡ true → (ended.status ≡ status_of_outcome outcome) ⊎ (ended.status ≡ status_no_memory)
    ends outcome (inl plays) source-tells shelf-tells = outcome-ends outcome plays source-tells shelf-tells
    ends outcome (inr (inl failed)) source-tells shelf-tells =
        absurd (fine.shelf (counts.shelf.rose failed.1.0.status_is))
    ends outcome (inr (inr wanted)) source-tells shelf-tells = inr wanted.1.0.status_is

  pub complete : (command : Option Command) → ComesOut command entry exit ended → FailureCounts entry exit ended.status
      → entry.source.tells ≡ true → entry.shelf.tells ≡ true → HasNoFailure entry exit
      → (ended.status ≡ status_of_outcome (outcome_of command
      (option_and_then (λ (c : Command). entry.shelf.files c.story) command) entry))
      ⊎ (ended.status ≡ status_no_memory)
  complete None comes counts = λ source-tells shelf-tells fine.
      ends fine counts (outcome_of None comes.file entry) comes.plays source-tells shelf-tells
  complete (Some command) comes counts =
      λ source-tells shelf-tells fine.
      subst (λ (file : Option (List ℕ)). (ended.status ≡ status_of_outcome (outcome_of (Some command) file entry))
      ⊎ (ended.status ≡ status_no_memory)) (comes.file_is shelf-tells)
      (ends fine counts (outcome_of (Some command) comes.file entry) comes.plays source-tells shelf-tells)
