-- What job rewind comes to, from its run and the line after it.
use Rattle.std.proofs.Common.{◌≡◌, ◌≢◌, ℕ, ◌<◌, ◌≤◌, ◌⊎◌, inl, inr, List, Ok, Err, refl, subst, sym, arith}
use Rattle.gx_outside.specs.Sends.{Send}
use Rattle.gx_outside.specs.Outside.{FlatSink}
use Rattle.gx_session.specs.declared.ended.Ended.{Ended}
use Rattle.gx_session.specs.Constants.{status_ended, status_shelf_fault, status_input_fault, status_output_fault}
use Rattle.gx_session.specs.Constants.{status_no_memory}
use Rattle.gx_session.specs.Devices.{Devices}
use Rattle.gx_session.specs.Runs.{IsReport, Report}
use Rattle.gx_session.proofs.Counting.{blames-on, blames-same, well-of}
use Rattle.gx_play.specs.Answers.{HasNoMachine, IsRewound, SendsOutput}
use Rattle.gx_play.proofs.Outputs.{SendsLine, line_of}
use Rattle.gx_play.specs.Loading.{BlamesSink, HasRunParts}
use Rattle.gx_play.proofs.RunParts.{report-parts}
use Rattle.gx_session.specs.Counts.{FailureCounts}
use Rattle.gx_outside.specs.declared.devices.SendFault.TheVariants as of_send

module _ {A : Type 0} (ended : Ended A) where
  -- THE ANSWER where the line wasn't sent whole
  module _ (sent : Ended A) (line : List ℕ) (r : Report) (before now : FlatSink) (sends : List Send) where
    pub line-whole : SendsOutput status_ended 0 0 0 line before now sends sent → sent.status ≡ status_ended
        → HasNoMachine ended r.status r.fault r.at r.steps → SendsLine line r before now sends ended
    line-whole (Ok done, absent, once, call) is has = inl (Ok done, has, once, call)
    line-whole (Err of_send.Failed, absent, front, call) is has = let s = absent.status_is in
        absurd (omega (arith, s, is))
    line-whole (Err of_send.NoMemory, absent, front, call) is has = let s = absent.status_is in
        absurd (omega (arith, s, is))

    pub line-unsent : SendsOutput status_ended 0 0 0 line before now sends sent → sent.status ≢ status_ended
        → HasNoMachine ended sent.status 0 0 r.steps → SendsLine line r before now sends ended
    line-unsent (Ok done, absent, took, call) not has = absurd (not absent.status_is)
    line-unsent (Err of_send.Failed, absent, front, call) not has =
        inl (Err of_send.Failed, subst (λ (s : ℕ). HasNoMachine ended s 0 0 r.steps) absent.status_is has, front, call)
    line-unsent (Err of_send.NoMemory, absent, front, call) not has =
        inl (
          Err of_send.NoMemory,
          subst (λ (s : ℕ). HasNoMachine ended s 0 0 r.steps) absent.status_is has,
          front,
          call,
        )

  module _ (back : ℕ) (r : Report) (before now : FlatSink) (sends : List Send) where
    -- after a run that came to its end
    pub rewound-told : r.status < status_shelf_fault → SendsLine (line_of back r) r before now sends ended
        → IsRewound back r before now sends ended
    rewound-told early line = record { told = λ _. line; early = λ late. absurd (omega (arith, early, late)) }

    below : (status : ℕ) → (status < status_shelf_fault) ⊎ (status_shelf_fault ≤ status)
    below status = grind arith

    -- THE STATUS with its fault and place
    quiet : (status : ℕ) → (status ≡ 10) ⊎ (status ≡ 11) → IsReport status 0 0
    quiet status which = record {
      status_is = inr (grind (arith, which), grind (arith, which));
      fault_is = λ e. absurd (grind (arith, which, e));
      no_fault = λ _. (refl, refl);
    }

    as-run : (status fault at : ℕ) → HasNoMachine ended status fault at r.steps → IsReport status fault at
        → IsReport ended.status ended.fault ended.at
    as-run status fault at has report = rw (has.status_is, has.fault_is, has.at_is) report

    line-report : SendsLine (line_of back r) r before now sends ended → IsReport r.status r.fault r.at
        → IsReport ended.status ended.fault ended.at
    line-report (inl (Ok done, has, took, call)) report = as-run r.status r.fault r.at has report
    line-report (inl (Err of_send.Failed, has, front, call)) report =
        as-run status_output_fault 0 0 has (quiet status_output_fault (inl refl))
    line-report (inl (Err of_send.NoMemory, has, front, call)) report =
        as-run status_no_memory 0 0 has (quiet status_no_memory (inr refl))
    line-report (inr (has, same, none)) report = as-run status_no_memory 0 0 has (quiet status_no_memory (inr refl))

    rewound-report : IsRewound back r before now sends ended → IsReport r.status r.fault r.at
        → IsReport ended.status ended.fault ended.at
    rewound-report rewound report =
        elim (below r.status) [
          | inl early ↦ line-report (rewound.told early) report
          | inr late ↦ as-run r.status r.fault r.at (rewound.early late).0 report
        ]

    pub rewound-parts : IsRewound back r before now sends ended → IsReport r.status r.fault r.at → HasRunParts ⊥ ended
    rewound-parts rewound report = report-parts ended ⊥ (rewound-report rewound report) (λ none. absurd none)

  -- THE COUNTS over the run and the line
  module _ (back : ℕ) (r : Report) (entry mid exit : Devices) (counts : FailureCounts entry mid r.status) where
    line-status : (before now : FlatSink) (sends : List Send) → SendsLine (line_of back r) r before now sends ended
        → (ended.status ≡ r.status) ⊎ (ended.status ≡ 10) ⊎ (ended.status ≡ 11)
    line-status before now sends (inl (Ok done, has, took, call)) = inl has.status_is
    line-status before now sends (inl (Err of_send.Failed, has, front, call)) = inr (inl has.status_is)
    line-status before now sends (inl (Err of_send.NoMemory, has, front, call)) = inr (inr has.status_is)
    line-status before now sends (inr (has, same, none)) = inr (inr has.status_is)

    told-counts : r.status < status_shelf_fault → (ended.status ≡ r.status) ⊎ (ended.status ≡ 10)
        ⊎ (ended.status ≡ 11) → BlamesSink mid.sink exit.sink ended.status
        → FailureCounts entry (record mid { sink = exit.sink }) ended.status
    told-counts early which blames = record {
      shelf = blames-same entry.shelf.calls mid.shelf.calls _ (ended.status ≡ status_shelf_fault) counts.shelf
          (λ e. absurd (omega (arith, early, e))) (λ e. absurd (grind (arith, early, which, e)));
      source = blames-same entry.source.calls mid.source.calls _ (ended.status ≡ status_input_fault) counts.source
          (λ e. absurd (omega (arith, early, e))) (λ e. absurd (grind (arith, early, which, e)));
      sink = blames-on entry.sink.calls mid.sink.calls exit.sink.calls (ended.status ≡ status_output_fault)
          (well-of entry.sink.calls mid.sink.calls _ counts.sink (λ e. omega (arith, early, e))) blames;
    }

    pub rewound-counts : (sends : List Send) → IsRewound back r mid.sink exit.sink sends ended
        → (r.status < status_shelf_fault → BlamesSink mid.sink exit.sink ended.status)
        → FailureCounts entry (record mid { sink = exit.sink }) ended.status
    rewound-counts sends rewound blames =
        elim (below back r mid.sink exit.sink sends r.status) [
          | inl early ↦ told-counts early (line-status mid.sink exit.sink sends (rewound.told early)) (blames early)
          | inr late ↦
              let over = rewound.early late in
              subst (λ (k : FlatSink). FailureCounts entry (record mid { sink = k }) ended.status) (sym over.1)
              (subst (λ (s : ℕ). FailureCounts entry mid s) (sym over.0.status_is) counts)
        ]
