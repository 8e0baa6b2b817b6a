-- What a command comes to, from what its parts did.
use Rattle.std.proofs.Common.{◌≡◌, ◌≢◌, ℕ, ◌≤◌, ◌⊎◌, inl, inr, Bool, true, false, List, [], ◌∷◌, Option, Some, None}
use Rattle.std.proofs.Common.{IfSome, length, Result, Ok, Err, refl, ap, subst, sym, ◌∙◌, arith}
use Rattle.gx_words.specs.Constants.{ceiling}
use Rattle.glk_screen.proofs.WrapLaws.{wrapping_keeps}
use Rattle.gx_outside.specs.Chains.{Chain}
use Rattle.gx_outside.specs.Outside.{FlatShelf, FlatSink}
use Rattle.gx_outside.specs.Reads.{SourceCall}
use Rattle.gx_outside.specs.Sends.{Send, SinkCall}
use Rattle.gx_outside.specs.Shelves.{load_file, Exchange, Trace, ShelfCall}
use Rattle.gx_story.specs.Stories.{FlatStory, is_checked}
use Rattle.gx_asm.specs.declared.faults.AsmFault.{AsmFault}
use Rattle.gx_asm.specs.declared.faults.ListFault.{ListFault}
use Rattle.gx_asm.specs.Faults.{number_in_text, line_in_text, number_in_code, place_in_code}
use Rattle.gx_asm.specs.Texts.{assembled}
use Rattle.gx_asm.specs.Stories.{wrapped_code, listed_story}
use Rattle.gx_session.specs.declared.ended.Ended.{Ended}
use Rattle.gx_session.specs.Constants.{status_ended, status_bad_words, status_bad_story, status_shelf_fault}
use Rattle.gx_session.specs.Constants.{status_input_fault, status_output_fault, status_no_memory, status_bad_text}
use Rattle.gx_session.specs.Constants.{status_no_listing}
use Rattle.gx_session.specs.Devices.{Devices}
use Rattle.gx_session.specs.Counts.{Blames, FailureCounts}
use Rattle.gx_session.proofs.Counting.{blames-none, blames-same}
use Rattle.gx_play.specs.declared.command.Job.{Job}
use Rattle.gx_play.specs.declared.command.Job.TheVariants.{Play, Check, Work, Asm, List as Listing}
use Rattle.gx_play.specs.declared.loading.Refusal.{Refusal}
use Rattle.gx_play.specs.Commands.{Command, command_of}
use Rattle.gx_play.specs.Constants.{most_text}
use Rattle.gx_play.specs.Jobs.{work_line, check_told}
use Rattle.gx_play.specs.Outcomes.{CommandOutcome, refused, answers_with, outcome_of_job}
use Rattle.gx_play.specs.Outcomes.{outcome_of_code, outcome_of_listing}
use Rattle.gx_play.proofs.Outcomes.{story_in_file, text_in_file, outcome_of_check, outcome_of_text, outcome_of_list}
use Rattle.gx_play.specs.Answers.{HasNoMachine, IsUnrun, SendsOutput}
use Rattle.gx_play.specs.FirstLoad.{JobMayWant, LoadsFirst}
use Rattle.gx_play.specs.Statuses.{PlaysStory, HasItsParts}
use Rattle.gx_play.specs.Headline.{ComesOut, IsPlayed}
use Rattle.gx_play.specs.Loading.{refusal_status, refusal_fault, IsLoadable, LoadGives, LoadsFile, JobTells}
use Rattle.gx_play.specs.Loading.{BlamesSink, HasRunParts, PlaysOrNot, IsJobDone}
use Rattle.gx_play.proofs.Completeness.{complete}
use Rattle.gx_play.proofs.Loads.{loadable, text-loadable}
use Rattle.gx_play.proofs.Seeds.{undrawn, settled}
use Rattle.gx_play.proofs.Spellings.{spelling}
use Rattle.gx_play.proofs.Works.{works}
use Rattle.gx_play.proofs.WrappedEnds.{wraps_runs}
use Rattle.gx_outside.specs.declared.devices.SendFault.TheVariants as of_send
use Rattle.gx_play.specs.declared.loading.Refusal.TheVariants as refusal

-- AN ANSWER of a job that hands no machine back: no fault, or one of a text or of a listing.
record IsTold {A : Type 0} (ended : Ended A) : Type 0 where
  status : ℕ
  fault : ℕ
  place : ℕ
  absent : HasNoMachine ended status fault place 0
  which : (status ≡ 0) ⊎ (status ≡ 3) ⊎ (status ≡ 10) ⊎ (status ≡ 11) ⊎ (status ≡ 12) ⊎ (status ≡ 13)
  none : status ≤ 11 → (fault ≡ 0) × (place ≡ 0)
  text_fault : status ≡ 12 → (1 ≤ fault) × (fault ≤ 4)
  listing_fault : status ≡ 13 → (1 ≤ fault) × (fault ≤ 5)

module _ {A : Type 0} (ended : Ended A) where
  -- the parts of an answer that was given before anything ran
  parts-before : (playing handing : Type 0) (status fault : ℕ) → HasNoMachine ended status fault 0 0
      → (status ≡ 1) ⊎ (status ≡ 2) ⊎ (status ≡ 8) ⊎ (status ≡ 11)
      → fault ≤ 7 → (status ≢ 2 → fault ≡ 0) → HasItsParts playing handing ended
  parts-before playing handing status fault absent which small none =
      let s = absent.status_is in
      let f = absent.fault_is in
      record {
        status_is = grind (arith, s, which);
        played = λ _. grind (arith, s, which);
        story_fault = λ _. omega (arith, f, small);
        run_fault = λ _ e. absurd (grind (arith, s, which, e));
        text_fault = λ e. absurd (grind (arith, s, which, e));
        listing_fault = λ e. absurd (grind (arith, s, which, e));
        no_fault = λ other _ _. f ∙ none (λ e. other (s ∙ e));
        no_place = λ _ _. absent.at_is;
        ran = λ _ e. absurd (grind (arith, s, which, e));
        not_run = λ _. absent.machine_is;
      }

  -- its parts
  parts-told : (playing handing : Type 0) → (playing → ⊥) → (handing → ⊥) → IsTold ended
      → HasItsParts playing handing ended
  parts-told playing handing idle empty t =
      let s = t.absent.status_is in
      let f = t.absent.fault_is in
      let p = t.absent.at_is in
      let which = t.which in
      record {
        status_is = grind (arith, s, which);
        played = λ playing. absurd (idle playing);
        story_fault = λ e. absurd (grind (arith, s, which, e));
        run_fault = λ playing _. absurd (idle playing);
        text_fault = λ e. let range = t.text_fault (sym s ∙ e) in
            (omega (arith, f, range.0), omega (arith, f, range.1));
        listing_fault = λ e. let range = t.listing_fault (sym s ∙ e) in
            (omega (arith, f, range.0), omega (arith, f, range.1));
        no_fault = λ _ _ early. f ∙ (t.none (omega (arith, s, early))).0;
        no_place = λ _ early. p ∙ (t.none (omega (arith, s, early))).1;
        ran = λ handing _. absurd (empty handing);
        not_run = λ _. t.absent.machine_is;
      }

  -- the parts of a run
  pub parts-for : (playing : Type 0) (given handing : Type 0) → (handing → given) → HasRunParts given ended
      → HasItsParts playing handing ended
  parts-for playing given handing has p = record {
    status_is = p.status_is;
    played = λ _. p.played tt;
    story_fault = p.story_fault;
    run_fault = λ _ e. p.run_fault tt e;
    text_fault = p.text_fault;
    listing_fault = p.listing_fault;
    no_fault = p.no_fault;
    no_place = p.no_place;
    ran = λ h e. p.ran (has h) e;
    not_run = p.not_run;
  }

  -- the shelf was asked once
  once-asked : (asked : Trace) (load : Exchange) → asked ≡ load ∷ [] → length asked ≤ 1
  once-asked asked load is = let size : length asked ≡ 1 = ap (λ (t : Trace). length t) is in omega (arith, size)

  -- AN OUTPUT that was sent, or a front of it
  quiet : (status : ℕ) → HasNoMachine ended status 0 0 0 → (status ≡ 0) ⊎ (status ≡ 3) ⊎ (status ≡ 10) ⊎ (status ≡ 11)
      → IsTold ended
  quiet status absent which = record {
    status = status;
    fault = 0;
    place = 0;
    absent = absent;
    which = grind (arith, which);
    none = λ _. (refl, refl);
    text_fault = λ e. absurd (grind (arith, which, e));
    listing_fault = λ e. absurd (grind (arith, which, e));
  }

  sent : (status : ℕ) (output : List ℕ) (before now : FlatSink) (sends : List Send) → (status ≡ 0) ⊎ (status ≡ 3)
      → SendsOutput status 0 0 0 output before now sends ended → IsTold ended
  sent status output before now sends which (Ok done, absent, took, call) = quiet status absent (grind (arith, which))
  sent status output before now sends which (Err of_send.Failed, absent, took, call) =
      quiet status_output_fault absent (inr (inr (inl refl)))
  sent status output before now sends which (Err of_send.NoMemory, absent, took, call) =
      quiet status_no_memory absent (inr (inr (inr refl)))

  -- a text's code, or its fault
  code-told : (r : Result (List ℕ) AsmFault) (before now : FlatSink) (sends : List Send)
      → (ended.status ≡ status_bad_text → (1 ≤ ended.fault) × (ended.fault ≤ 4))
      → JobTells (outcome_of_code r) before now sends ended → IsTold ended
  code-told (Ok code) before now sends number (inl once) =
      sent status_ended (wrapped_code code) before now sends (inl refl) once
  code-told (Ok code) before now sends number (inr (absent, same, none)) =
      quiet status_no_memory absent (inr (inr (inr refl)))
  code-told (Err fault) before now sends number (absent, same, none) =
      let range = number absent.status_is in
      let f = absent.fault_is in
      record {
        status = status_bad_text;
        fault = number_in_text fault;
        place = line_in_text fault;
        absent = absent;
        which = inr (inr (inr (inr (inl refl))));
        none = λ e. absurd (omega (arith, e));
        text_fault = λ _. (omega (arith, f, range.0), omega (arith, f, range.1));
        listing_fault = λ e. absurd (omega (arith, e));
      }

  -- a story's listing, or its fault
  listing-told : (r : Result (List ℕ) ListFault) (before now : FlatSink) (sends : List Send)
      → (ended.status ≡ status_no_listing → (1 ≤ ended.fault) × (ended.fault ≤ 5))
      → JobTells (outcome_of_listing r) before now sends ended → IsTold ended
  listing-told (Ok text) before now sends number (inl once) = sent status_ended text before now sends (inl refl) once
  listing-told (Ok text) before now sends number (inr (absent, same, none)) =
      quiet status_no_memory absent (inr (inr (inr refl)))
  listing-told (Err fault) before now sends number (absent, same, none) =
      let range = number absent.status_is in
      let f = absent.fault_is in
      record {
        status = status_no_listing;
        fault = number_in_code fault;
        place = place_in_code fault;
        absent = absent;
        which = inr (inr (inr (inr (inr refl))));
        none = λ e. absurd (omega (arith, e));
        text_fault = λ e. absurd (omega (arith, e));
        listing_fault = λ _. (omega (arith, f, range.0), omega (arith, f, range.1));
      }

  plays-told : (outcome : CommandOutcome) (entry exit : Devices) → IsUnrun entry exit
      → JobTells outcome entry.sink exit.sink exit.sends ended → PlaysOrNot outcome entry exit ended
  plays-told (refused status fault at) entry exit unrun told = inl (unrun, told)
  plays-told (answers_with status output) entry exit unrun (inl once) = inl (unrun, once)
  plays-told (answers_with status output) entry exit unrun (inr nothing) = inr (inr (unrun, nothing))
  plays-told outcome entry exit unrun none = absurd none

  -- A JOB that hands no machine back, over the file that was loaded
  module _ (job : Job) (command : Command) (d : Devices) (before now : FlatShelf) (taken took : FlatSink)
      (sends : List Send) (asked : Trace) where
    abbrev at-entry : Devices
    at-entry = record d { sink = taken; shelf = before; sends = []; asked = [] }

    abbrev at-exit : Devices
    at-exit = record d { sink = took; shelf = now; sends = sends; asked = asked }

    told-done : (file : Option (List ℕ)) (outcome : CommandOutcome) (failed : Type 0) → (PlaysStory job → ⊥)
        → (before.tells ≡ true → file ≡ before.files command.story) → outcome_of_job job command file at-entry ≡ outcome
        → JobMayWant job file → LoadsFirst job command file asked → length asked ≤ 1
        → Blames before.calls now.calls failed → (failed → ⊥) → IsTold ended
        → JobTells outcome taken took sends ended → BlamesSink taken took ended.status
        → IsJobDone job command at-entry at-exit ended
    told-done file outcome failed idle holds is may first few count fine t tell blames =
        let s = t.absent.status_is in
        let which = t.which in
        record {
          file = file;
          file_is = holds;
          loads = first;
          plays = subst (λ (o : CommandOutcome). PlaysOrNot o at-entry at-exit ended) (sym is)
              (plays-told outcome at-entry at-exit (record { asked = few; source = refl; reads = refl; words = refl })
              tell);
          memory = λ _. may;
          began = λ e. absurd (grind (arith, s, which, e));
          counts = record {
            shelf = blames-same before.calls now.calls failed (ended.status ≡ status_shelf_fault) count
                (λ e. absurd (fine e)) (λ e. absurd (grind (arith, s, which, e)));
            source = blames-none d.source.calls d.source.calls (ended.status ≡ status_input_fault) refl
                (λ e. absurd (grind (arith, s, which, e)));
            sink = blames;
          };
          parts = parts-told (PlaysStory job) (job ≡ Play) idle (λ is. idle (subst PlaysStory (sym is) tt)) t;
        }

  -- JOB WORK
  module _ (number : ℕ) (command : Command) (d : Devices) (before now : FlatSink) (sends : List Send) where
    work-done : IsTold ended → JobTells (answers_with status_ended (work_line number)) before now sends ended
        → BlamesSink before now ended.status → IsJobDone (Work number) command
        (record d { sink = before; sends = []; asked = [] }) (record d { sink = now; sends = sends; asked = [] }) ended
    work-done t tell blames =
        told-done (Work number) command d d.shelf d.shelf before now sends [] (d.shelf.files command.story)
        (answers_with status_ended (work_line number)) ⊥ (λ plays. plays) (λ _. refl) refl tt refl (omega arith)
        (blames-none d.shelf.calls d.shelf.calls ⊥ refl (λ e. e)) (λ e. e) t tell blames

    pub work-told : SendsOutput status_ended 0 0 0 (work_line number) before now sends ended
        → BlamesSink before now ended.status → IsJobDone (Work number) command
        (record d { sink = before; sends = []; asked = [] }) (record d { sink = now; sends = sends; asked = [] }) ended
    work-told once blames = work-done (sent status_ended (work_line number) before now sends (inl refl) once)
        (inl once) blames

  pub work-unmade : (number : ℕ) (command : Command) (d : Devices) → HasNoMachine ended status_no_memory 0 0 0
      → IsJobDone (Work number) command (record d { sends = []; asked = [] })
      (record d { sends = []; asked = [] }) ended
  work-unmade number command d absent =
      let s = absent.status_is in
      work-done number command d d.sink d.sink [] (quiet status_no_memory absent (inr (inr (inr refl))))
      (inr (absent, refl, refl))
      (blames-none d.sink.calls d.sink.calls (ended.status ≡ status_output_fault) refl
      (λ e. absurd (omega (arith, s, e))))

  -- NOTHING WAS LOADED in a job that loads a file
  module _ {X : Type 0} (most : ℕ) (defined : Option (List ℕ) → Result X ℕ) (command : Command) (d : Devices)
      (before now : FlatShelf) (asked : Trace) where
    abbrev entry : Devices
    entry = record d { shelf = before; sends = []; asked = [] }

    abbrev exit : Devices
    exit = record d { shelf = now; sends = []; asked = asked }

    not-loaded : (file : Option (List ℕ)) (r : Refusal) (outcome : CommandOutcome) → IsUnrun entry exit
        → ((fault : ℕ) → defined file ≡ Err fault → outcome ≡ refused status_bad_story fault 0)
        → LoadGives most defined file (Err r) → HasNoMachine ended (refusal_status r) (refusal_fault r) 0 0
        → PlaysOrNot outcome entry exit ended
    not-loaded file (refusal.BadStory fault) outcome unrun bad gives absent =
        subst (λ (o : CommandOutcome). PlaysOrNot o entry exit ended) (sym (bad fault gives))
        (inl (unrun, (absent, refl, refl)))
    not-loaded file refusal.Shelf outcome unrun bad gives absent = inr (inl (unrun, (absent, refl, refl)))
    not-loaded file refusal.NoMemory outcome unrun bad gives absent = inr (inr (unrun, (absent, refl, refl)))

    wants : (file : Option (List ℕ)) (r : Refusal) → LoadGives most defined file (Err r)
        → HasNoMachine ended (refusal_status r) (refusal_fault r) 0 0 → ended.status ≡ status_no_memory
        → IsLoadable most file
    wants file (refusal.BadStory fault) gives absent e = let s = absent.status_is in absurd (omega (arith, s, e))
    wants file refusal.Shelf gives absent e = let s = absent.status_is in absurd (omega (arith, s, e))
    wants file refusal.NoMemory gives absent e = gives

    refusal-parts : (playing handing : Type 0) (r : Refusal)
        → HasNoMachine ended (refusal_status r) (refusal_fault r) 0 0
        → ((fault : ℕ) → (let e : Result X Refusal = Err r in e ≡ Err (refusal.BadStory fault)) → fault ≤ 7)
        → HasItsParts playing handing ended
    refusal-parts playing handing (refusal.BadStory fault) absent small =
        parts-before playing handing status_bad_story fault absent (inr (inl refl)) (small fault refl)
        (λ e. absurd (e refl))
    refusal-parts playing handing refusal.Shelf absent small =
        parts-before playing handing status_shelf_fault 0 absent (inr (inr (inl refl))) (omega arith) (λ _. refl)
    refusal-parts playing handing refusal.NoMemory absent small =
        parts-before playing handing status_no_memory 0 absent (inr (inr (inr refl))) (omega arith) (λ _. refl)

    refusal-blames : (r : Refusal) → HasNoMachine ended (refusal_status r) (refusal_fault r) 0 0
        → Blames before.calls now.calls (let e : Result X Refusal = Err r in e ≡ Err refusal.Shelf)
        → Blames before.calls now.calls (ended.status ≡ status_shelf_fault)
    refusal-blames (refusal.BadStory fault) absent blames =
        let s = absent.status_is in blames-same before.calls now.calls _ (ended.status ≡ status_shelf_fault) blames
        (λ e. absurd cc) (λ e. absurd (omega (arith, s, e)))
    refusal-blames refusal.Shelf absent blames =
        blames-same before.calls now.calls _ (ended.status ≡ status_shelf_fault) blames (λ _. absent.status_is)
        (λ _. refl)
    refusal-blames refusal.NoMemory absent blames =
        let s = absent.status_is in blames-same before.calls now.calls _ (ended.status ≡ status_shelf_fault) blames
        (λ e. absurd cc) (λ e. absurd (omega (arith, s, e)))

    which-of : (r : Refusal) → HasNoMachine ended (refusal_status r) (refusal_fault r) 0 0
        → (ended.status ≡ 2) ⊎ (ended.status ≡ 8) ⊎ (ended.status ≡ 11)
    which-of (refusal.BadStory fault) absent = inl absent.status_is
    which-of refusal.Shelf absent = inr (inl absent.status_is)
    which-of refusal.NoMemory absent = inr (inr absent.status_is)

    pub refused-done : (job : Job) (r : Refusal) (l : LoadsFile most defined before now command.story asked (Err r))
        → Blames before.calls now.calls (let e : Result X Refusal = Err r in e ≡ Err refusal.Shelf)
        → ((fault : ℕ) → (let e : Result X Refusal = Err r in e ≡ Err (refusal.BadStory fault)) → fault ≤ 7)
        → HasNoMachine ended (refusal_status r) (refusal_fault r) 0 0
        → ((fault : ℕ) → defined l.file ≡ Err fault → outcome_of_job job command l.file entry
        ≡ refused status_bad_story fault 0) → (IsLoadable most l.file → JobMayWant job l.file)
        → LoadsFirst job command l.file ((load_file command.story most, l.answer) ∷ [])
        → IsJobDone job command entry exit ended
    refused-done job r l count small absent bad may first =
        let which = which-of r absent in
        record {
          file = l.file;
          file_is = l.file_is;
          loads = subst (LoadsFirst job command l.file) (sym l.asked_are) first;
          plays = not-loaded l.file r (outcome_of_job job command l.file entry)
              (record {
                asked = once-asked asked (load_file command.story most, l.answer) l.asked_are;
                source = refl;
                reads = refl;
                words = refl;
              }) bad l.gives absent;
          memory = λ e. may (wants l.file r l.gives absent e);
          began = λ e. absurd (grind (arith, which, e));
          counts = record {
            shelf = refusal-blames r absent count;
            source = blames-none d.source.calls d.source.calls (ended.status ≡ status_input_fault) refl
                (λ e. absurd (grind (arith, which, e)));
            sink = blames-none d.sink.calls d.sink.calls (ended.status ≡ status_output_fault) refl
                (λ e. absurd (grind (arith, which, e)));
          };
          parts = refusal-parts (PlaysStory job) (job ≡ Play) r absent small;
        }

  -- THE JOBS check, asm and list of what was loaded
  either : (right : Bool) → ((check_told right).0 ≡ 0) ⊎ ((check_told right).0 ≡ 3)
  either true = inl refl
  either false = inr refl

  module _ (command : Command) (d : Devices) (before now : FlatShelf) (taken took : FlatSink) (sends : List Send)
      (asked : Trace) (blames : BlamesSink taken took ended.status) where
    pub check-told : (story : FlatStory) (l : LoadsFile ceiling story_in_file before now command.story asked
        (Ok story)) → Blames before.calls now.calls
        (let e : Result FlatStory Refusal = Ok story in e ≡ Err refusal.Shelf)
        → SendsOutput (check_told (is_checked story)).0 0 0 0 (check_told (is_checked story)).1 taken took sends ended
        → IsJobDone Check command (record d { sink = taken; shelf = before; sends = []; asked = [] })
        (record d { sink = took; shelf = now; sends = sends; asked = asked }) ended
    check-told story l count once =
        told-done Check command d before now taken took sends asked l.file
        (answers_with (check_told (is_checked story)).0 (check_told (is_checked story)).1) _
        (λ plays. plays) l.file_is (ap outcome_of_check l.gives) (loadable l.file story l.gives)
        (subst (LoadsFirst Check command l.file) (sym l.asked_are) (refl, l.handed))
        (once-asked asked (load_file command.story ceiling, l.answer) l.asked_are) count (λ e. absurd cc)
        (sent (check_told (is_checked story)).0 (check_told (is_checked story)).1 taken took sends
        (either (is_checked story)) once) (inl once) blames

    pub asm-told : (text : List ℕ) (l : LoadsFile most_text text_in_file before now command.story asked (Ok text))
        → Blames before.calls now.calls (let e : Result (List ℕ) Refusal = Ok text in e ≡ Err refusal.Shelf)
        → (ended.status ≡ status_bad_text → (1 ≤ ended.fault) × (ended.fault ≤ 4))
        → JobTells (outcome_of_code (assembled text)) taken took sends ended
        → IsJobDone Asm command (record d { sink = taken; shelf = before; sends = []; asked = [] })
        (record d { sink = took; shelf = now; sends = sends; asked = asked }) ended
    asm-told text l count number tell =
        told-done Asm command d before now taken took sends asked l.file (outcome_of_code (assembled text)) _
        (λ plays. plays) l.file_is (ap outcome_of_text l.gives) (text-loadable l.file text l.gives)
        (subst (LoadsFirst Asm command l.file) (sym l.asked_are) (refl, l.handed))
        (once-asked asked (load_file command.story most_text, l.answer) l.asked_are) count (λ e. absurd cc)
        (code-told (assembled text) taken took sends number tell) tell blames

    pub list-told : (story : FlatStory) (l : LoadsFile ceiling story_in_file before now command.story asked
        (Ok story)) → Blames before.calls now.calls (let e : Result FlatStory Refusal = Ok story in
        e ≡ Err refusal.Shelf) → (ended.status ≡ status_no_listing → (1 ≤ ended.fault) × (ended.fault ≤ 5))
        → JobTells (outcome_of_listing (listed_story story)) taken took sends ended
        → IsJobDone Listing command (record d { sink = taken; shelf = before; sends = []; asked = [] })
        (record d { sink = took; shelf = now; sends = sends; asked = asked }) ended
    list-told story l count number tell =
        told-done Listing command d before now taken took sends asked l.file (outcome_of_listing (listed_story story))
        _ (λ plays. plays) l.file_is (ap outcome_of_list l.gives) (loadable l.file story l.gives)
        (subst (LoadsFirst Listing command l.file) (sym l.asked_are) (refl, l.handed))
        (once-asked asked (load_file command.story ceiling, l.answer) l.asked_are) count (λ e. absurd cc)
        (listing-told (listed_story story) taken took sends number tell) tell blames

  -- THE WHOLE CALL
  module _ (words : List (List ℕ)) (entry : Devices) where
    -- the command line has a command, and its job was done
    pub played-done : (command : Command) (exit : Devices) → command_of words ≡ Some command
        → Chain SourceCall entry.source exit.reads exit.source → Chain SinkCall entry.sink exit.sends exit.sink
        → Chain ShelfCall entry.shelf exit.asked exit.shelf → IsJobDone command.job command entry exit ended
        → IsPlayed (command_of words) entry exit ended
    played-done command exit is read sent chain done =
        let headline : ComesOut (command_of words) entry exit ended =
        subst (λ (o : Option Command). ComesOut o entry exit ended) (sym is) (record {
          file = done.file;
          file_is = done.file_is;
          loads = inl done.loads;
          plays = done.plays;
          memory = λ e. inr (done.memory e);
        }) in
        record {
          headline = headline;
          source_calls = read;
          sink_calls = sent;
          shelf_calls = chain;
          complete = complete ended entry exit (command_of words) headline done.counts;
          bad_words = (λ e. absurd (done.began e), λ none. let absent = none.0 in absurd cc);
          unread = λ none. absurd cc;
          undrawn = undrawn ended entry exit (command_of words) headline;
          settled = settled (command_of words) entry;
          counts = done.counts;
          parts = subst (λ (o : Option Command). HasItsParts (IfSome o (λ (c : Command). PlaysStory c.job))
              (IfSome o (λ (c : Command). c.job ≡ Play)) ended) (sym is) done.parts;
          works = works;
          spelling = spelling;
          wrapping = wrapping_keeps;
          wrapped = wraps_runs;
        }

    -- no device was called
    no-calls : {S C : Type 0} (step : S → C → S → Type 0) (s : S) (trace : List C) → trace ≡ [] → Chain step s trace s
    no-calls step s trace none = subst (λ (t : List _). Chain step s t s) (sym none) refl

    none-called : (status : ℕ) → ended.status ≡ status → (status ≡ 1) ⊎ (status ≡ 11)
        → FailureCounts entry entry ended.status
    none-called status s which = record {
      shelf = blames-none entry.shelf.calls entry.shelf.calls (ended.status ≡ status_shelf_fault) refl
          (λ e. absurd (grind (arith, s, which, e)));
      source = blames-none entry.source.calls entry.source.calls (ended.status ≡ status_input_fault) refl
          (λ e. absurd (grind (arith, s, which, e)));
      sink = blames-none entry.sink.calls entry.sink.calls (ended.status ≡ status_output_fault) refl
          (λ e. absurd (grind (arith, s, which, e)));
    }

    entry-unrun : entry.asked ≡ [] → IsUnrun entry entry
    entry-unrun first = let size : length entry.asked ≡ 0 = ap (λ (t : Trace). length t) first in
        record { asked = omega (arith, size); source = refl; reads = refl; words = refl }

    -- it has none
    pub played-none : entry.reads ≡ [] → entry.sends ≡ [] → entry.asked ≡ [] → command_of words ≡ None
        → HasNoMachine ended status_bad_words 0 0 0 → IsPlayed (command_of words) entry entry ended
    played-none unread unsent first none absent =
        let s = absent.status_is in
        let headline : ComesOut (command_of words) entry entry ended =
        subst (λ (o : Option Command). ComesOut o entry entry ended) (sym none) (record {
          file = None;
          file_is = tt;
          loads = tt;
          plays = inl (entry-unrun first, (absent, refl, unsent));
          memory = λ e. absurd (omega (arith, s, e));
        }) in
        record {
          headline = headline;
          source_calls = no-calls SourceCall entry.source entry.reads unread;
          sink_calls = no-calls SinkCall entry.sink entry.sends unsent;
          shelf_calls = no-calls ShelfCall entry.shelf entry.asked first;
          complete = complete ended entry entry (command_of words) headline (none-called status_bad_words s (inl refl));
          bad_words = (λ _. (none, λ e. absurd (omega (arith, s, e))), λ _. s);
          unread = λ _. refl;
          undrawn = λ _. refl;
          settled = settled (command_of words) entry;
          counts = none-called status_bad_words s (inl refl);
          parts = parts-before (IfSome (command_of words) (λ (c : Command). PlaysStory c.job))
              (IfSome (command_of words) (λ (c : Command). c.job ≡ Play)) status_bad_words 0 absent (inl refl)
              (omega arith) (λ _. refl);
          works = works;
          spelling = spelling;
          wrapping = wrapping_keeps;
          wrapped = wraps_runs;
        }

    unread-comes : (o : Option Command) → entry.sends ≡ [] → entry.asked ≡ []
        → HasNoMachine ended status_no_memory 0 0 0 → ComesOut o entry entry ended
    unread-comes None unsent first absent = record {
      file = None;
      file_is = tt;
      loads = tt;
      plays = inr (inr (entry-unrun first, (absent, refl, unsent)));
      memory = λ _. inl refl;
    }
    unread-comes (Some command) unsent first absent = record {
      file = entry.shelf.files command.story;
      file_is = λ _. refl;
      loads = inr (absent.status_is, refl);
      plays = inr (inr (entry-unrun first, (absent, refl, unsent)));
      memory = λ _. inl refl;
    }

    -- memory ran out while the words were read
    pub played-unread : entry.reads ≡ [] → entry.sends ≡ [] → entry.asked ≡ []
        → HasNoMachine ended status_no_memory 0 0 0 → IsPlayed (command_of words) entry entry ended
    played-unread unread unsent first absent =
        let s = absent.status_is in
        record {
          headline = unread-comes (command_of words) unsent first absent;
          source_calls = no-calls SourceCall entry.source entry.reads unread;
          sink_calls = no-calls SinkCall entry.sink entry.sends unsent;
          shelf_calls = no-calls ShelfCall entry.shelf entry.asked first;
          complete = λ _ _ _. inr s;
          bad_words = (λ e. absurd (omega (arith, s, e)), λ p. absurd (p.1 s));
          unread = λ _. refl;
          undrawn = λ _. refl;
          settled = settled (command_of words) entry;
          counts = none-called status_no_memory s (inr refl);
          parts = parts-before (IfSome (command_of words) (λ (c : Command). PlaysStory c.job))
              (IfSome (command_of words) (λ (c : Command). c.job ≡ Play)) status_no_memory 0 absent
              (inr (inr (inr refl))) (omega arith) (λ _. refl);
          works = works;
          spelling = spelling;
          wrapping = wrapping_keeps;
          wrapped = wraps_runs;
        }
