-- What a whole run reports, and its ending.
use Rattle.std.proofs.Common.{◌≡◌, ◌≢◌, ℕ, ◌+◌, ◌-◌, ◌<◌, ◌≤◌, ◌==◌, if◌then◌else◌, inl, inr, List, [], ◌∷◌, ◌++◌}
use Rattle.std.proofs.Common.{map, Option, None, Result, Ok, Err, refl, ap, subst, sym, ◌∙◌, arith, append_assoc}
use Rattle.std.proofs.Common.{append-nil}
use Rattle.gx_words.specs.declared.faults.Fault.{Fault}
use Rattle.gx_words.specs.declared.faults.Fault.TheVariants.{NoMemory}
use Rattle.gx_words.specs.Faults.{number_of}
use Rattle.gx_machine.specs.declared.askings.Asking.{Asking}
use Rattle.gx_machine.specs.Machine.{FlatMachine, Whole}
use Rattle.std.specs.List.{concat}
use Rattle.gx_outside.specs.Chains.{Chain}
use Rattle.gx_outside.specs.Outside.{FlatSink, FlatShelf}
use Rattle.gx_outside.specs.Reads.{SourceRead}
use Rattle.gx_outside.specs.Sends.{Send, SinkCall}
use Rattle.gx_outside.specs.Shelves.{Request, store_file, Trace}
use Rattle.gx_outside.specs.declared.devices.ShelfFault.{ShelfFault}
use Rattle.gx_outside.specs.declared.devices.ShelfFault.TheVariants as of_shelf
use Rattle.glk_world.specs.World.{Scene}
use Rattle.gx_session.specs.declared.ends.Stop.{Stop}
use Rattle.gx_session.specs.declared.ends.Stop.TheVariants as stop
use Rattle.gx_session.specs.declared.ends.Halt.{Halt}
use Rattle.gx_session.specs.declared.ends.Halt.TheVariants as halt
use Rattle.gx_session.specs.Constants.{status_shelf_fault, status_input_fault, status_output_fault}
use Rattle.gx_session.specs.Counts.{FailureCounts}
use Rattle.gx_session.specs.Cuts.{by_shelf, cut_status, IsLineStop}
use Rattle.gx_session.specs.Devices.{Devices}
use Rattle.gx_session.specs.Endings.{stores_of, store_call, told_all}
use Rattle.gx_session.specs.Sending.{whole_send}
use Rattle.gx_session.specs.Configurations.{Configuration}
use Rattle.gx_session.specs.Session.{RunEnd, final_of, stop_status, fault_number, fault_address}
use Rattle.gx_session.specs.Runs.{Report, EndsAt, IsReport, IsSession}
use Rattle.gx_session.specs.Reads.{LeavesInput}
use Rattle.gx_session.specs.Holding.{SendStep, Handed, devices_of, HeldRun, configuration_of}
use Rattle.gx_session.specs.Finishing.{Told, Finished, EndingGives, RunGives, StoresAll}
use Rattle.gx_session.specs.Standing.{Early, halt_status}
use Rattle.gx_session.specs.Outcomes.{IsStop, halt_of_shelf, Keeps}
use Rattle.gx_session.proofs.Parts.{IsFront, AreDrawn, AwaitedAt, LongAt, read_failures}
use Rattle.gx_session.proofs.Calling.{chain-map}
use Rattle.gx_session.proofs.Counting.{blames-same}
use Rattle.gx_session.proofs.Playing.{cut-at, none-sent, input-left, words-left}
use Rattle.gx_session.proofs.Sinks.{took-whole, takes-front}

pub status-low : (why : Stop) → stop_status why < status_shelf_fault
status-low stop.Ended = omega arith
status-low stop.Exited = omega arith
status-low (stop.Faulted f) = omega arith
status-low stop.Spent = omega arith
status-low stop.InputEnded = omega arith
status-low stop.Stuck = omega arith
status-low stop.LineTooLong = omega arith

pub status-high : (why : Halt) → status_shelf_fault ≤ halt_status why
status-high halt.Shelf = omega arith
status-high halt.Input = omega arith
status-high halt.Output = omega arith
status-high halt.NoMemory = omega arith

-- THE STORES OF THE ENDING
module _ {K : Type 0} {sending : SendStep K} (start : Configuration) (entry : Handed sending) (h : HeldRun)
    (asking : Option Asking) (d : Handed sending) (why : Stop) (t : Told start entry h asking d why) where
  abbrev stopped : Configuration
  stopped = (final_of start).configuration

  abbrev told-now : Configuration
  told-now = configuration_of t.past t.phase h d

  -- the text is whole
  whole-text : stopped.world.text ≡ concat t.past.sent
  whole-text = ap (λ (m : Configuration). m.world.text) t.is_end
      ∙ ap (λ (x : List ℕ). concat t.past.sent ++ x) t.none_left ∙ append-nil (concat t.past.sent)

  whole-front : IsFront stopped.world.text (final_of start).configuration.world.text
  whole-front = ([], sym (append-nil stopped.world.text))

  scene-is : stopped.world.scene ≡ h.world.scene
  scene-is = ap (λ (m : Configuration). m.world.scene) t.is_end

  -- what was sent is all of it
  sent-front : IsFront (concat (told_all stopped).sent) stopped.world.text
  sent-front = subst (λ (m : Configuration). IsFront (concat m.sent) m.world.text) (sym t.is_end) (h.world.text, refl)

  sends-then : map whole_send t.past.sent ≡ map whole_send (told_all stopped).sent
  sends-then = ap (λ (m : Configuration). map whole_send m.sent) (sym t.is_end)

  words-are : AreDrawn stopped.words d.words
  words-are = subst (λ (m : Configuration). AreDrawn m.words d.words) (sym t.is_end)
      (words-left h.word d.words t.past.words t.is_past.word)

  input-are : LeavesInput start.input stopped.input h.coming entry.source d.source (IsLineStop (final_of start).stop)
      ((final_of start).stop ≡ stop.LineTooLong) 0
  input-are =
      subst (λ (m : Configuration). LeavesInput start.input m.input h.coming entry.source d.source
      (IsLineStop (final_of start).stop) ((final_of start).stop ≡ stop.LineTooLong) 0) (sym t.is_end)
      (input-left start entry h d (IsLineStop (final_of start).stop) ((final_of start).stop ≡ stop.LineTooLong)
      (λ short. t.few (λ e. short (t.stop_is ∙ e)))
      (λ other. t.reads (λ is. other (subst IsLineStop (sym t.stop_is) is))) t.is_past.reads t.is_past.left)

  -- where the run is cut short in its ending
  input-then : LeavesInput start.input stopped.input h.coming entry.source d.source (AwaitedAt start None)
      (LongAt start None) 0
  input-then =
      subst (λ (m : Configuration). LeavesInput start.input m.input h.coming entry.source d.source
      (AwaitedAt start None) (LongAt start None) 0) (sym t.is_end)
      (input-left start entry h d (AwaitedAt start None) (LongAt start None)
      (λ short. t.few (λ e. short (refl, t.stop_is ∙ e)))
      (λ other. t.reads (λ is. other (refl, subst IsLineStop (sym t.stop_is) is))) t.is_past.reads t.is_past.left)

  -- what the shelf was asked before
  asked-then : (told_all stopped).asked ≡ d.asked
  asked-then = ap (λ (m : Configuration). m.asked) t.is_end

  module _ (shelf : FlatShelf) (asked : Trace) where
    abbrev d-now : Handed sending
    d-now = record d { shelf = shelf; asked = d.asked ++ asked }

    shelf-status : (r : Request) (fault : ShelfFault)
        → halt_status (halt_of_shelf fault) ≡ cut_status (by_shelf r fault)
    shelf-status r of_shelf.Failed = refl
    shelf-status r of_shelf.NoMemory = refl

    no-failures : (fault : ShelfFault) → read_failures (halt_status (halt_of_shelf fault)) ≡ 0
    no-failures of_shelf.Failed = refl
    no-failures of_shelf.NoMemory = refl

    -- one of them was refused
    some-refused : (fault : ShelfFault) (front rest : List (List ℕ × List ℕ)) (next : List ℕ × List ℕ)
        → stores_of h.world.scene ≡ front ++ next ∷ rest
        → asked ≡ map store_call front ++ (store_file next.0 next.1, Err fault) ∷ []
        → Early start entry h asking d-now (halt_of_shelf fault)
    some-refused fault front rest next files asked-are =
        let m : Configuration = record (told_all stopped) { asked = stopped.asked ++ map store_call front } in
        let split : stores_of stopped.world.scene ≡ front ++ next ∷ rest = ap stores_of scene-is ∙ files in
        let call : Trace = (store_file next.0 next.1, Err fault) ∷ [] in
        cut-at start entry d-now h asking (halt_of_shelf fault) None (by_shelf (store_file next.0 next.1) fault) m
        (map whole_send t.past.sent)
        ((front, next, rest, split, refl, refl), t.asking_is) (shelf-status (store_file next.0 next.1) fault)
        (sym (ap (λ (m : Configuration). m.machine) t.is_end)) (sym (ap (λ (m : Configuration). m.left) t.is_end))
        (sym (ap (λ (m : Configuration). m.log) t.is_end))
        sent-front (sends-then ∙ none-sent (told_all stopped).sent) t.is_past.taken whole-front
        (ap (λ (x : Trace). d.asked ++ x) asked-are ∙ sym (append_assoc d.asked (map store_call front) call)
        ∙ ap (λ (x : Trace). (x ++ map store_call front) ++ call) (sym asked-then))
        (λ other.
        subst (LeavesInput start.input m.input h.coming entry.source d.source (AwaitedAt start None)
        (LongAt start None)) (sym (no-failures fault)) input-then) words-are t.sound

    pub closes : (r : Result (Unit {0}) Halt) → StoresAll (stores_of h.world.scene) asked r
        → EndingGives start entry h asking d-now why r
    closes (Ok u) s = record {
      shelf = d.shelf;
      before = d.asked;
      told = t;
      asked_are = ap (λ (x : Trace). d.asked ++ x) s;
    }
    closes (Err halted) s = subst (Early start entry h asking d-now) (sym s.why_is)
        (some-refused s.fault s.front s.rest s.next s.split s.calls_are)

numbered : (f : Fault) → f ≢ NoMemory → (1 ≤ number_of f) × (number_of f ≤ 16)
numbered NoMemory other = absurd (other refl)
numbered f other = (omega arith, omega arith)

-- the statuses of an end, and of a run that was cut short
pub report-of-stop : (why : Stop) (machine : FlatMachine) → IsStop why
    → IsReport (stop_status why) (fault_number why) (fault_address why machine)
report-of-stop stop.Ended machine is = record {
  status_is = inl refl;
  fault_is = λ e. absurd (omega arith);
  no_fault = λ _. (refl, refl);
}
report-of-stop stop.Exited machine is = record {
  status_is = inl refl;
  fault_is = λ e. absurd (omega arith);
  no_fault = λ _. (refl, refl);
}
report-of-stop (stop.Faulted f) machine is =
    record {
      status_is = inr (omega arith, omega arith);
      fault_is = λ _. numbered f is;
      no_fault = λ other. absurd (other refl);
    }
report-of-stop stop.Spent machine is = record {
  status_is = inr (omega arith, omega arith);
  fault_is = λ e. absurd (omega arith);
  no_fault = λ _. (refl, refl);
}
report-of-stop stop.InputEnded machine is =
    record {
      status_is = inr (omega arith, omega arith);
      fault_is = λ e. absurd (omega arith);
      no_fault = λ _. (refl, refl);
    }
report-of-stop stop.Stuck machine is = record {
  status_is = inr (omega arith, omega arith);
  fault_is = λ e. absurd (omega arith);
  no_fault = λ _. (refl, refl);
}
report-of-stop stop.LineTooLong machine is =
    record {
      status_is = inr (omega arith, omega arith);
      fault_is = λ e. absurd (omega arith);
      no_fault = λ _. (refl, refl);
    }

pub report-of-halt : (why : Halt) → IsReport (halt_status why) 0 0
report-of-halt halt.Shelf = record {
  status_is = inr (omega arith, omega arith);
  fault_is = λ e. absurd (omega arith);
  no_fault = λ _. (refl, refl);
}
report-of-halt halt.Input = record {
  status_is = inr (omega arith, omega arith);
  fault_is = λ e. absurd (omega arith);
  no_fault = λ _. (refl, refl);
}
report-of-halt halt.Output = record {
  status_is = inr (omega arith, omega arith);
  fault_is = λ e. absurd (omega arith);
  no_fault = λ _. (refl, refl);
}
report-of-halt halt.NoMemory = record {
  status_is = inr (omega arith, omega arith);
  fault_is = λ e. absurd (omega arith);
  no_fault = λ _. (refl, refl);
}

-- the counts of a run that came to its end, and of one that was cut short
pub counts-of-stop : (entry exit : Devices) (why : Stop) → (let r : Result Stop Halt = Ok why in Keeps entry exit r)
    → FailureCounts entry exit (stop_status why)
counts-of-stop entry exit why k =
    let low : stop_status why < status_shelf_fault = status-low why in
    let r : Result Stop Halt = Ok why in
    record {
      shelf = blames-same entry.shelf.calls exit.shelf.calls (r ≡ Err halt.Shelf)
          (stop_status why ≡ status_shelf_fault) k.shelf (λ e. absurd cc) (λ e. absurd (omega arith));
      source = blames-same entry.source.calls exit.source.calls (r ≡ Err halt.Input)
          (stop_status why ≡ status_input_fault) k.source (λ e. absurd cc) (λ e. absurd (omega arith));
      sink = blames-same entry.sink.calls exit.sink.calls (r ≡ Err halt.Output)
          (stop_status why ≡ status_output_fault) k.sink (λ e. absurd cc) (λ e. absurd (omega arith));
    }

abbrev halt-of : ℕ → Halt
halt-of n = if n == status_shelf_fault then halt.Shelf else if n == status_input_fault then halt.Input
    else if n == status_output_fault then halt.Output else halt.NoMemory

pub counts-of-halt : (entry exit : Devices) (why : Halt) → (let r : Result Stop Halt = Err why in Keeps entry exit r)
    → FailureCounts entry exit (halt_status why)
counts-of-halt entry exit why k =
    let r : Result Stop Halt = Err why in
    record {
      shelf = blames-same entry.shelf.calls exit.shelf.calls (r ≡ Err halt.Shelf)
          (halt_status why ≡ status_shelf_fault) k.shelf (λ e. status-to why halt.Shelf e)
          (λ e. status-from why halt.Shelf e);
      source = blames-same entry.source.calls exit.source.calls (r ≡ Err halt.Input)
          (halt_status why ≡ status_input_fault) k.source (λ e. status-to why halt.Input e)
          (λ e. status-from why halt.Input e);
      sink = blames-same entry.sink.calls exit.sink.calls (r ≡ Err halt.Output)
          (halt_status why ≡ status_output_fault) k.sink (λ e. status-to why halt.Output e)
          (λ e. status-from why halt.Output e);
    }
  where
    status-to : (why one : Halt) → (let r : Result Stop Halt = Err why in r ≡ Err one)
        → halt_status why ≡ halt_status one
    status-to why one e = let same : why ≡ one = cc in ap halt_status same

    back : (why : Halt) → halt-of (halt_status why) ≡ why
    back halt.Shelf = refl
    back halt.Input = refl
    back halt.Output = refl
    back halt.NoMemory = refl

    status-from : (why one : Halt) → halt_status why ≡ halt_status one
        → (let r : Result Stop Halt = Err why in r ≡ Err one)
    status-from why one e = ap (λ (x : Halt). let r : Result Stop Halt = Err x in r)
        (sym (back why) ∙ ap halt-of e ∙ back one)

-- a run that came to its end, with all text sent and all files stored
pub ended-at : {K : Type 0} {sending : SendStep K} → (start : Configuration) (entry : Handed sending) (h : HeldRun)
    (asking : Option Asking) (d : Handed sending) (why : Stop) → h.left ≤ start.left
    → (f : Finished start entry h asking d why)
    → (before now : FlatSink) (reads : List SourceRead) → Chain SinkCall before (map whole_send f.told.past.sent) now
    → EndsAt start (final_of start) (devices_of entry before [] [])
    (devices_of d now reads (map whole_send f.told.past.sent)) h.coming (record {
      status = stop_status why;
      fault = fault_number why;
      at = fault_address why h.machine;
      steps = start.left - h.left;
      machine = record { machine = h.machine; asking = asking };
      log = h.log;
    })
ended-at {sending = sending} start entry h asking d why fewer f before now reads chain =
    let t = f.told in
    let d0 : Handed sending = record d { shelf = f.shelf; asked = f.before } in
    let e : RunEnd = final_of start in
    let units : start.left - h.left + h.left ≡ start.left = omega arith in
    let left : e.configuration.left ≡ h.left = ap (λ (m : Configuration). m.left) t.is_end in
    let machine : h.machine ≡ e.configuration.machine = sym (ap (λ (m : Configuration). m.machine) t.is_end) in
    let scene : e.configuration.world.scene ≡ h.world.scene = scene-is start entry h asking d0 why t in
    let asked-is : e.configuration.asked ≡ f.before = ap (λ (m : Configuration). m.asked) t.is_end in
    record {
      status_is = ap stop_status (sym t.stop_is);
      fault_is = ap fault_number (sym t.stop_is);
      at_is = ap (λ (x : FlatMachine). fault_address why x) machine
          ∙ ap (λ (x : Stop). fault_address x e.configuration.machine) (sym t.stop_is);
      steps_are = omega arith;
      machine_is =
          ap (λ (x : FlatMachine). let w : Whole = record { machine = x; asking = asking } in w) machine
          ∙ ap (λ (x : Option Asking). let w : Whole = record { machine = e.configuration.machine; asking = x } in w)
          t.asking_is;
      log_is = sym (ap (λ (m : Configuration). m.log) t.is_end);
      text_is = λ told. (took-whole before now t.past.sent chain).all told
          ∙ ap (λ (x : List ℕ). before.taken ++ x) (sym (whole-text start entry h asking d0 why t));
      sends_are = sends-then start entry h asking d0 why t;
      asked_are =
          f.asked_are ∙ ap (λ (x : Trace). x ++ map store_call (stores_of h.world.scene)) (sym asked-is)
          ∙ ap (λ (x : Scene). e.configuration.asked ++ map store_call (stores_of x)) (sym scene);
      input_is = input-are start entry h asking d0 why t;
      words_are = words-are start entry h asking d0 why t;
      moves_are_sound = t.sound;
    }

-- A whole run is the session, over these calls of the sink.
module _ {K : Type 0} {sending : SendStep K} (seen : K → FlatSink)
    (law : (x : K) (c : Send) (y : K) → sending x c y → SinkCall (seen x) c (seen y)) (reads : List SourceRead)
    (start : Configuration) (entry : Handed sending) (h : HeldRun) (asking : Option Asking) (d : Handed sending)
    (fewer : h.left ≤ start.left) where
  abbrev report-at : ℕ → ℕ → ℕ → Report
  report-at status fault at = record {
    status = status;
    fault = fault;
    at = at;
    steps = start.left - h.left;
    machine = record { machine = h.machine; asking = asking };
    log = h.log;
  }

  abbrev IsSessionOver : List Send → Report → Type 0
  IsSessionOver sends r = IsSession start (devices_of entry (seen entry.sink) [] [])
      (devices_of d (seen d.sink) reads sends) h.coming r

  seen-so : (sends : List Send) → Chain sending entry.sink sends d.sink
      → Chain SinkCall (seen entry.sink) sends (seen d.sink)
  seen-so sends chain = chain-map seen sending SinkCall law entry.sink d.sink sends chain

  pub session-of-stop : (why : Stop) → RunGives start entry h asking d (Ok why)
      → (sends : List Send) × Chain sending entry.sink sends d.sink
      × IsSessionOver sends (report-at (stop_status why) (fault_number why) (fault_address why h.machine))
  session-of-stop why f =
      let low : stop_status why < status_shelf_fault = status-low why in
      let sends : List Send = map whole_send f.told.past.sent in
      let chain : Chain sending entry.sink sends d.sink = f.told.is_past.taken in (
        sends,
        chain,
        record {
          ended = λ _. ended-at start entry h asking d why fewer f (seen entry.sink) (seen d.sink) reads
              (seen-so sends chain);
          early = λ high. absurd (omega arith);
        },
      )

  pub session-of-halt : (why : Halt) → RunGives start entry h asking d (Err why)
      → (sends : List Send) × Chain sending entry.sink sends d.sink
      × IsSessionOver sends (report-at (halt_status why) 0 0)
  session-of-halt why early =
      let high : status_shelf_fault ≤ halt_status why = status-high why in
      let e = early.stops fewer (seen entry.sink) (seen d.sink) reads in
      let front = takes-front (seen entry.sink) (seen d.sink) e.configuration e.sent_of e.cut early.sends e.sends_are
      (seen-so early.sends early.chain) in (
        early.sends,
        early.chain,
        record { ended = λ low. absurd (omega arith); early = λ _. (e, front) },
      )
