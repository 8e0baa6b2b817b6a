-- Each machine of the record of a run is a place of the run.
use Rattle.std.proofs.Common.{◌≡◌, ◌≢◌, ℕ, zero, suc, ◌+◌, ◌-◌, ◌<◌, ◌≤◌, ◌⊎◌, inl, inr, nat_lt, if◌then◌else◌, Bool}
use Rattle.std.proofs.Common.{true, false, List, [], ◌∷◌, ◌++◌, Option, Some, None, option_and_then, Result, Ok, Err}
use Rattle.std.proofs.Common.{refl, ap, subst, sym, ◌∙◌, arith, append_assoc}
use Rattle.std.proofs.lemmas.Bool.{ltb-false, cases_lt}
use Rattle.gx_words.specs.declared.faults.Fault.{Fault}
use Rattle.gx_state.specs.declared.effects.Effect.{Effect}
use Rattle.gx_state.specs.declared.effects.Effect.TheVariants as effect
use Rattle.gx_state.specs.declared.effects.Reply.{Reply}
use Rattle.gx_state.specs.Copies.{Copy}
use Rattle.gx_machine.specs.Machine.{FlatMachine}
use Rattle.gx_machine.specs.Step.{cost_of, step_of}
use Rattle.gx_machine.specs.Log.{Log, no_events, logged, units_of}
use Rattle.glk_world.specs.World.{Said}
use Rattle.glk_replies.specs.declared.Turn.{Turn}
use Rattle.glk_dispatch.specs.Calls.{glk_call}
use Rattle.glk_dispatch.specs.Going.{glk_go_on}
use Rattle.glk_text_calls.specs.Output.{putting}
use Rattle.glk_replies.specs.Parts.{replies}
use Rattle.gx_session.specs.declared.ends.Stop.{Stop}
use Rattle.gx_session.specs.declared.ends.Stop.TheVariants as stop
use Rattle.gx_session.specs.declared.running.GlkWait.{GlkWait}
use Rattle.gx_session.specs.Constants.{failed}
use Rattle.gx_session.specs.Input.{next_line}
use Rattle.gx_session.specs.Saving.{saving, restoring}
use Rattle.gx_session.specs.Configurations.{Configuration, Phase, steps, asks, goes_on, Verdict, moves_to, stops}
use Rattle.gx_session.specs.Moves.{after_reply, after_restoring, after_turn, after_effect}
use Rattle.gx_session.specs.Moves.{act_by, sends_now, all_sent, move_of}
use Rattle.gx_session.specs.Standing.{act_of}
use Rattle.gx_session.proofs.Parts.{step_from, moves_left}
use Rattle.gx_session.specs.Session.{next_configuration, run_of, stop_of, final_of}
use Rattle.gx_session.specs.Recording.{BeginsEvent, IsRecord, IsLastRecord, RecordsRun}
use Rattle.gx_session.proofs.Cases.{turn-cases, given-cases, line-cases, asking-cases}
use Rattle.gx_session.proofs.Finals.{goes-nearer, reached-goes, stop-comes, stop-stays}
use Rattle.gx_session.proofs.Rooms.{units-more, units-none}
use Rattle.gx_session.proofs.Sound.{some-is}
use Rattle.gx_session.proofs.Undoing.{next-goes}
use Rattle.rand_core.specs.Stream.{next_u32}

-- ---- one move

-- a call that waits leaves the units but for the cost of its step
abbrev LeavesUnits : Phase → Configuration → Type 0
LeavesUnits steps m = Unit {0}
LeavesUnits (asks t w) m = w.left + cost_of m.machine ≡ m.left
LeavesUnits (goes_on g w) m = w.left + cost_of m.machine ≡ m.left

-- a move in the course of an event, or between two
record Stands (m m' : Configuration) : Type 0 where
  machine : m'.machine ≡ m.machine
  log : m'.log ≡ m.log
  left : m'.left ≡ m.left
  leaves : LeavesUnits m'.phase m'

-- one that ends an event
record Ends (m m' : Configuration) : Type 0 where
  phase : m'.phase ≡ steps
  log : m'.log ≡ logged m.log m.machine
  units : m'.left + cost_of m.machine ≡ m.left

-- one that stops the run in an event that isn't recorded
record Halts (s : Stop) (m m' : Configuration) : Type 0 where
  log : m'.log ≡ m.log
  left : s ≢ stop.Exited → s ≢ stop.Spent → m'.left ≡ m.left

-- one that ends the program, and with it the event
record Quits (m m' : Configuration) : Type 0 where
  log : m'.log ≡ logged m.log m.machine
  units : m'.left + cost_of m.machine ≡ m.left

abbrev Moves : Configuration → Verdict → Type 0
Moves m (moves_to m') = Stands m m' ⊎ Ends m m'
Moves m (stops s m') = Halts s m m' ⊎ Quits m m'

halted : (s : Stop) (m : Configuration) → Halts s m m
halted s m = record { log = refl; left = λ a b. refl }

replied-moves : (m : Configuration) (left : ℕ) (r : Result (Said × Reply) Fault) → left + cost_of m.machine ≡ m.left
    → Moves m (after_reply m left r)
replied-moves m left (Ok r) units = inr (record { phase = refl; log = refl; units = units })
replied-moves m left (Err f) units = inl (halted (stop.Faulted f) m)

restored-moves : (m : Configuration) (left : ℕ) (r : Result (Said × Option Copy) Fault)
    → left + cost_of m.machine ≡ m.left → Moves m (after_restoring m left r)
restored-moves m left (Ok (said, Some copy)) units = inr (record { phase = refl; log = refl; units = units })
restored-moves m left (Ok (said, None)) units = replied-moves m left (Ok (said, replies failed)) units
restored-moves m left (Err f) units = inl (halted (stop.Faulted f) m)

turned-moves : (m : Configuration) (w : GlkWait) (r : Result (Said × Turn) Fault)
    → w.left + cost_of m.machine ≡ m.left → Moves m (after_turn m w r)
turned-moves m w r units =
    turn-cases (Moves m) m w r (λ said reply. replied-moves m w.left (Ok (said, reply)) units)
    (λ said t. inl (record { machine = refl; log = refl; left = refl; leaves = units }))
    (λ said t. inl (record { machine = refl; log = refl; left = refl; leaves = units }))
    (λ said. inl (record { log = refl; left = λ a b. refl }))
    (λ said. inl (record { log = refl; left = λ a b. absurd (a refl) })) (λ f. inl (halted (stop.Faulted f) m))

effected-moves : (m : Configuration) (left : ℕ) (machine : FlatMachine) (does : Effect) → m.phase ≡ steps
    → left + cost_of m.machine ≡ m.left → Moves m (after_effect m left (Ok (machine, does)))
effected-moves m left machine effect.Went is units = inr (record { phase = is; log = refl; units = units })
effected-moves m left machine effect.Drew is units = inr (record { phase = is; log = refl; units = units })
effected-moves m left machine (effect.Put c) is units =
    replied-moves m left (putting m.world.scene m.machine.flat c) units
effected-moves m left machine (effect.Glk selector args room) is units =
    turned-moves m (record { room = room; left = left })
    (glk_call m.world.scene m.machine.flat room selector args.items) units
effected-moves m left machine (effect.Save stream) is units =
    replied-moves m left (saving m.world.scene m.machine.flat stream) units
effected-moves m left machine (effect.Restore stream) is units =
    restored-moves m left (restoring m.world.scene m.machine.flat stream) units
effected-moves m left machine effect.Quit is units = inr (record { log = refl; units = units })
effected-moves m left machine effect.Spent is units = inl (record { log = refl; left = λ a b. absurd (b refl) })

stepped-moves : (m : Configuration) (left : ℕ) (r : Result (FlatMachine × Effect) Fault) → m.phase ≡ steps
    → left + cost_of m.machine ≡ m.left → Moves m (after_effect m left r)
stepped-moves m left (Ok r) is units = effected-moves m left r.0 r.1 is units
stepped-moves m left (Err f) is units = inl (halted (stop.Faulted f) m)

tested-moves : (m : Configuration) (r : Result (FlatMachine × Effect) Fault) (b : Bool) → m.phase ≡ steps
    → nat_lt m.left (cost_of m.machine) ≡ b
    → Moves m (if b then stops stop.Spent m else after_effect m (m.left - cost_of m.machine) r)
tested-moves m r true is less = inl (halted stop.Spent m)
tested-moves m r false is less =
    let enough : cost_of m.machine ≤ m.left = ltb-false m.left (cost_of m.machine) less in
    stepped-moves m (m.left - cost_of m.machine) r is (omega arith)

step-moves : (m : Configuration) → m.phase ≡ steps → Moves m (step_from m)
step-moves m is = tested-moves m (step_of m.machine (next_u32 m.words).0) (nat_lt m.left (cost_of m.machine)) is refl

act-moves : (phase : Phase) (m : Configuration) → m.phase ≡ phase → LeavesUnits phase m → Moves m (act_by phase m)
act-moves steps m is leaves = step-moves m is
act-moves (asks t w) m is leaves =
    asking-cases (Moves m) m w t
    (line-cases (Moves m) m w (next_line m.input) (inl (halted stop.LineTooLong m)) (inl (halted stop.InputEnded m))
    (λ chars rest. inl (record { machine = refl; log = refl; left = refl; leaves = leaves })))
    (λ r. inl (record { machine = refl; log = refl; left = refl; leaves = leaves })) (inl (halted stop.Stuck m))
act-moves (goes_on g w) m is leaves =
    given-cases (Moves m) m w (glk_go_on m.world.scene m.machine.flat w.room g)
    (λ said reply. replied-moves m w.left (Ok (said, reply)) leaves) (inl (halted stop.Stuck m))
    (λ f. inl (halted (stop.Faulted f) m))

move-by : (m : Configuration) (b : Bool) → LeavesUnits m.phase m
    → Moves m (if b then moves_to (all_sent m) else act_of m)
move-by m true leaves = inl (record { machine = refl; log = refl; left = refl; leaves = sent-leaves m.phase leaves })
  where
    sent-leaves : (d : Phase) → LeavesUnits d m → LeavesUnits d (all_sent m)
    sent-leaves steps leaves = tt
    sent-leaves (asks t w) leaves = leaves
    sent-leaves (goes_on g w) leaves = leaves
move-by m false leaves = act-moves m.phase m refl leaves

move-moves : (m : Configuration) → LeavesUnits m.phase m → Moves m (move_of m)
unfolding move_of
move-moves m leaves = move-by m (sends_now m) leaves

-- ---- the moves of a run

-- the event of a configuration began with its machine and its record
record Began (start : Configuration) (j : ℕ) (m : Configuration) : Type 0 where
  moves : ℕ
  by_now : moves ≤ j
  configuration : Configuration
  reached : run_of start moves ≡ Some configuration
  begins : configuration.phase ≡ steps
  machine : configuration.machine ≡ m.machine
  log : configuration.log ≡ m.log
  left : configuration.left ≡ m.left

record Recorded (start : Configuration) (j : ℕ) (m : Configuration) : Type 0 where
  is : IsRecord start j m
  began : Began start j m
  leaves : LeavesUnits m.phase m

-- so it is after more moves
place-on : (start : Configuration) (j : ℕ) (machine : FlatMachine) (before : List FlatMachine)
    → BeginsEvent start j machine before → BeginsEvent start (suc j) machine before
place-on start j machine before p = record {
  moves = p.moves;
  earlier = let less : p.moves < j = p.earlier in omega arith;
  configuration = p.configuration;
  reached = p.reached;
  begins = p.begins;
  machine_is = p.machine_is;
  log_is = p.log_is;
  units = p.units;
}

-- one of the moves so far, or the last
last-or-before : (i j : ℕ) → i ≤ suc j → (i ≤ j) ⊎ (i ≡ suc j)
last-or-before i j less = elim (cases_lt j i) [ inl more ↦ inr (omega arith) | inr few ↦ inl few ]

-- the record of a configuration is this one, but for the newest machines of it
abbrev IsEarlierRecord : Configuration → Log → Type 0
IsEarlierRecord c log = (own : Log) × (c.log ≡ Some own) × (newer : List FlatMachine)
    × (log.before ≡ newer ++ own.before)

whole-end : (c : Configuration) (log : Log) → c.log ≡ Some log → IsEarlierRecord c log
whole-end c log is = (log, is, [], refl)

-- the machine of an event that ends here is a place
began-place : (start : Configuration) (j : ℕ) (m : Configuration) (log : Log) → m.log ≡ Some log → log.after ≡ []
    → units_of log.before + m.left ≡ start.left → Began start j m → BeginsEvent start (suc j) m.machine log.before
began-place start j m log is none units b = record {
  moves = b.moves;
  earlier = let less : b.moves ≤ j = b.by_now in omega arith;
  configuration = b.configuration;
  reached = b.reached;
  begins = b.begins;
  machine_is = b.machine;
  log_is = b.log ∙ is ∙ ap (λ (ms : List FlatMachine).
      Some (let l : Log = record { before = log.before; after = ms } in l)) none;
  units = ap (λ (n : ℕ). units_of log.before + n) b.left ∙ units;
}

module _ (start m : Configuration) (j : ℕ) (r : Recorded start j m) where
  abbrev here : Log
  here = r.is.log

  -- the record once an event has ended
  abbrev longer : Log
  longer = record { before = m.machine ∷ here.before; after = [] }

  longer-is : (log : Option Log) → log ≡ logged m.log m.machine → log ≡ Some longer
  longer-is log is = is ∙ ap (λ (l : Option Log). logged l m.machine) r.is.log_is

  longer-units : (left : ℕ) → left + cost_of m.machine ≡ m.left → units_of longer.before + left ≡ start.left
  longer-units left cost =
      let used : units_of here.before + m.left ≡ start.left = r.is.units in
      let all = units-more m.machine here.before in
      omega arith

  places-here : (newer : List FlatMachine) (machine : FlatMachine) (before : List FlatMachine)
      → here.before ≡ newer ++ machine ∷ before → BeginsEvent start (suc j) machine before
  places-here newer machine before e = place-on start j machine before (r.is.places newer machine before e)

  places-longer : (newer : List FlatMachine) (machine : FlatMachine) (before : List FlatMachine)
      → m.machine ∷ here.before ≡ newer ++ machine ∷ before → BeginsEvent start (suc j) machine before
  places-longer [] machine before e =
      let same : m.machine ≡ machine = cc in
      let rest : here.before ≡ before = cc in
      subst (λ (x : FlatMachine). BeginsEvent start (suc j) x before) same
      (subst (λ (x : List FlatMachine). BeginsEvent start (suc j) m.machine x) rest
      (began-place start j m here r.is.log_is r.is.none_after r.is.units r.began))
  places-longer (x ∷ newer) machine before e =
      let rest : here.before ≡ newer ++ machine ∷ before = cc in
      places-here newer machine before rest

  -- the record of an earlier configuration is an end of a longer one
  ends-before : (log : Log) (newer : List FlatMachine) → log.before ≡ newer ++ here.before
      → (i : ℕ) (c : Configuration) → i ≤ j → run_of start i ≡ Some c → IsEarlierRecord c log
  ends-before log newer more i c few at =
      let e = r.is.ends i c few at in (
        e.0,
        e.1,
        newer ++ e.2,
        more ∙ ap (λ (ms : List FlatMachine). newer ++ ms) e.3
            ∙ sym (append_assoc newer e.2 e.0.before),
      )

  -- the run goes on
  module _ (m' : Configuration) (reached : run_of start (suc j) ≡ Some m') where
    ends-on : (log : Log) (newer : List FlatMachine) → log.before ≡ newer ++ here.before → m'.log ≡ Some log
        → (i : ℕ) (c : Configuration) → (i ≤ j) ⊎ (i ≡ suc j) → run_of start i ≡ Some c → IsEarlierRecord c log
    ends-on log newer more is i c (inl few) at = ends-before log newer more i c few at
    ends-on log newer more is i c (inr last) at =
        let same : c ≡ m' = some-is c m' (sym at ∙ ap (run_of start) last ∙ reached) in
        whole-end c log (ap (λ (x : Configuration). x.log) same ∙ is)

    moves-on : Stands m m' ⊎ Ends m m' → Recorded start (suc j) m'
    moves-on (inl s) = record {
      is = record {
        log = here;
        log_is = s.log ∙ r.is.log_is;
        none_after = r.is.none_after;
        units = ap (λ (n : ℕ). units_of here.before + n) s.left ∙ r.is.units;
        places = places-here;
        ends = λ i c few at. ends-on here [] refl (s.log ∙ r.is.log_is) i c (last-or-before i j few) at;
      };
      began = record {
        moves = r.began.moves;
        by_now = let less : r.began.moves ≤ j = r.began.by_now in omega arith;
        configuration = r.began.configuration;
        reached = r.began.reached;
        begins = r.began.begins;
        machine = r.began.machine ∙ sym s.machine;
        log = r.began.log ∙ sym s.log;
        left = r.began.left ∙ sym s.left;
      };
      leaves = s.leaves;
    }
    moves-on (inr s) = record {
      is = record {
        log = longer;
        log_is = longer-is m'.log s.log;
        none_after = refl;
        units = longer-units m'.left s.units;
        places = places-longer;
        ends = λ i c few at. ends-on longer (m.machine ∷ []) refl (longer-is m'.log s.log) i c
            (last-or-before i j few) at;
      };
      began = record {
        moves = suc j;
        by_now = omega arith;
        configuration = m';
        reached = reached;
        begins = s.phase;
        machine = refl;
        log = refl;
        left = refl;
      };
      leaves = subst (λ (d : Phase). LeavesUnits d m') (sym s.phase) tt;
    }

  -- the run stops
  module _ (s : Stop) (m' : Configuration) (none-on : run_of start (suc j) ≡ None) where
    ends-last : (log : Log) (newer : List FlatMachine) → log.before ≡ newer ++ here.before
        → (i : ℕ) (c : Configuration) → (i ≤ j) ⊎ (i ≡ suc j) → run_of start i ≡ Some c → IsEarlierRecord c log
    ends-last log newer more i c (inl few) at = ends-before log newer more i c few at
    ends-last log newer more i c (inr last) at = let none : None ≡ Some c = sym none-on ∙ ap (run_of start) (sym last)
        ∙ at in absurd cc

    stops-so : Halts s m m' ⊎ Quits m m' → IsLastRecord start (record { stop = s; configuration = m' })
    stops-so (inl h) = record {
      moves = suc j;
      left = m.left;
      left_is = λ a b. sym (h.left a b);
      is = record {
        log = here;
        log_is = h.log ∙ r.is.log_is;
        none_after = r.is.none_after;
        units = r.is.units;
        places = places-here;
        ends = λ i c few at. ends-last here [] refl i c (last-or-before i j few) at;
      };
    }
    stops-so (inr q) = record {
      moves = suc j;
      left = m'.left;
      left_is = λ a b. refl;
      is = record {
        log = longer;
        log_is = longer-is m'.log q.log;
        none_after = refl;
        units = longer-units m'.left q.units;
        places = places-longer;
        ends = λ i c few at. ends-last longer (m.machine ∷ []) refl i c (last-or-before i j few) at;
      };
    }

-- the first configuration
module _ (start : Configuration) (begins : start.phase ≡ steps) (none : start.log ≡ Some no_events) where
  none-before : (newer : List FlatMachine) (machine : FlatMachine) (before : List FlatMachine)
      → [] ≡ newer ++ machine ∷ before → ⊥
  none-before [] machine before e = cc
  none-before (x ∷ newer) machine before e = cc

  first-end : (i : ℕ) (c : Configuration) → i ≤ 0 → run_of start i ≡ Some c → IsEarlierRecord c no_events
  first-end zero c few at = whole-end c no_events (ap (λ (x : Configuration). x.log) (sym (some-is start c at)) ∙ none)
  first-end (suc i) c few at = absurd (omega arith)

  first-recorded : Recorded start 0 start
  first-recorded = record {
    is = record {
      log = no_events;
      log_is = none;
      none_after = refl;
      units = omega (arith, units-none);
      places = λ newer machine before e. absurd (none-before newer machine before e);
      ends = first-end;
    };
    began = record {
      moves = 0;
      by_now = omega arith;
      configuration = start;
      reached = refl;
      begins = begins;
      machine = refl;
      log = refl;
      left = refl;
    };
    leaves = subst (λ (d : Phase). LeavesUnits d start) (sym begins) tt;
  }

  recorded-next : (j : ℕ) (m' : Configuration) (o : Option Configuration) → run_of start j ≡ o
      → ((m : Configuration) → run_of start j ≡ Some m → Recorded start j m)
      → option_and_then (λ m. next_configuration (move_of m)) o ≡ Some m' → run_of start (suc j) ≡ Some m'
      → Recorded start (suc j) m'
  recorded-next j m' None at before e reached = cc
  recorded-next j m' (Some m) at before e reached =
      let r : Recorded start j m = before m at in
      moves-on start m j r m' reached (subst (Moves m) (next-goes (move_of m) m' e) (move-moves m r.leaves))

  recorded : (j : ℕ) (m : Configuration) → run_of start j ≡ Some m → Recorded start j m
  recorded zero m at = subst (λ (x : Configuration). Recorded start 0 x) (some-is start m at) first-recorded
  recorded (suc j) m at = recorded-next j m (run_of start j) refl (recorded j) at at

  -- the stop of a run that has come this far
  stopped-by : (m : Configuration) (j : ℕ) → run_of start j ≡ Some m → Recorded start j m → stop_of m ≡ stop_of start
      → ((m' : Configuration) → move_of m ≡ moves_to m' → IsLastRecord start (stop_of start))
      → (v : Verdict) → move_of m ≡ v → IsLastRecord start (stop_of start)
  stopped-by m j at r same on (moves_to m') e = on m' e
  stopped-by m j at r same on (stops s m') e =
      let none-on : run_of start (suc j) ≡ None =
      ap (λ (o : Option Configuration). option_and_then (λ x. next_configuration (move_of x)) o) at
      ∙ ap next_configuration e in
      subst (IsLastRecord start) (sym (stop-comes m m' s e) ∙ same)
      (stops-so start m j r s m' none-on (subst (Moves m) e (move-moves m r.leaves)))

  stopped : (n : ℕ) (m : Configuration) (j : ℕ) → moves_left m < n → run_of start j ≡ Some m → Recorded start j m
      → stop_of m ≡ stop_of start → IsLastRecord start (stop_of start)
  stopped zero m j less at r same = absurd (omega arith)
  stopped (suc n) m j less at r same =
      stopped-by m j at r same
      (λ m' e.
      let near : moves_left m' < moves_left m = goes-nearer m m' e in
      let reached : run_of start (suc j) ≡ Some m' = reached-goes start m m' j at e in
      stopped n m' (suc j) (omega arith) reached
      (moves-on start m j r m' reached (subst (Moves m) e (move-moves m r.leaves))) (stop-stays m m' e ∙ same))
      (move_of m) refl

-- the last screen is no matter of the record
shown-last : (start : Configuration) → IsLastRecord start (stop_of start) → IsLastRecord start (final_of start)
unfolding final_of
shown-last start l = record {
  moves = l.moves;
  left = l.left;
  left_is = l.left_is;
  is = record {
    log = l.is.log;
    log_is = l.is.log_is;
    none_after = l.is.none_after;
    units = l.is.units;
    places = l.is.places;
    ends = l.is.ends;
  };
}

-- The law.
pub records_places : (start : Configuration) → RecordsRun start
unfolding RecordsRun
records_places start begins none = (
  (λ j m at. (recorded start begins none j m at).is),
  shown-last start (stopped start begins none (suc (moves_left start)) start 0 (omega arith) refl
      (first-recorded start begins none) refl),
)
