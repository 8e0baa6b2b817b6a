-- What the code holds stays a configuration of the run.
use Rattle.std.proofs.Common.{◌≡◌, ◌≢◌, ℕ, suc, ◌+◌, ◌-◌, ◌<◌, ◌≤◌, ◌⊎◌, inl, inr, nat_le, if◌then◌else◌, Bool, true}
use Rattle.std.proofs.Common.{false, List, [], ◌∷◌, ◌++◌, map, length, Option, None, Some, Ok, Err, refl, ap, subst}
use Rattle.std.proofs.Common.{sym, ◌∙◌, arith, append-nil, length-append}
use Rattle.std.proofs.Math.Seq.{drop-append_seam}
use Rattle.std.proofs.lemmas.List.{map-append}
use Rattle.std.proofs.lemmas.List.Folds.{concat-append}
use Rattle.std.specs.List.{concat}
use Rattle.std.proofs.lemmas.Bool.{leb-true, leb-false}
use Rattle.gx_machine.specs.declared.askings.Asking.{Asking}
use Rattle.gx_outside.specs.Chains.{Chain}
use Rattle.gx_outside.specs.Outside.{FlatSource, FlatShelf}
use Rattle.gx_outside.specs.Sends.{Send}
use Rattle.gx_outside.specs.declared.devices.SendFault.{SendFault}
use Rattle.gx_outside.specs.declared.devices.SendFault.TheVariants as of_send
use Rattle.gx_outside.specs.Shelves.{Request, Answer, Trace, AnswerMayWant}
use Rattle.gx_outside.specs.declared.devices.ShelfFault.{ShelfFault}
use Rattle.gx_outside.specs.declared.devices.ShelfFault.TheVariants as of_shelf
use Rattle.glk_world.specs.World.{FlatWorld}
use Rattle.glk_replies.specs.declared.Turn.{Turn}
use Rattle.gx_session.specs.declared.ends.Stop.{Stop}
use Rattle.gx_session.specs.declared.ends.Stop.TheVariants as stop
use Rattle.gx_session.specs.declared.ends.Halt.{Halt}
use Rattle.gx_session.specs.declared.ends.Halt.TheVariants as halt
use Rattle.gx_session.specs.Constants.{piece, enough as enough_text}
use Rattle.gx_session.specs.declared.running.GlkWait.{GlkWait}
use Rattle.gx_session.specs.Cuts.{RunCut, by_memory, by_sink, by_shelf, by_source, cut_status, IsCutShort, AsksFor}
use Rattle.gx_session.specs.Cuts.{IsLineStop, asking_between, refused_sends, refused_requests}
use Rattle.gx_session.specs.Wants.{IsWait, WantsMemory}
use Rattle.gx_session.specs.Endings.{told_all}
use Rattle.gx_session.specs.Questions.{AreAnswered, AreTold}
use Rattle.gx_session.specs.Reading.{IsPartial}
use Rattle.gx_session.specs.Reading.{spare, ReadsFew}
use Rattle.gx_session.specs.Sending.{pending, is_due, whole_send}
use Rattle.gx_session.specs.Configurations.{Configuration, Phase, steps, asks, moves_to, stops}
use Rattle.gx_session.specs.Moves.{request_of, move_of, is_due_by, sends_now, all_sent}
use Rattle.gx_session.specs.Session.{RunEnd, final_of}
use Rattle.gx_session.specs.Asked.{asked, asked_at}
use Rattle.gx_session.specs.Sound.{IsSoundBy, MovesSoundly}
use Rattle.gx_session.specs.Reads.{LeavesInput}
use Rattle.gx_session.specs.Holding.{SendStep, Handed, HeldRun, WordIs, History, configuration_of, HasTaken, IsHistory}
use Rattle.gx_session.specs.Holding.{IsRead}
use Rattle.gx_session.specs.Standing.{act_of, Standing, Ready, Going, HasStopped, Early, halt_status}
use Rattle.gx_session.specs.Finishing.{HasShown, Told}
use Rattle.gx_session.specs.Outcomes.{halt_of_send, halt_of_shelf, SendsAll, Flushes}
use Rattle.gx_session.proofs.Parts.{IsFront, AreDrawn, AwaitedAt, LongAt, IsLineCut, with_all, read_failures}
use Rattle.gx_session.proofs.Calling.{chain-append}
use Rattle.gx_session.proofs.Sound.{sends-soundly, sound-more, sound-all}
use Rattle.gx_session.proofs.Texts.{final-grows}
use Rattle.gx_session.proofs.Finals.{quiet-sent, stop-stays, stop-comes, reached-goes, move-sends, move-acts}
use Rattle.rand_core.specs.Stream.{Stream}

-- nothing was done so far
abbrev pub no_past : {K : Type 0} {sending : SendStep K} → (Trace → Request → Answer) → Handed sending → History
no_past answers d = record { sent = []; answers = answers; words = d.words }

due-of-none : (text : List ℕ) → text ≡ [] → is_due enough_text [] text ≡ false
due-of-none text none = subst (λ (x : List ℕ). is_due enough_text [] x ≡ false) (sym none) refl

-- a run begins at its start
pub starts : {K : Type 0} {sending : SendStep K}
    → (answers : Trace → Request → Answer) (d : Handed sending) (h : HeldRun) → d.asked ≡ [] → h.word ≡ None
    → h.ahead ≡ [] → h.over ≡ false → h.world.text ≡ [] → (d.source.tells ≡ true → h.coming ≡ d.source.left)
    → Going (configuration_of (no_past answers d) steps h d) d h d
starts answers d h first none nothing going empty left =
    let few : length h.ahead ≡ 0 = ap length nothing in
    let size : length (h.ahead ++ h.coming) ≡ length h.ahead + length h.coming = length-append h.ahead h.coming in
    let spare-is : spare h.over ≡ 1 = ap spare going in
    let is : IsHistory (configuration_of (no_past answers d) steps h d) d (no_past answers d) h d = record {
      taken = refl;
      answers = refl;
      answered = subst AreAnswered (sym first) tt;
      word = subst (λ (w : Option ℕ). WordIs w d.words d.words) (sym none) refl;
      left = left;
      fewer = omega arith;
      reads = record { reads = 0; made = refl; offered = refl; few = omega arith };
    } in
    let now : Standing (configuration_of (no_past answers d) steps h d) d h d steps = record {
      past = no_past answers d;
      moves = 0;
      is_past = is;
      few = omega arith;
      reads = inl refl;
      reached = refl;
      sound = λ i m less reached. absurd (omega arith);
      same_end = refl;
    } in
    record { now = now; quiet = due-of-none h.world.text empty }

-- the words to come, where one may be in hand
pub words-left : (word : Option ℕ) (stream words : Stream) → WordIs word stream words → AreDrawn words stream
words-left None stream words is = inl (sym is)
words-left (Some w) stream words is = inr (sym (ap (λ (p : ℕ × Stream). p.1) is))

-- what is pending of a text of which this was sent
pub pending-is : (sent : List (List ℕ)) (text : List ℕ) → pending sent (concat sent ++ text) ≡ text
pending-is sent text = drop-append_seam (concat sent) text

has-taken : {K : Type 0} (sending : SendStep K) (entry now now' : K) (sent : List (List ℕ)) (text : List ℕ)
    → HasTaken sending entry now sent → sending now (whole_send text) now'
    → HasTaken sending entry now' (sent ++ text ∷ [])
has-taken sending entry now now' sent text before call =
    subst (λ (t : List Send). Chain sending entry t now') (sym (map-append whole_send sent (text ∷ [])))
    (chain-append sending entry now now' (map whole_send sent) (whole_send text ∷ []) before (now', call, refl))

-- what is due of it
pub due-is : (enough : ℕ) (sent : List (List ℕ)) (text : List ℕ) (b : Bool) → nat_le enough (length text) ≡ b
    → is_due enough sent (concat sent ++ text) ≡ b
due-is enough sent text b e = ap (λ (x : List ℕ). nat_le enough (length x)) (pending-is sent text) ∙ e

units-used : (first left units : ℕ) → left ≤ first → left ≡ units → first - left + units ≡ first
units-used first left units fewer same = omega arith

-- A run is cut short at a configuration, after these calls of the sink.
pub cut-at : {K : Type 0} {sending : SendStep K} → (start : Configuration) (entry exit : Handed sending) (h : HeldRun)
    (asking : Option Asking) (why : Halt) (moves : Option ℕ) (cut : RunCut) (m : Configuration) (sends : List Send)
    → IsCutShort start moves cut m asking → halt_status why ≡ cut_status cut → h.machine ≡ m.machine → h.left ≡ m.left
    → h.log ≡ m.log → IsFront (concat m.sent) m.world.text → sends ≡ map whole_send m.sent ++ refused_sends cut m
    → Chain sending entry.sink sends exit.sink → IsFront m.world.text (final_of start).configuration.world.text
    → exit.asked ≡ m.asked ++ refused_requests cut
    → ((IsLineCut moves cut m → ⊥) → LeavesInput start.input m.input h.coming entry.source exit.source
    (AwaitedAt start moves) (LongAt start moves) (read_failures (halt_status why)))
    → AreDrawn m.words exit.words → MovesSoundly start moves → Early start entry h asking exit why
cut-at start entry exit h asking why moves cut m sends is status machine left log front calls chain shown questions
    input words sound = record {
      sends = sends;
      chain = chain;
      stops = λ fewer before now reads. record {
        cut = cut;
        status_is = status;
        moves = moves;
        configuration = m;
        is_cut = is;
        steps_are = units-used start.left h.left m.left fewer left;
        machine_is = machine;
        log_is = log;
        shown = shown;
        sent_of = front;
        sends_are = calls;
        asked_are = questions;
        input_is = input;
        words_are = words;
        moves_are_sound = sound;
      };
    }

-- no call was refused
pub none-sent : (sent : List (List ℕ)) → map whole_send sent ≡ map whole_send sent ++ []
none-sent sent = sym (append-nil (map whole_send sent))

pub none-asked : (asked : Trace) → asked ≡ asked ++ []
none-asked asked = sym (append-nil asked)

module _ {K : Type 0} {sending : SendStep K} (start : Configuration) (entry : Handed sending) (h : HeldRun)
    (d : Handed sending) where
  -- the input that is left
  pub input-left : (awaited long : Type 0) → ((long → ⊥) → length h.ahead < piece)
      → ((awaited → ⊥) → IsRead start.input entry h d)
      → ReadsFew false h.over entry.source d.source start.input h.coming 0
      → (d.source.tells ≡ true → h.coming ≡ d.source.left)
      → LeavesInput start.input (h.ahead ++ h.coming) h.coming entry.source d.source awaited long 0
  input-left awaited long few unread reads left =
      let less : reads.reads + length h.coming + spare h.over ≤ length start.input + 1 + 0 = reads.few in
      record {
        ahead = h.ahead;
        split = refl;
        left = left;
        few = λ short none. few short;
        partial = λ some. absurd (some refl);
        reads = reads.reads;
        made = reads.made;
        offered = reads.offered;
        few_reads = omega arith;
        unread = λ other none. unread other;
      }

  module _ (phase : Phase) where
    abbrev pub here : Standing start entry h d phase → Configuration
    here s = configuration_of s.past phase h d

    -- its text is a front of the end's
    shown-is : (s : Standing start entry h d phase)
        → IsFront (here s).world.text (final_of start).configuration.world.text
    shown-is s = final-grows (here s) start s.same_end

    -- the run goes on
    abbrev pub moves-on : (g : Ready start entry h d phase) (p' : History) (phase' : Phase) (h' : HeldRun)
        (d' : Handed sending) → IsHistory start entry p' h' d' → length h'.ahead < piece
        → IsRead start.input entry h' d'
        → act_of (here g.now) ≡ moves_to (configuration_of p' phase' h' d') → IsSoundBy phase (here g.now)
        → Standing start entry h' d' phase'
    moves-on g p' phase' h' d' is few reads act sound =
        let move : move_of (here g.now) ≡ moves_to (configuration_of p' phase' h' d') =
        move-acts (here g.now) g.quiet ∙ act in
        record {
          past = p';
          moves = suc g.now.moves;
          is_past = is;
          few = few;
          reads = reads;
          reached = reached-goes start (here g.now) (configuration_of p' phase' h' d') g.now.moves g.now.reached move;
          sound = sound-more start g.now.moves (here g.now) g.now.reached (λ quiet. sound) g.now.sound;
          same_end = stop-stays (here g.now) (configuration_of p' phase' h' d') move ∙ g.now.same_end;
        }

    -- the run stops
    pub stops-at : (g : Ready start entry h d phase) (why : Stop) (p' : History) (phase' : Phase) (h' : HeldRun)
        (d' : Handed sending) (asking : Option Asking) → IsHistory start entry p' h' d'
        → (why ≢ stop.LineTooLong → length h'.ahead < piece) → ((IsLineStop why → ⊥) → IsRead start.input entry h' d')
        → act_of (here g.now) ≡ stops why (configuration_of p' phase' h' d') → IsSoundBy phase (here g.now)
        → asking ≡ asked_at why (configuration_of p' phase' h' d') → HasStopped start entry h' asking d' why
    stops-at g why p' phase' h' d' asking is few reads act sound asking-is =
        let move : move_of (here g.now) ≡ stops why (configuration_of p' phase' h' d') =
        move-acts (here g.now) g.quiet ∙ act in
        record {
          past = p';
          phase = phase';
          is_past = is;
          few = few;
          reads = reads;
          is_end = sym g.now.same_end ∙ stop-comes (here g.now) (configuration_of p' phase' h' d') why move;
          sound = sound-all start g.now.moves (here g.now) (configuration_of p' phase' h' d') why g.now.reached move
              (λ quiet. sound) g.now.sound;
          asking_is = asking-is;
        }

    -- memory ran out, with this input left
    wants-by : (g : Ready start entry h d phase) (h' : HeldRun) (source : FlatSource) (asking : Option Asking)
        → ((AsksFor phase IsWait → ⊥) → LeavesInput start.input (here g.now).input h'.coming entry.source source
        (AwaitedAt start (Some g.now.moves)) (LongAt start (Some g.now.moves)) 0)
        → WantsMemory phase (here g.now) asking
        → h'.machine ≡ h.machine → h'.left ≡ h.left → h'.log ≡ h.log
        → Early start entry h' asking (record d { source = source }) halt.NoMemory
    wants-by g h' source asking input is machine left log =
        let s = g.now in
        cut-at start entry (record d { source = source }) h' asking halt.NoMemory (Some s.moves) by_memory (here s)
        (map whole_send s.past.sent)
        (s.reached, (g.quiet, is)) refl machine left log (h.world.text, refl) (none-sent s.past.sent) s.is_past.taken
        (shown-is s) (none-asked d.asked) (λ other. input (λ waits. other (refl, refl, waits)))
        (words-left h.word d.words s.past.words s.is_past.word) s.sound

    -- the source wasn't asked since then
    pub wants : (g : Ready start entry h d phase) (h' : HeldRun) (asking : Option Asking)
        → WantsMemory phase (here g.now) asking
        → h'.machine ≡ h.machine → h'.left ≡ h.left → h'.log ≡ h.log → h'.coming ≡ h.coming
        → Early start entry h' asking d halt.NoMemory
    wants g h' asking is machine left log coming =
        let s = g.now in
        wants-by g h' d.source asking (λ other.
        subst (λ (c : List ℕ). LeavesInput start.input (here g.now).input c entry.source d.source
        (AwaitedAt start (Some s.moves)) (LongAt start (Some s.moves)) 0) (sym coming)
        (input-left (AwaitedAt start (Some s.moves)) (LongAt start (Some s.moves)) (λ short. s.few)
        (λ short. s.reads) s.is_past.reads s.is_past.left)) is machine left log

    -- at a wait for a line
    pub wants-line : (g : Ready start entry h d phase) (h' : HeldRun) (source : FlatSource) (asking : Option Asking)
        → AsksFor phase IsWait → WantsMemory phase (here g.now) asking
        → h'.machine ≡ h.machine → h'.left ≡ h.left → h'.log ≡ h.log
        → Early start entry h' asking (record d { source = source }) halt.NoMemory
    wants-line g h' source asking waiting is machine left log =
        wants-by g h' source asking (λ other. absurd (other waiting)) is machine left log

  module _ (w : GlkWait) (turn : Turn) where
    -- the shelf refused
    refused-by : (g : Ready start entry h d (asks turn w)) (shelf : FlatShelf) (r : Request) (fault : ShelfFault)
        (asking : Option Asking) → request_of turn ≡ Some r
        → (let m = here (asks turn w) g.now in fault ≡ of_shelf.NoMemory → AnswerMayWant r (m.answers m.asked r))
        → halt_status (halt_of_shelf fault) ≡ cut_status (by_shelf r fault)
        → read_failures (halt_status (halt_of_shelf fault)) ≡ 0
        → asking ≡ asked (here (asks turn w) g.now)
        → Early start entry h asking (record d { shelf = shelf; asked = d.asked ++ (r, Err fault) ∷ [] })
        (halt_of_shelf fault)
    refused-by g shelf r fault asking is may status failures asking-is =
        let s = g.now in
        let m : Configuration = here (asks turn w) s in
        cut-at start entry (record d { shelf = shelf; asked = d.asked ++ (r, Err fault) ∷ [] }) h asking
        (halt_of_shelf fault) (Some s.moves) (by_shelf r fault) m (map whole_send s.past.sent)
        (s.reached, (g.quiet, is, may, asking-is)) status refl refl refl (h.world.text, refl)
        (none-sent s.past.sent) s.is_past.taken (shown-is (asks turn w) s)
        refl
        (λ other. subst (LeavesInput start.input m.input h.coming entry.source d.source
        (AwaitedAt start (Some s.moves)) (LongAt start (Some s.moves))) (sym failures)
        (input-left (AwaitedAt start (Some s.moves)) (LongAt start (Some s.moves)) (λ short. s.few)
        (λ short. s.reads) s.is_past.reads s.is_past.left))
        (words-left h.word d.words s.past.words s.is_past.word) s.sound

    pub refused : (g : Ready start entry h d (asks turn w)) (shelf : FlatShelf) (r : Request) (fault : ShelfFault)
        (asking : Option Asking) → request_of turn ≡ Some r
        → AreTold start.answers d.asked ((r, Err fault) ∷ []) → asking ≡ asked (here (asks turn w) g.now)
        → Early start entry h asking (record d { shelf = shelf; asked = d.asked ++ (r, Err fault) ∷ [] })
        (halt_of_shelf fault)
    refused g shelf r of_shelf.Failed asking is told asking-is =
        refused-by g shelf r of_shelf.Failed asking is (λ e. cc) refl refl asking-is
    refused g shelf r of_shelf.NoMemory asking is told asking-is =
        refused-by g shelf r of_shelf.NoMemory asking is
        (λ e. subst (λ (f : Trace → Request → Answer). AnswerMayWant r (f d.asked r))
        (sym g.now.is_past.answers) told) refl refl asking-is

    -- the source failed
    pub unread : (g : Ready start entry h d (asks turn w)) (h' : HeldRun) (source : FlatSource)
        (asking : Option Asking) → IsWait turn → (source.tells ≡ true → h'.coming ≡ source.left)
        → ReadsFew false h'.over entry.source source start.input h'.coming 1 → IsPartial h'.ahead
        → h'.ahead ++ h'.coming ≡ h.ahead ++ h.coming → h'.machine ≡ h.machine → h'.left ≡ h.left → h'.log ≡ h.log
        → asking ≡ asked (here (asks turn w) g.now)
        → Early start entry h' asking (record d { source = source }) halt.Input
    unread g h' source asking is input reads partial same machine left log asking-is =
        let s = g.now in
        let less : reads.reads + length h'.coming + spare h'.over ≤ length start.input + 1 + 1 = reads.few in
        let leaves : LeavesInput start.input (h.ahead ++ h.coming) h'.coming entry.source source
        (AwaitedAt start (Some s.moves)) (LongAt start (Some s.moves)) 1 = record {
          ahead = h'.ahead;
          split = sym same;
          left = input;
          few = λ short none. absurd cc;
          partial = λ _. partial;
          reads = reads.reads;
          made = reads.made;
          offered = reads.offered;
          few_reads = omega arith;
          unread = λ short none. absurd cc;
        } in
        cut-at start entry (record d { source = source }) h' asking halt.Input (Some s.moves) by_source
        (here (asks turn w) s) (map whole_send s.past.sent)
        (s.reached, (g.quiet, is, asking-is)) refl machine left log (h.world.text, refl)
        (none-sent s.past.sent) s.is_past.taken (shown-is (asks turn w) s) (none-asked d.asked) (λ other. leaves)
        (words-left h.word d.words s.past.words s.is_past.word) s.sound

  -- a word was drawn
  pub redrawn : (word : Option ℕ) (stream : Stream) → Going start entry h d
      → ((words : Stream) → WordIs h.word d.words words → WordIs word stream words)
      → Going start entry (record h { word = word }) (record d { words = stream })
  redrawn word stream g drawn =
      let s = g.now in
      let i = s.is_past in
      let is : IsHistory start entry s.past (record h { word = word }) (record d { words = stream }) = record {
        taken = i.taken;
        answers = i.answers;
        answered = i.answered;
        word = drawn s.past.words i.word;
        left = i.left;
        fewer = i.fewer;
        reads = i.reads;
      } in
      let now : Standing start entry (record h { word = word }) (record d { words = stream }) steps = record {
        past = s.past;
        moves = s.moves;
        is_past = is;
        few = s.few;
        reads = s.reads;
        reached = s.reached;
        sound = s.sound;
        same_end = s.same_end;
      } in
      record { now = now; quiet = g.quiet }

  module _ (world : FlatWorld) (sink : K) where
    abbrev h-now : HeldRun
    h-now = record h { world = world }

    abbrev d-now : Handed sending
    d-now = record d { sink = sink }

    -- what was done once this was sent
    abbrev with-more : History → History
    with-more p = record p { sent = p.sent ++ h.world.text ∷ [] }

    -- pending text that was sent was shown before too
    still : (p : History) (phase : Phase) → world ≡ record h.world { text = [] }
        → configuration_of (with-more p) phase h-now d-now ≡ all_sent (configuration_of p phase h d)
    still p phase none =
        let m : Configuration = configuration_of p phase h d in
        let texts : concat (p.sent ++ h.world.text ∷ []) ++ [] ≡ concat p.sent ++ h.world.text =
        append-nil (concat (p.sent ++ h.world.text ∷ [])) ∙ concat-append p.sent (h.world.text ∷ [])
        ∙ ap (λ (x : List ℕ). concat p.sent ++ x) (append-nil h.world.text) in
        ap (λ (w : FlatWorld). configuration_of (with-more p) phase (record h { world = w }) d-now) none
        ∙ ap (λ (x : List ℕ). record m { world = record m.world { text = x }; sent = p.sent ++ h.world.text ∷ [] })
        texts
        ∙ ap (λ (x : List ℕ). record m { sent = p.sent ++ x ∷ [] }) (sym (pending-is p.sent h.world.text))

    sent-past : (p : History) → IsHistory start entry p h d → sending d.sink (whole_send h.world.text) sink
        → IsHistory start entry (with-more p) h-now d-now
    sent-past p i call = record {
      taken = has-taken sending entry.sink d.sink sink p.sent h.world.text i.taken call;
      answers = i.answers;
      answered = i.answered;
      word = i.word;
      left = i.left;
      fewer = i.fewer;
      reads = i.reads;
    }

    -- nothing was sent
    stood : (phase : Phase) → Ready start entry h d phase → (sink ≡ d.sink) → (world ≡ h.world)
        → Ready start entry h-now d-now phase
    stood phase g same-sink same-world =
        subst (λ (x : FlatWorld). Ready start entry (record h { world = x }) (record d { sink = sink }) phase)
        (sym same-world)
        (subst (λ (k : K). Ready start entry h (record d { sink = k }) phase) (sym same-sink) g)

    module _ (phase : Phase) (enough : ℕ) (due : (s : List (List ℕ)) (text : List ℕ)
        → is_due_by phase s text ≡ is_due enough s text) where
      due-now : (s : Standing start entry h d phase) (b : Bool) → nat_le enough (length h.world.text) ≡ b
          → sends_now (here phase s) ≡ b
      due-now s b e = due (here phase s).sent (here phase s).world.text ∙ due-is enough s.past.sent h.world.text b e

      sends : (g : Standing start entry h d phase) (b : Bool) → nat_le enough (length h.world.text) ≡ b
          → Flushes sending enough d.sink sink h.world world (Ok tt) → Ready start entry h-now d-now phase
      sends g true e f =
          let s : SendsAll sending d.sink sink h.world world (Ok tt) =
          f.many (leb-true enough (length h.world.text) e) in
          let same : configuration_of (with-more g.past) phase h-now d-now ≡ all_sent (here phase g) =
          still g.past phase s.1 in
          let move : move_of (here phase g) ≡ moves_to (configuration_of (with-more g.past) phase h-now d-now) =
          move-sends (here phase g) (due-now g true e) ∙ ap moves_to (sym same) in
          let now : Standing start entry h-now d-now phase = record {
            past = with-more g.past;
            moves = suc g.moves;
            is_past = sent-past g.past g.is_past s.0;
            few = g.few;
            reads = g.reads;
            reached = reached-goes start (here phase g) (configuration_of (with-more g.past) phase h-now d-now)
                g.moves g.reached move;
            sound = sound-more start g.moves (here phase g) g.reached
                (sends-soundly (here phase g) (due-now g true e)) g.sound;
            same_end = stop-stays (here phase g) (configuration_of (with-more g.past) phase h-now d-now) move
                ∙ g.same_end;
          } in
          record {
            now = now;
            quiet = ap sends_now same
                ∙ quiet-sent phase (here phase g).sent (here phase g).world.text;
          }
      sends g false e f =
          let same = f.few (leb-false enough (length h.world.text) e) in
          stood phase (record { now = g; quiet = due-now g false e }) same.0 same.1

      -- THE TEXT THAT IS DUE BETWEEN TWO MOVES was sent.
      pub flushed : Standing start entry h d phase → Flushes sending enough d.sink sink h.world world (Ok tt)
          → Ready start entry h-now d-now phase
      flushed g f = sends g (nat_le enough (length h.world.text)) refl f

    -- one that was refused was due
    was-due : (enough : ℕ) (why : Halt) (b : Bool) → nat_le enough (length h.world.text) ≡ b
        → Flushes sending enough d.sink sink h.world world (Err why)
        → (nat_le enough (length h.world.text) ≡ true) × SendsAll sending d.sink sink h.world world (Err why)
    was-due enough why true e f = (e, f.many (leb-true enough (length h.world.text) e))
    was-due enough why false e f = let ok = (f.few (leb-false enough (length h.world.text) e)).2 in cc

    no-failures : (why : Halt) → (why ≡ halt.Output) ⊎ (why ≡ halt.NoMemory) → read_failures (halt_status why) ≡ 0
    no-failures why (inl e) = ap (λ (x : Halt). read_failures (halt_status x)) e
    no-failures why (inr e) = ap (λ (x : Halt). read_failures (halt_status x)) e

    send-status : (fault : SendFault) → halt_status (halt_of_send fault) ≡ cut_status (by_sink fault)
    send-status of_send.Failed = refl
    send-status of_send.NoMemory = refl

    -- A send is refused that is due.
    cut-sending : (asking : Option Asking) (why : Halt) (moves : Option ℕ) (p : History) (phase : Phase)
        (s : SendsAll sending d.sink sink h.world world (Err why))
        → IsCutShort start moves (by_sink s.0) (configuration_of p phase h d) asking
        → IsHistory start entry p h d → (why ≡ halt.Output) ⊎ (why ≡ halt.NoMemory)
        → LeavesInput start.input (h.ahead ++ h.coming) h.coming entry.source d.source (AwaitedAt start moves)
        (LongAt start moves) 0
        → IsFront (concat p.sent ++ h.world.text) (final_of start).configuration.world.text → MovesSoundly start moves
        → Early start entry h-now asking d-now why
    cut-sending asking why moves p phase s is past only input shown sound =
        let refused : Send = (h.world.text, Err s.0) in
        cut-at start entry d-now h-now asking why moves (by_sink s.0) (configuration_of p phase h d)
        (map whole_send p.sent ++ refused ∷ []) is (ap halt_status s.2 ∙ send-status s.0) refl refl refl
        (h.world.text, refl)
        (ap (λ (x : List ℕ). let c : Send = (x, Err s.0) in map whole_send p.sent ++ c ∷ [])
        (sym (pending-is p.sent h.world.text)))
        (chain-append sending entry.sink d.sink sink (map whole_send p.sent) (refused ∷ []) past.taken
        (sink, s.1, refl)) shown (none-asked d.asked)
        (λ other. subst (LeavesInput start.input (h.ahead ++ h.coming) h.coming entry.source d.source
        (AwaitedAt start moves) (LongAt start moves)) (sym (no-failures why only)) input)
        (words-left h.word d.words p.words past.word) sound

    -- The text that is due between two moves was refused.
    pub cut-send : (phase : Phase) (enough : ℕ)
        → ((s : List (List ℕ)) (text : List ℕ) → is_due_by phase s text ≡ is_due enough s text)
        → (asking : Option Asking) (why : Halt) (g : Standing start entry h d phase)
        → asking ≡ asking_between phase (here phase g) → (why ≡ halt.Output) ⊎ (why ≡ halt.NoMemory)
        → Flushes sending enough d.sink sink h.world world (Err why) → Early start entry h-now asking d-now why
    cut-send phase enough due asking why g asking-is only f =
        let was = was-due enough why (nat_le enough (length h.world.text)) refl f in
        cut-sending asking why (Some g.moves) g.past phase was.1
        (g.reached, (due-now phase enough due g true was.0, asking-is)) g.is_past only
        (input-left (AwaitedAt start (Some g.moves)) (LongAt start (Some g.moves)) (λ short. g.few)
        (λ short. g.reads) g.is_past.reads g.is_past.left) (shown-is phase g) g.sound

    -- THE TEXT THAT IS DUE AT THE END
    module _ (asking : Option Asking) (why : Stop) (g : HasShown start entry h asking d why) where
      abbrev last : Configuration
      last = configuration_of g.past g.phase h d

      stopped-is : (final_of start).configuration ≡ last
      stopped-is = ap (λ (e : RunEnd). e.configuration) g.is_end

      asks-still : asking ≡ asked_at (final_of start).stop (final_of start).configuration
      asks-still = g.asking_is ∙ ap (λ (e : RunEnd). asked_at e.stop e.configuration) (sym g.is_end)

      told-is : (b : Bool) → nat_le 1 (length h.world.text) ≡ b → told_all last ≡ (if b then all_sent last else last)
      told-is true e = ap (λ (b : Bool). record last
          { sent = if b then with_all last.sent last.world.text else last.sent })
          (due-is 1 g.past.sent h.world.text true e)
      told-is false e = ap (λ (b : Bool). record last
          { sent = if b then with_all last.sent last.world.text else last.sent })
          (due-is 1 g.past.sent h.world.text false e)

      no-bytes : (text : List ℕ) → length text < 1 → text ≡ []
      no-bytes [] few = refl
      no-bytes (x ∷ xs) few = absurd (omega arith)

      sends-end : (b : Bool) → nat_le 1 (length h.world.text) ≡ b
          → Flushes sending 1 d.sink sink h.world world (Ok tt) → Told start entry h-now asking d-now why
      sends-end true e f =
          let s : SendsAll sending d.sink sink h.world world (Ok tt) = f.many (leb-true 1 (length h.world.text) e) in
          record {
            past = with-more g.past;
            phase = g.phase;
            is_past = sent-past g.past g.is_past s.0;
            few = g.few;
            reads = g.reads;
            stop_is = ap (λ (x : RunEnd). x.stop) g.is_end;
            is_end = ap told_all stopped-is ∙ told-is true e ∙ sym (still g.past g.phase s.1);
            sound = g.sound;
            asking_is = asks-still;
            none_left = ap (λ (w : FlatWorld). w.text) s.1;
          }
      sends-end false e f =
          let same = f.few (leb-false 1 (length h.world.text) e) in
          let told : Told start entry h asking d why = record {
            past = g.past;
            phase = g.phase;
            is_past = g.is_past;
            few = g.few;
            reads = g.reads;
            stop_is = ap (λ (x : RunEnd). x.stop) g.is_end;
            is_end = ap told_all stopped-is ∙ told-is false e;
            sound = g.sound;
            asking_is = asks-still;
            none_left = no-bytes h.world.text (leb-false 1 (length h.world.text) e);
          } in
          subst (λ (x : FlatWorld). Told start entry (record h { world = x }) asking (record d { sink = sink }) why)
          (sym same.1)
          (subst (λ (k : K). Told start entry h asking (record d { sink = k }) why) (sym same.0) told)

      pub flushed-end : Flushes sending 1 d.sink sink h.world world (Ok tt) → Told start entry h-now asking d-now why
      flushed-end f = sends-end (nat_le 1 (length h.world.text)) refl f

      pub cut-end : (halted : Halt) → (halted ≡ halt.Output) ⊎ (halted ≡ halt.NoMemory)
          → Flushes sending 1 d.sink sink h.world world (Err halted)
          → Early start entry h-now asking d-now halted
      cut-end halted only f =
          let was = was-due 1 halted (nat_le 1 (length h.world.text)) refl f in
          let stop-is : (final_of start).stop ≡ why = ap (λ (x : RunEnd). x.stop) g.is_end in
          cut-sending asking halted None g.past g.phase was.1
          ((sym stopped-is, due-is 1 g.past.sent h.world.text true was.0), asks-still) g.is_past only
          (input-left (AwaitedAt start None) (LongAt start None) (λ short. g.few (λ e. short (refl, stop-is ∙ e)))
          (λ other. g.reads (λ is. other (refl, subst IsLineStop (sym stop-is) is))) g.is_past.reads g.is_past.left) (
            [],
            ap (λ (x : Configuration). x.world.text) stopped-is
                ∙ sym (append-nil (concat g.past.sent ++ h.world.text)),
          ) g.sound
