-- The machine takes a reply, or goes back to a copy, and then the text is sent that is due.
use Rattle.std.proofs.Common.{◌≡◌, ℕ, ◌≤◌, ◌⊎◌, List, Option, Some, None, IsSome, Result, Ok, Err, IfOk, refl, ap}
use Rattle.std.proofs.Common.{subst, sym, ◌∙◌, arith}
use Rattle.gx_machine.specs.Machine.{FlatMachine, Whole}
use Rattle.gx_machine.specs.Log.{Log, logged}
use Rattle.gx_machine.specs.Advancing.{units_left, left_once_answered, left_after}
use Rattle.gx_machine.specs.declared.askings.Asking.{Asking}
use Rattle.glk_world.specs.World.{FlatWorld}
use Rattle.gx_session.specs.declared.ends.Halt.{Halt}
use Rattle.gx_session.specs.declared.ends.Halt.TheVariants as halt
use Rattle.gx_session.specs.declared.ends.Next.{Next}
use Rattle.gx_session.specs.declared.ends.Next.TheVariants as next
use Rattle.gx_session.specs.Constants.{enough}
use Rattle.gx_session.specs.declared.running.Running.{Running}
use Rattle.gx_session.specs.Configurations.{Configuration, steps}
use Rattle.gx_session.specs.Holding.{SendStep, Handed, HeldRun, held_by, asking_in}
use Rattle.gx_session.specs.Standing.{Standing, Resumes}
use Rattle.gx_session.specs.Outcomes.{EventGives, Flushes, Becomes, IsNext, Leads}
use Rattle.gx_session.proofs.Asking.{resumed-on, resumed-early}
use Rattle.gx_session.proofs.Playing.{flushed, cut-send}

module _ {K : Type 0} {sending : SendStep K} {E : Type 0} (whole : E → Whole) (log : E → Option Log)
    (old mid : Running E) (coming : List ℕ) (machine : FlatMachine) (left : ℕ) (start : Configuration)
    (entry d : Handed sending) (wanted : Type 0)
    (r : Resumes start entry (held_by whole log old coming) (asking_in whole old) d left machine wanted) where
  abbrev h : HeldRun
  h = held_by whole log old coming

  -- the machine wants memory
  pub give-early : (e : Halt) → e ≡ halt.NoMemory → wanted
      → (let q : Result (Unit {0}) Halt = Err e in Becomes whole log old mid machine left q)
      → EventGives start entry (held_by whole log mid coming) (asking_in whole mid) d (Err e)
  give-early e memory wants g =
      subst (λ (x : Halt). EventGives start entry (held_by whole log mid coming) (asking_in whole mid) d (Err x))
      (sym memory)
      (resumed-early start entry h d (asking_in whole old) left machine wanted r wants (held_by whole log mid coming)
      (ap (λ (w : Whole). w.machine) g.err.0) (ap (λ (x : Running E). x.left) g.err.1) g.err.2 refl
      (asking_in whole mid)
      (ap (λ (w : Whole). w.asking) g.err.0))

  module _ (g : (let q : Result (Unit {0}) Halt = Ok tt in Becomes whole log old mid machine left q)) where
    none-asked : asking_in whole mid ≡ None
    none-asked = ap (λ (w : Whole). w.asking) g.ok.0

    given-held : held_by whole log mid coming
        ≡ record h { machine = machine; left = left; log = logged h.log h.machine }
    given-held =
        ap (λ (x : Running E). held_by whole log x coming) g.ok.1
        ∙ ap (λ (w : Whole). let y : HeldRun = record h { machine = w.machine; left = left; log = log mid.engine } in
        y) g.ok.0
        ∙ ap (λ (l : Option Log). let y : HeldRun = record h { machine = machine; left = left; log = l } in y) g.ok.2

    pub given-standing : Standing start entry (held_by whole log mid coming) d steps
    given-standing = subst (λ (x : HeldRun). Standing start entry x d steps) (sym given-held)
        (resumed-on start entry h d (asking_in whole old) left machine wanted r)

    -- the text that was due then is refused
    pub flush-early : (world : FlatWorld) (sink : K) (e : Halt) → (e ≡ halt.Output) ⊎ (e ≡ halt.NoMemory)
        → Flushes sending enough d.sink sink mid.world world (Err e)
        → EventGives start entry (held_by whole log (record mid { world = world }) coming) (asking_in whole mid)
        (record d { sink = sink }) (Err e)
    flush-early world sink e only f = (cut-send start entry (held_by whole log mid coming) d world sink steps enough
        (λ s text. refl) (asking_in whole mid) e given-standing none-asked only f)

    -- it was sent
    pub flush-on : (world : FlatWorld) (sink : K) → Flushes sending enough d.sink sink mid.world world (Ok tt)
        → EventGives start entry (held_by whole log (record mid { world = world }) coming) (asking_in whole mid)
        (record d { sink = sink }) (Ok next.Goes)
    flush-on world sink f = (flushed start entry (held_by whole log mid coming) d world sink steps enough
        (λ s text. refl) given-standing f)

goes-next : (result : Result Next Halt) → IfOk result (λ n. n ≡ next.Goes) → IfOk result IsNext
goes-next (Ok n) goes = subst IsNext (sym goes) tt
goes-next (Err why) goes = tt

-- the units that can still be taken once what is asked is answered
room-answered : (asking : Option Asking) (log : Option Log) (m : FlatMachine) (n : ℕ) → IsSome asking
    → n ≤ left_once_answered asking log m → n ≤ units_left (logged log m)
room-answered (Some asking) log m n some room = room
room-answered None log m n some room = absurd cc

-- what follows changed the world alone
pub given-leads : {E : Type 0} (whole : E → Whole) (log : E → Option Log) (old mid new : Running E)
    (machine : FlatMachine) (left : ℕ) → left ≤ old.left
    → IsSome (whole old.engine).asking → left ≤ left_after (log old.engine) (whole old.engine)
    → (let q : Result (Unit {0}) Halt = Ok tt in Becomes whole log old mid machine left q)
    → new ≡ record mid { world = new.world } → (result : Result Next Halt) → IfOk result (λ n. n ≡ next.Goes)
    → Leads whole log old new left result
given-leads {E} whole log old mid new machine left fewer asks room g same result goes =
    let units : new.left ≡ left = ap (λ (x : Running E). x.left) same ∙ ap (λ (x : Running E). x.left) g.ok.1 in
    record {
      none = λ e. ap (λ (x : Running E). (whole x.engine).asking) same ∙ ap (λ (w : Whole). w.asking) g.ok.0;
      fewer = λ e. subst (λ (n : ℕ). n ≤ left) (sym units) (omega arith);
      room = λ e.
          subst (λ (n : ℕ). n ≤ units_left (log new.engine)) (sym units)
          (subst (λ (l : Option Log). left ≤ units_left l) (sym (ap (λ (x : Running E). log x.engine) same ∙ g.ok.2))
          (room-answered (whole old.engine).asking (log old.engine) (whole old.engine).machine left asks room));
      no_more = subst (λ (n : ℕ). n ≤ old.left) (sym units) fewer;
      stop_is = goes-next result goes;
    }
