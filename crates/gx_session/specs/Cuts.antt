-- The ways in which a run is cut short: memory ran out, or a device failed.
use Rattle.std.specs.Prelude.{◌≡◌, ℕ, List, [], ◌∷◌, ◌++◌, map, false, true, Option, Some, None, Err}
use Rattle.gx_machine.specs.declared.askings.Asking.{Asking}
use Rattle.gx_outside.specs.Sends.{Send}
use Rattle.gx_outside.specs.Shelves.{Request, store_file, Trace, AnswerMayWant}
use Rattle.gx_outside.specs.declared.devices.SendFault.{SendFault}
use Rattle.gx_outside.specs.declared.devices.SendFault.TheVariants as of_send
use Rattle.gx_outside.specs.declared.devices.ShelfFault.{ShelfFault}
use Rattle.gx_outside.specs.declared.devices.ShelfFault.TheVariants as of_shelf
use Rattle.glk_world.specs.Shown.{EndWants}
use Rattle.glk_replies.specs.declared.Turn.{Turn}
use Rattle.gx_session.specs.declared.ends.Stop.{Stop}
use Rattle.gx_session.specs.declared.ends.Stop.TheVariants as stop
use Rattle.gx_session.specs.Constants.{status_shelf_fault, status_input_fault, status_output_fault, status_no_memory}
use Rattle.gx_session.specs.Configurations.{Configuration, Phase, steps, asks}
use Rattle.gx_session.specs.Moves.{request_of, sends_now}
use Rattle.gx_session.specs.Session.{run_of, stop_of, final_of}
use Rattle.gx_session.specs.Asked.{asked, asked_at}
use Rattle.gx_session.specs.Sending.{pending, is_due}
use Rattle.gx_session.specs.Endings.{stores_of, store_call, told_all}
use Rattle.gx_session.specs.Wants.{IsWait, WantsMemory}

-- What cuts a run short.
pub data RunCut : Type 0 where
  by_memory : RunCut  -- memory ran out
  by_sink : SendFault → RunCut  -- the sink refused the text that was due
  by_shelf : Request → ShelfFault → RunCut  -- the shelf refused this
  by_source : RunCut  -- the source failed at a wait for a line

-- the status then: what the sink or the shelf refused for want of memory is cut short by that
abbrev pub cut_status : RunCut → ℕ
cut_status (by_shelf r of_shelf.Failed) = status_shelf_fault
cut_status by_source = status_input_fault
cut_status (by_sink of_send.Failed) = status_output_fault
cut_status cut = status_no_memory

-- the call of the sink that was refused, if one was: it was handed what was pending
abbrev pub refused_sends : RunCut → Configuration → List Send
refused_sends (by_sink fault) m = (pending m.sent m.world.text, Err fault) ∷ []
refused_sends cut m = []

-- the call of the shelf that was
abbrev pub refused_requests : RunCut → Trace
refused_requests (by_shelf r fault) = (r, Err fault) ∷ []
refused_requests cut = []

-- A device is asked next, for a turn of which this holds.
abbrev pub AsksFor : Phase → (Turn → Type 0) → Type 0
AsksFor (asks t w) P = P t
AsksFor d P = ⊥

-- what the machine asks between two moves
abbrev pub asking_between : Phase → Configuration → Option Asking
asking_between steps m = None
asking_between d m = asked m

-- A run is cut short so before its next move, at this configuration and with a machine that asks this. Memory is wanted
-- only where `WantsMemory` has it, and a send is refused only where it is due. The shelf and the source fail only where
-- they are asked, once all text was sent; a request is refused for want of memory only where that may come in place of
-- the answer.
abbrev pub IsCutAt : Configuration → RunCut → Option Asking → Type 0
IsCutAt m by_memory asking = (sends_now m ≡ false) × WantsMemory m.phase m asking
IsCutAt m (by_sink fault) asking = (sends_now m ≡ true) × (asking ≡ asking_between m.phase m)
IsCutAt m (by_shelf r fault) asking =
    (sends_now m ≡ false) × AsksFor m.phase (λ t. request_of t ≡ Some r)
    × (fault ≡ of_shelf.NoMemory → AnswerMayWant r (m.answers m.asked r)) × (asking ≡ asked m)
IsCutAt m by_source asking = (sends_now m ≡ false) × AsksFor m.phase IsWait × (asking ≡ asked m)

-- A run that stopped at one configuration and ended at another is cut short so in its ending, at this one. Memory is
-- wanted only for what the view shows at the end; a send is refused only where text is due, and a store after those in
-- front of it.
abbrev pub IsCutAtEnd : Configuration → Configuration → RunCut → Configuration → Type 0
IsCutAtEnd stopped ended by_memory m = (m ≡ stopped) × EndWants m.world.scene
IsCutAtEnd stopped ended (by_sink fault) m = (m ≡ ended) × (is_due 1 m.sent m.world.text ≡ true)
IsCutAtEnd stopped ended (by_shelf r fault) m =
    (front : List (List ℕ × List ℕ)) × (next : List ℕ × List ℕ) × (rest : List (List ℕ × List ℕ))
    × (stores_of m.world.scene ≡ front ++ next ∷ rest) × (r ≡ store_file next.0 next.1)
    × (m ≡ record (told_all ended) { asked = ended.asked ++ map store_call front })
IsCutAtEnd stopped ended by_source m = ⊥

-- The run is cut short so after so many moves, or else in its ending.
abbrev pub IsCutShort : Configuration → Option ℕ → RunCut → Configuration → Option Asking → Type 0
IsCutShort start (Some moves) cut m asking = (run_of start moves ≡ Some m) × IsCutAt m cut asking
IsCutShort start None cut m asking =
    let e = final_of start in
    IsCutAtEnd (stop_of start).configuration e.configuration cut m × (asking ≡ asked_at e.stop e.configuration)

-- a stop at which a line was awaited
abbrev pub IsLineStop : Stop → Type 0
IsLineStop stop.InputEnded = Unit {0}
IsLineStop stop.LineTooLong = Unit {0}
IsLineStop s = ⊥
