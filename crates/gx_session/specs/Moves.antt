-- One move of a session.
--
-- A step of the machine that asks nothing is one move. One that makes a Glk call is followed by the moves of the call:
-- what it asks of a device, and the answer that it goes on to. All of them are one event, which takes the units of the
-- step once it is answered; until then the machine stands as before the step. In between pending text is sent: before a
-- device is asked for anything, and after an event that leaves `enough` bytes pending.
use Rattle.std.specs.Prelude.{ℕ, ◌-◌, nat_lt, if◌then◌else◌, Bool, false, List, [], ◌∷◌, ◌++◌, Option, Some, None}
use Rattle.std.specs.Prelude.{Result, Ok, Err}
use Rattle.gx_words.specs.declared.faults.Fault.{Fault}
use Rattle.gx_outside.specs.Shelves.{Request, load_file, store_file, remove_file, find_file}
use Rattle.gx_outside.specs.Shelves.{Answer, loaded, was_stored, was_there}
use Rattle.gx_state.specs.declared.effects.Effect.{Effect}
use Rattle.gx_state.specs.declared.effects.Effect.TheVariants as effect
use Rattle.gx_state.specs.declared.effects.Reply.{Reply}
use Rattle.gx_state.specs.Copies.{Copy}
use Rattle.gx_machine.specs.Machine.{FlatMachine}
use Rattle.gx_machine.specs.Log.{logged}
use Rattle.gx_machine.specs.SavedCopies.{restored}
use Rattle.gx_machine.specs.Answer.{answer_of}
use Rattle.gx_machine.specs.Step.{cost_of, step_of}
use Rattle.glk_world.specs.World.{FlatWorld, Said, after}
use Rattle.glk_world.specs.Shown.{show_grids, show_line}
use Rattle.glk_replies.specs.declared.Turn.{Turn}
use Rattle.glk_replies.specs.declared.Turn.TheVariants as turn
use Rattle.glk_replies.specs.declared.Given.{Given}
use Rattle.glk_replies.specs.declared.Given.TheVariants as given
use Rattle.glk_dispatch.specs.Calls.{glk_call}
use Rattle.glk_dispatch.specs.Going.{glk_go_on}
use Rattle.glk_text_calls.specs.Output.{putting}
use Rattle.glk_replies.specs.Parts.{replies}
use Rattle.gx_session.specs.Saving.{saving, restoring}
use Rattle.gx_session.specs.Input.{NextLine, too_long, none, line, next_line}
use Rattle.gx_session.specs.Sending.{pending, is_due}
use Rattle.gx_session.specs.declared.ends.Stop.TheVariants as stop
use Rattle.gx_session.specs.Constants.{enough, most_loaded, failed}
use Rattle.gx_session.specs.declared.running.GlkWait.{GlkWait}
use Rattle.rand_core.specs.Stream.{next_u32}
use Rattle.gx_session.specs.Configurations.{Phase, Configuration, Verdict, steps, asks, goes_on, moves_to, stops}

-- the configuration after a step that is done, with the units that it leaves: the event has ended, and is recorded
abbrev pub event_done : Configuration → FlatMachine → ℕ → Configuration
event_done m machine left = record m { machine = machine; left = left; log = logged m.log m.machine }

-- The answer to an asking: the Glk world moves on, the machine takes the reply, the event is recorded, and the next
-- step comes. A fault of the world stops the run before the step.
abbrev pub after_reply : Configuration → ℕ → Result (Said × Reply) Fault → Verdict
after_reply m left (Ok r) =
    moves_to (record (event_done m (answer_of m.machine r.1) left) { world = after m.world r.0; phase = steps })
after_reply m left (Err fault) = stops (stop.Faulted fault) m

-- A Glk call has moved the world on, and then asks a device.
abbrev pub asking_for : Configuration → GlkWait → FlatWorld → Turn → Verdict
asking_for m w world t = moves_to (record m { world = world; phase = asks t w })

-- The turn of a Glk call. At a wait for a line what the view shows then is shown. A call that waits in vain isn't
-- counted, and one that ends the program is counted and not recorded. Every other turn asks the shelf.
abbrev pub after_turn : Configuration → GlkWait → Result (Said × Turn) Fault → Verdict
after_turn m w (Ok (said, turn.Answer reply)) = after_reply m w.left (Ok (said, reply))
after_turn m w (Ok (said, turn.Wait)) = asking_for m w (after (after m.world said) (show_grids said.0)) turn.Wait
after_turn m w (Ok (said, turn.Stuck)) = stops stop.Stuck (record m { world = after m.world said })
after_turn m w (Ok (said, turn.Prompt)) = asking_for m w (after (after m.world said) (show_grids said.0)) turn.Prompt
after_turn m w (Ok (said, turn.Exit)) = stops stop.Exited (record m { world = after m.world said; left = w.left })
after_turn m w (Ok (said, t)) = asking_for m w (after m.world said) t
after_turn m w (Err fault) = stops (stop.Faulted fault) m

-- A call that went on with what it was given has an answer, or a fault. (It has no further turn: see `IsSoundCall` of
-- Sound.)
abbrev pub after_given : Configuration → GlkWait → Result (Said × Turn) Fault → Verdict
after_given m w (Ok (said, turn.Answer reply)) = after_reply m w.left (Ok (said, reply))
after_given m w (Ok (said, t)) = stops stop.Stuck m
after_given m w (Err fault) = stops (stop.Faulted fault) m

-- A line is taken, and shown where lines are, if there is one.
abbrev pub after_line : Configuration → GlkWait → NextLine → Verdict
after_line m w too_long = stops stop.LineTooLong m
after_line m w none = stops stop.InputEnded m
after_line m w (line chars rest) =
    let world = if m.echo then after m.world (show_line m.world.scene chars) else m.world in
    moves_to (record m { world = world; input = rest; phase = goes_on (given.Line chars) w })

-- what a call is given for an answer of the shelf
abbrev pub given_of : Answer → Given
given_of (loaded load) = given.Loaded load
given_of was_stored = given.Stored
given_of (was_there b) = given.Was b

-- what the shelf is asked for a turn, if it is asked
abbrev pub request_of : Turn → Option Request
request_of (turn.Load name) = Some (load_file name most_loaded)
request_of (turn.Store name bytes) = Some (store_file name bytes)
request_of (turn.Remove name) = Some (remove_file name)
request_of (turn.Has name) = Some (find_file name)
request_of t = None

-- The shelf is asked this, and the call goes on with what it answers. (No run comes here with nothing to ask: see
-- `IsSoundBy` of Sound.)
abbrev pub shelf_gives : Configuration → GlkWait → Option Request → Verdict
shelf_gives m w None = stops stop.Stuck m
shelf_gives m w (Some r) = let answer = m.answers m.asked r in
    moves_to (record m { asked = m.asked ++ (r, Ok answer) ∷ []; phase = goes_on (given_of answer) w })

-- A restore: the machine goes back to the copy that was read, or takes the answer of one that fails.
abbrev pub after_restoring : Configuration → ℕ → Result (Said × Option Copy) Fault → Verdict
after_restoring m left (Ok (said, Some copy)) =
    moves_to (record (event_done m (restored m.machine copy) left) { world = after m.world said; phase = steps })
after_restoring m left (Ok (said, None)) = after_reply m left (Ok (said, replies failed))
after_restoring m left (Err fault) = stops (stop.Faulted fault) m

-- A step that leaves so many units, by its effect: the next configuration; the random word is used up; a character or a
-- call goes to Glk, with the machine as before the step; so does a save or a restore; the program ends. (No step by
-- itself is Spent.) A fault stops the run before the step.
abbrev pub after_effect : Configuration → ℕ → Result (FlatMachine × Effect) Fault → Verdict
after_effect m left (Ok (now, effect.Went)) = moves_to (event_done m now left)
after_effect m left (Ok (now, effect.Drew)) = moves_to (record (event_done m now left) { words = (next_u32 m.words).1 })
after_effect m left (Ok (now, effect.Put c)) = after_reply m left (putting m.world.scene m.machine.flat c)
after_effect m left (Ok (now, effect.Glk selector args room)) =
    after_turn m (record { room = room; left = left }) (glk_call m.world.scene m.machine.flat room selector args.items)
after_effect m left (Ok (now, effect.Save stream)) = after_reply m left (saving m.world.scene m.machine.flat stream)
after_effect m left (Ok (now, effect.Restore stream)) =
    after_restoring m left (restoring m.world.scene m.machine.flat stream)
after_effect m left (Ok (now, effect.Quit)) = stops stop.Ended (event_done m now left)
after_effect m left (Ok (now, effect.Spent)) = stops stop.Spent (record m { machine = now; left = left })
after_effect m left (Err fault) = stops (stop.Faulted fault) m

-- What comes next. A step: the budget is spent where it has less left than the step costs; else the step is done with
-- the next random word. What a device gives for a turn: the source a line, and else the shelf an answer.
abbrev pub act_by : Phase → Configuration → Verdict
act_by steps m = if nat_lt m.left (cost_of m.machine) then stops stop.Spent m else
    after_effect m (m.left - cost_of m.machine) (step_of m.machine (next_u32 m.words).0)
act_by (asks turn.Wait w) m = after_line m w (next_line m.input)
act_by (asks turn.Prompt w) m = after_line m w (next_line m.input)
act_by (asks t w) m = shelf_gives m w (request_of t)
act_by (goes_on g w) m = after_given m w (glk_go_on m.world.scene m.machine.flat w.room g)

-- The pending text is due: before a device is asked where there is some, and between two events where it has
-- `enough` bytes.
abbrev pub is_due_by : Phase → List (List ℕ) → List ℕ → Bool
is_due_by steps s text = is_due enough s text
is_due_by (asks t w) s text = is_due 1 s text
is_due_by (goes_on g w) s text = false

abbrev pub sends_now : Configuration → Bool
sends_now m = is_due_by m.phase m.sent m.world.text

-- the configuration once all of its text is sent
abbrev pub all_sent : Configuration → Configuration
all_sent m = record m { sent = m.sent ++ pending m.sent m.world.text ∷ [] }

-- ONE MOVE: the text is sent where it is due, and else what comes next is done.
unfoldable pub move_of : Configuration → Verdict
move_of m = if sends_now m then moves_to (all_sent m) else act_by m.phase m
