-- Where memory may be wanted in a move.
use Rattle.std.specs.Prelude.{◌≡◌, ◌⊎◌, Bool, true, Option, Some, None, IsSome, IsOk, IsOkAnd, IsTrue}
use Rattle.gx_pages.specs.Memory.{HasBytes}
use Rattle.gx_state.specs.declared.effects.Effect.{Effect}
use Rattle.gx_state.specs.declared.effects.Effect.TheVariants as effect
use Rattle.gx_state.specs.declared.effects.Reply.{Reply}
use Rattle.gx_machine.specs.declared.askings.Asking.{Asking}
use Rattle.gx_machine.specs.Answer.{IsStoredAnswer}
use Rattle.gx_machine.specs.Machine.{FlatMachine}
use Rattle.gx_machine.specs.Log.{Log}
use Rattle.gx_machine.specs.Step.{stepped, IsStepWriting}
use Rattle.glk_world.specs.World.{Scene, Said}
use Rattle.glk_world.specs.Shown.{ShowWants}
use Rattle.glk_replies.specs.declared.Turn.{Turn}
use Rattle.glk_replies.specs.declared.Turn.TheVariants as turn
use Rattle.glk_dispatch.specs.Calls.{IsGrowing, glk_call}
use Rattle.glk_dispatch.specs.Going.{go_grows, glk_go_on}
use Rattle.glk_text_calls.specs.Output.{putting}
use Rattle.glk_text_calls.specs.Putting.{put_grows_one}
use Rattle.glk_replies.specs.Parts.{replies}
use Rattle.gx_session.specs.Constants.{failed}
use Rattle.gx_session.specs.Configurations.{Configuration, Phase, steps, asks, goes_on}
use Rattle.gx_session.specs.Asked.{effect_at, asked}
use Rattle.gx_session.specs.Input.{NextLine, line, next_line, HasChars}
use Rattle.gx_session.specs.Saving.{saving, restoring, is_save_begun, is_restore_begun}
use Rattle.rand_core.specs.Stream.{next_u32}

-- a turn that waits for a line
abbrev pub IsWait : Turn → Type 0
IsWait turn.Wait = Unit {0}
IsWait turn.Prompt = Unit {0}
IsWait t = ⊥

-- WHERE MEMORY MAY BE WANTED
-- The machine takes a reply: for the record, where the run is recorded, and else where the reply writes bytes or its
-- value is stored in memory.
abbrev pub ReplyWants : Option Log → FlatMachine → Reply → Type 0
ReplyWants log machine reply = IsSome log ⊎ (HasBytes reply.writes ⊎ IsStoredAnswer machine.flat)

-- So it is with the turn of a call. Before a line is awaited, what the view shows then may want memory.
abbrev pub TurnWants : Option Log → FlatMachine → Said × Turn → Type 0
TurnWants log machine (said, turn.Answer reply) = ReplyWants log machine reply
TurnWants log machine (said, t) = IsWait t × ShowWants said.0

-- What this effect asks, where it has no fault: what Glk does for it, where it makes something grow, and the reply. A
-- machine that is restored takes the memory of the copy. A save that is begun may want memory before its fault is met:
-- which places of a stream in memory it takes depends on its length, which isn't known before the save is made.
abbrev pub AskingWants : Option Log → FlatMachine → Scene → Option Effect → Type 0
AskingWants log m w (Some (effect.Put c)) =
    IsOkAnd (putting w m.flat c) (λ r. IsTrue (put_grows_one w w.current c) ⊎ ReplyWants log m r.1)
AskingWants log m w (Some (effect.Glk selector args room)) = IsOkAnd (glk_call w m.flat room selector args.items)
    (λ r. IsGrowing w m.flat selector args.items ⊎ TurnWants log m r)
AskingWants log m w (Some (effect.Save stream)) =
    IsTrue (is_save_begun w m.flat stream) ⊎ IsOkAnd (saving w m.flat stream) (λ r. ReplyWants log m r.1)
AskingWants log m w (Some (effect.Restore stream)) = IsOkAnd (restoring w m.flat stream)
    (λ r. IsTrue (is_restore_begun w m.flat stream) ⊎ IsSome r.1 ⊎ ReplyWants log m (replies failed))
AskingWants log m w e = ⊥

-- A line that is taken, for its characters; and where lines are shown, for what is shown.
abbrev pub LineWants : Bool → NextLine → Type 0
LineWants true (line chars rest) = Unit {0}
LineWants echo next = HasChars next

-- What comes next may want memory, with a machine that asks this: a step, for the record where the run is recorded, and
-- else one that has no fault, writes, resizes or copies memory and is within the budget; what a step asks; the line
-- that is taken at a wait; a call that goes on.
abbrev pub WantsMemory : Phase → Configuration → Option Asking → Type 0
WantsMemory steps m asking = ((asking ≡ None) × (IsSome m.log ⊎ (IsStepWriting m.machine m.left
    × IsOk (stepped (record { machine = m.machine; asking = None }) (next_u32 m.words).0 m.left))))
    ⊎ ((asking ≡ asked m) × AskingWants m.log m.machine m.world.scene (effect_at m))
WantsMemory (asks t w) m asking = (asking ≡ asked m) × IsWait t × LineWants m.echo (next_line m.input)
WantsMemory (goes_on g w) m asking = (asking ≡ asked m) × IsOkAnd (glk_go_on m.world.scene m.machine.flat w.room g)
    (λ r. IsTrue (go_grows m.world.scene m.machine.flat g) ⊎ TurnWants m.log m.machine r)
