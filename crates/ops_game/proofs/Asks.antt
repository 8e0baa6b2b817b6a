-- What is done asks nothing.
use Rattle.std.proofs.Common.{Result, Ok, Err, IfOk}
use Rattle.gx_words.specs.declared.faults.Fault.{Fault}
use Rattle.gx_state.specs.declared.effects.Effect.{Effect}
use Rattle.gx_state.specs.declared.effects.Effect.TheVariants.{Went, Drew, Put, Glk, Save, Restore, Quit, Spent}
use Rattle.gx_state.specs.Flat.{FlatState}
use Rattle.gx_state.specs.Replies.{IsDone}
use Rattle.gx_undo.specs.Undo.{FlatUndo}
use Rattle.gx_operands.specs.Instructions.{Instruction}
use Rattle.ops_game.specs.Asks.{IsSaveAtMost}

pub effect_done : (old new : FlatState × FlatUndo) (i : Instruction) (e : Effect) → IsDone e → IsSaveAtMost old new i e
effect_done old new i Went done = tt
effect_done old new i Drew done = tt
effect_done old new i (Put c) done = done
effect_done old new i (Glk selector args room) done = done
effect_done old new i (Save stream) done = absurd done
effect_done old new i (Restore stream) done = absurd done
effect_done old new i Quit done = tt
effect_done old new i Spent done = done

pub result_done : (old new : FlatState × FlatUndo) (i : Instruction) (r : Result Effect Fault) → IfOk r IsDone
    → IfOk r (IsSaveAtMost old new i)
result_done old new i (Ok e) done = effect_done old new i e done
result_done old new i (Err fault) done = tt

pub ruleset asks = (effect_done, result_done)
