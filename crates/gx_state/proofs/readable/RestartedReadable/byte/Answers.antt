-- a byte that isn't protected, or isn't there
use Rattle.std.proofs.Common.{◌≡◌, ℕ, ap, subst, sym, arith}
use Rattle.gx_words.specs.Faults.{Reads}
use Rattle.gx_pages.specs.Memory.{number_in}
use Rattle.gx_story.specs.Stories.{FlatStory}
use Rattle.gx_state.specs.Entry.{initial}
use Rattle.gx_state.specs.Copies.{reset}
use Rattle.gx_state.proofs.Bytes.{first_length, again_before, again_behind, again_past}
use Rattle.gx_state.proofs.readable.RestartedReadable.byte.Goals as goal
use Rattle.gx_state.proofs.readable.RestartedReadable.byte.Goals.{then-at-from-via-then-at-from}
use Rattle.gx_state.proofs.readable.RestartedReadable.byte.Goals.{then-at-from-via-else-at-from+then-at-from-2}
use Rattle.gx_state.proofs.readable.RestartedReadable.byte.Goals.{then-at-from-via-else-at-from+else-at-from-2+then-at-endmem}

pub returns-then-at-from-clause-value : goal.returns-then-at-from-clause-value
returns-then-at-from-clause-value g c =
    let f = c.args.self.now.0.now.flat in
    let first = (initial f.story).memory in
    let from = ap (λ (p : ℕ × ℕ). p.0) c.protected-from.ensures in
    let count = ap (λ (p : ℕ × ℕ). p.1) c.protected-from.ensures in
    let same : number_in 1 (reset f).memory c.args.at ≡ number_in 1 first c.args.at =
    elim c.then-at-from.branch [
      | then-at-from-via-then-at-from w ↦ again_before f.memory first f.protected.0 f.protected.1 c.args.at
          (omega (arith, from, w.if-at-from.true))
      | then-at-from-via-else-at-from+then-at-from-2 w
          ↦ again_behind f.memory first f.protected.0 f.protected.1 c.args.at
          (omega (arith, from, w.if-at-from.false)) (omega (arith, from, count, w.if-at-from-2.true))
      | then-at-from-via-else-at-from+else-at-from-2+then-at-endmem w
          ↦ again_past f.memory first f.protected.0 f.protected.1 c.args.at
          (omega (
            arith,
            first_length f.story.bytes f.story.header.endmem
                (omega (arith, w.endmem.ensures.sound.stored_whole, w.endmem.ensures.sound.extstart_first)),
            w.endmem.ensures.value,
            w.if-at-endmem.true,
          ))
    ] in
    let read = subst (λ (s : FlatStory). Reads (λ (v : ℕ). v) c.byte.result
    (number_in 1 (initial s).memory c.args.at)) c.story.ensures c.byte.ensures.value in
    subst (Reads (λ (v : ℕ). v) c.byte.result) (sym same) read
