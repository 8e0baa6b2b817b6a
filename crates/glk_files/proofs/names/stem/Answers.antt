use Rattle.std.proofs.Common.{sym, ◌∙◌}
use Rattle.std.specs.Str.{encode_utf8_all}
use Rattle.glk_files.specs.Names.{stem_of}
use Rattle.glk_files.proofs.Stem.{turn-skip, turn-more}
use Rattle.glk_files.proofs.names.stem.Goals as goal
use Rattle.glk_files.proofs.names.stem.Goals.{in-Some+else-room-eq0+else-c-eq46+in_ok-push, in_default}

pub loop-v-preserved : goal.loop-v-preserved
loop-v-preserved c =
    let all = encode_utf8_all (stem_of c.args.chars.now) in
    elim c.match-allowed.branch [
      | in-Some+else-room-eq0+else-c-eq46+in_ok-push w ↦ rw (w.name-is, w.room-is)
          (turn-more c.args.chars.now c.loop-v.v-index c.loop-v.room c.loop-v.name all c.loop-v-test.true
          c.loop-v.invariant
          w.in-Some.c w.push.new.self
          (sym c.allowed.ensures ∙ w.in-Some.is) w.if-c-eq46.false w.if-room-eq0.false w.in_ok-push.ensures.ok)
      | in_default w ↦ rw (w.name-is, w.room-is)
          (turn-skip c.args.chars.now c.loop-v.v-index c.loop-v.room c.loop-v.name all c.loop-v-test.true
          c.loop-v.invariant
          (sym c.allowed.ensures ∙ w.in_default.is))
    ]
