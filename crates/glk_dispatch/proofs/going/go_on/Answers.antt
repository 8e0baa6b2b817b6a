use Rattle.std.proofs.Common.{IsTrue}
use Rattle.glk_dispatch.specs.Going.{go_grows}
use Rattle.glk_dispatch.proofs.Calm.{calm}
use Rattle.glk_dispatch.proofs.going.go_on.Goals as goal

pub returns-clause-calm : goal.returns-clause-calm
returns-clause-calm g c =
    let f = c.args.state.now.flat in
    calm (IsTrue (go_grows c.args.world.now.scene f c.args.given)) c.resume_waiting.result c.args.world.now
    c.resume_waiting.new.world f c.args.room c.args.given c.resume_waiting.ensures.value
