use Rattle.ops_game.proofs.Copies.{place_found}
use Rattle.ops_game.proofs.undos.saveundo.Goals as goal

pub returns-clause-copies : goal.returns-clause-copies
returns-clause-copies g c =
    let f = c.args.state.now.flat in
    let plan = c.args.plan.now in
    c.push.ensures.fit f.story c.requires.copies
    (c.in_ok-copy.ensures.fit (place_found f plan.sp plan.dest c.in_ok-can_store.ensures))
