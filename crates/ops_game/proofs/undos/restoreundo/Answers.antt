use Rattle.ops_game.proofs.undos.restoreundo.Goals as goal

pub returns-in-Ok-clause-copies : goal.returns-in-Ok-clause-copies
returns-in-Ok-clause-copies g c = c.pop.ensures.fit c.args.state.now.flat.story c.requires.copies
