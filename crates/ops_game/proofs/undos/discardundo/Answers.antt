use Rattle.ops_game.proofs.undos.discardundo.Goals as goal

pub returns-clause-copies : goal.returns-clause-copies
returns-clause-copies g c = c.pop-newest.ensures.fit c.args.state.now.flat.story c.requires.copies
