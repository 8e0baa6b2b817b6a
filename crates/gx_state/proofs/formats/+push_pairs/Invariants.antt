use Rattle.gx_state.proofs.formats.+push_pairs.Given as goal

abbrev pub decreases-push_pairs : goal.decreases-push_pairs
decreases-push_pairs g l = l.left
