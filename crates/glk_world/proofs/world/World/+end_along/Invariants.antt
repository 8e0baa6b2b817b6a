use Rattle.glk_world.proofs.world.World.+end_along.Given as goal

abbrev pub decreases-end_along : goal.decreases-end_along
decreases-end_along l = l.left
