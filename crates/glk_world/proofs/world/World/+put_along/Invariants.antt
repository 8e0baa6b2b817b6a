use Rattle.glk_world.proofs.world.World.+put_along.Given as goal

abbrev pub decreases-put_along : goal.decreases-put_along
decreases-put_along l = l.left
