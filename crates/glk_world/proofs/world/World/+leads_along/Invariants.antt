use Rattle.glk_world.proofs.world.World.+leads_along.Given as goal

abbrev pub decreases-leads_along : goal.decreases-leads_along
decreases-leads_along l = l.left
