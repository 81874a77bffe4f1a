use Rattle.pool_world.proofs.World.Reachable.{past-step, past-exact}
use Rattle.pool_world.proofs.interleave.world.World.step.Goals as goal

pub invariant_of-self : goal.invariant_of-self
invariant_of-self g c = past-step _ _ _ _ _ c.self.invariant c.step.ensures.step

pub returns-clause-exact : goal.returns-clause-exact
returns-clause-exact g c = rw (← c.self.view_is) (past-exact _ _ _ _ _ c.self.invariant c.step.ensures.step)
