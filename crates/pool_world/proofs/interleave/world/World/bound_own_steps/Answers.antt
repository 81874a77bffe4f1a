use Rattle.pool_world.proofs.World.StepBounds.{bounds-own_steps}
use Rattle.pool_world.proofs.interleave.world.World.bound_own_steps.Goals as goal

pub returns : goal.returns
returns g c = record { own_steps = bounds-own_steps _ _ }
