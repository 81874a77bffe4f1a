-- What contracts see of a world.
use Rattle.pool_world.specs.World.State.{WorldState}
use Rattle.pool_world.specs.World.Capacity.{Capacity}

-- its pages, its agents and its limit; for how many it has memory; and what resets the values that are returned
pub record WorldView (T R : Type 0) : Type 0 where
  pub state : WorldState T
  pub capacity : Capacity
  pub reset : R
