-- What contracts see of a world's tables.
use Rattle.pool_world.specs.World.State.{WorldState}
use Rattle.pool_world.specs.World.Capacity.{Capacity}

-- what is in them, and how much they can hold before memory is taken
pub record Tables (T : Type 0) : Type 0 where
  pub state : WorldState T
  pub capacity : Capacity
