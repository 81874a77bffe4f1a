-- What a caller of a world knows of all that was done since it was new.
use Rattle.std.specs.Prelude.{◌≡◌, ℕ, ◌-◌, ◌*◌, ◌<◌, Some, List, slice_get}
use Rattle.pool_world.specs.World.Headline.{IsRun}
use Rattle.pool_world.specs.World.OwnSteps.{own_steps, IsLooking}
use Rattle.pool_world.specs.World.State.{WorldState}
use Rattle.pool_world.specs.World.Trace.{Log}
use Rattle.pool_laws.specs.Parts.{parted}
use Rattle.pool_laws.specs.Steps.{AreInOrder, AreLegalPages}

-- some events led to this world: they are a run of one pool, the history of each of its pages is
-- legal and begins after the page was linked, and under a limit no agent looks for long
pub record IsBoundedRun {T : Type 0} (Leaves : T → T → Type 0) (world : WorldState T) : Type 0 where
  pub first : List T
  pub log : Log T
  pub run : IsRun Leaves first log world
  pub order : AreInOrder (parted run.acts)
  pub pages : AreLegalPages first (parted run.acts)
  pub looks : (a limit : ℕ) → world.limit ≡ Some limit → IsLooking (slice_get world.agents a) → own_steps log a < 36 * limit - 2
