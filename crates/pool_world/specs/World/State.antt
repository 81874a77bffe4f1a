-- What a world is made of, as contracts see it.
use Rattle.std.specs.Prelude.{ℕ, List, Option}
use Rattle.pool_world.specs.declared.interleave.point.Point.{Point}

-- a page's word, and its 32 places, each empty while its value is with an agent
pub record WorldPageState (T : Type 0) : Type 0 where
  pub word : ℕ
  pub places : List (Option T)

-- the pages in order, the points of the agents by their numbers, and how many pages there may be
pub record WorldState (T : Type 0) : Type 0 where
  pub pages : List (WorldPageState T)
  pub agents : List (Point T)
  pub limit : Option ℕ
