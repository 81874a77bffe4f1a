-- For how many agents and pages a world has memory.
use Rattle.std.specs.Prelude.{ℕ, ◌<◌, ◌≤◌, length, Ok, ⊤}
use Rattle.pool_world.specs.declared.interleave.event.Event.{Event}
use Rattle.pool_world.specs.declared.interleave.event.Event.TheVariants as event
use Rattle.pool_world.specs.declared.interleave.event.Seen.{Seen}
use Rattle.pool_world.specs.declared.interleave.event.Seen.TheVariants as seen
use Rattle.pool_world.specs.World.State.{WorldState}

-- how many agents and how many pages there can be before memory is taken for more
pub record Capacity : Type 0 where
  pub agents : ℕ
  pub pages : ℕ

-- none of it is given up
pub record KeepsCapacity (old new : Capacity) : Type 0 where
  pub agents : old.agents ≤ new.agents
  pub pages : old.pages ≤ new.pages

module _ {T : Type 0} where
  -- there is room for what the event may add: for one agent more, or for the page that an agent
  -- makes
  abbrev pub HasCapacityFor : Capacity → WorldState T → Event T → Type 0
  HasCapacityFor capacity world event.Begin = length world.agents < capacity.agents
  HasCapacityFor capacity world (event.MakePage a (Ok values)) = length world.pages < capacity.pages
  HasCapacityFor capacity world _ = ⊤

  -- where an agent has just made a page, there is room for one
  abbrev pub HasCapacityForMade : Capacity → WorldState T → Seen → Type 0
  HasCapacityForMade capacity world (seen.Made a) = length world.pages < capacity.pages
  HasCapacityForMade capacity world _ = ⊤
