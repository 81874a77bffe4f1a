-- An agent that is about to link a page: the room that a world keeps for it, and its values.
use Rattle.std.specs.Prelude.{ℕ, ◌+◌, ◌<◌, Option, Some, None, List, ⊤}
use Rattle.pool_world.specs.declared.interleave.point.Point.{Point}
use Rattle.pool_world.specs.declared.interleave.point.Point.TheVariants.{Linking}

-- an agent that is about to link a page has room for it
abbrev pub HasLinkCapacity : {T : Type 0} → ℕ → Point T → Type 0
HasLinkCapacity capacity (Linking k values) = k + 1 < capacity
HasLinkCapacity capacity _ = ⊤

-- it isn't about to link a page
abbrev pub LinksNoPage : {T : Type 0} → Point T → Type 0
LinksNoPage (Linking k values) = ⊥
LinksNoPage _ = ⊤

-- the values that an agent has for a page of its own
abbrev pub prepared_by : {T : Type 0} → Option (Point T) → Option (List T)
prepared_by (Some (Linking k values)) = Some values
prepared_by _ = None
