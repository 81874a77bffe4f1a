-- The room for links as agents move on.
use Rattle.std.proofs.Common.{◌≡◌, ℕ, ◌+◌, ◌<◌, ◌≤◌, Some, List, All, slice_get, slice_set, arith}
use Rattle.std.proofs.lemmas.List.Elements.{All-set, All-weaker, All-get_or}
use Rattle.std.proofs.lemmas.Option.{slice_get_within, get_or_from_slice_get}
use Rattle.pool_world.specs.declared.interleave.point.Point.{Point}
use Rattle.pool_world.specs.declared.interleave.point.Point.TheVariants.{Linking}
use Rattle.pool_world.specs.World.Inside.LinkCapacity.{HasLinkCapacity, LinksNoPage}

module _ {T : Type 0} where
  -- where no room is needed there is enough
  room_for : (capacity : ℕ) (point : Point T) → LinksNoPage point → HasLinkCapacity capacity point
  room_for capacity (Linking k values) needs = absurd needs
  room_for capacity _ needs = tt

  -- what was enough is enough where there is more
  more_room_for : (old new : ℕ) → old ≤ new → (point : Point T) → HasLinkCapacity old point
      → HasLinkCapacity new point
  more_room_for old new more (Linking k values) room = omega arith
  more_room_for old new more _ room = tt

  -- an agent may move to a point that needs no room
  pub room-moved : (capacity : ℕ) (agents : List (Point T)) (a : ℕ) (point : Point T)
      → All (HasLinkCapacity capacity) agents
      → LinksNoPage point → All (HasLinkCapacity capacity) (slice_set agents a point)
  room-moved capacity agents a point room needs =
      All-set (HasLinkCapacity capacity) agents a point (room_for capacity point needs) room

  -- there may be more room
  pub room-more : (old new : ℕ) (agents : List (Point T)) → old ≤ new → All (HasLinkCapacity old) agents
      → All (HasLinkCapacity new) agents
  room-more old new agents more room =
      All-weaker (HasLinkCapacity old) (HasLinkCapacity new) (more_room_for old new more) agents room

  -- an agent may come to link a page, where the room for it was made
  pub room-made : (old new : ℕ) (agents : List (Point T)) (a k : ℕ) (values : List T) → old ≤ new → k + 1 < new
      → All (HasLinkCapacity old) agents → All (HasLinkCapacity new) (slice_set agents a (Linking k values))
  room-made old new agents a k values more enough room =
      All-set (HasLinkCapacity new) agents a (Linking k values) enough (room-more old new agents more room)

  -- an agent that is about to link a page has room for it
  pub room-there : (capacity : ℕ) (agents : List (Point T)) (a k : ℕ) (values : List T)
      → All (HasLinkCapacity capacity) agents → slice_get agents a ≡ Some (Linking k values) → k + 1 < capacity
  room-there capacity agents a k values room at =
      let within = slice_get_within agents a (Linking k values) at in
      let here = All-get_or (HasLinkCapacity capacity) agents a (Linking k values) within room in
      rw (get_or_from_slice_get agents a (Linking k values) (Linking k values) at) at here
