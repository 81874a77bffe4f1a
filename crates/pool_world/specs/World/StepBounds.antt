-- The second theorem: how many steps of its own an agent needs, whatever the others do meanwhile.
-- Begin here, with `BoundsOwnSteps`; `World.OwnSteps` says which steps are an agent's own.
use Rattle.std.specs.Prelude.{◌≡◌, ℕ, ◌-◌, ◌*◌, ◌<◌, Option, Some, None, slice_get}
use Rattle.pool_world.specs.declared.interleave.point.Point.TheVariants.{Reading, AtLink}
use Rattle.pool_world.specs.World.State.{WorldState}
use Rattle.pool_world.specs.World.Trace.{Log}
use Rattle.pool_world.specs.World.Headline.{Executes, IsReachable}
use Rattle.pool_world.specs.World.OwnSteps.{own_steps, IsAtPage, IsAtHintedPage, IsLooking}
use Rattle.pool_world.specs.World.Solo.{IsOwnEvent, AsksNoHint, EachEvent, RunsSolo, RunsSoloByHint, StepsInOrder}

-- events with their answers, between two worlds
pub record Segment (T : Type 0) : Type 0 where
  pub from : WorldState T
  pub log : Log T
  pub to : WorldState T

-- how many own steps an agent needs in a segment
pub record IsBounded {T : Type 0} (segment : Segment T) : Type 0 where
  -- an agent reads the word of a page once and then tries each of its 32 bits once at most, so that
  -- its 33rd own step is off the page at the latest: while it is on the page it took fewer
  pub per_page :
      (a k : ℕ) (asked : Option ℕ) → slice_get segment.from.agents a ≡ Some (Reading k asked)
      → IsAtPage k (slice_get segment.to.agents a) → own_steps segment.log a < 33
  -- so it is on the page that a hint names, which is read once too: while the agent is on it it
  -- took fewer
  pub per_hint :
      (a : ℕ) → slice_get segment.from.agents a ≡ Some (AtLink 0 None)
      → IsAtHintedPage (slice_get segment.to.agents a) → own_steps segment.log a < 33
  -- under a limit an agent takes 33 steps on each page and one at its link, and makes and links
  -- each page but the first by two more, which are 34 * limit + 2 * (limit - 1) in all: while it
  -- looks it took fewer
  pub bounded :
      (a limit : ℕ) → slice_get segment.from.agents a ≡ None → segment.to.limit ≡ Some limit
      → IsLooking (slice_get segment.to.agents a) → own_steps segment.log a < 36 * limit - 2
  -- an agent that has begun, and runs solo without a hint, has an item or is refused after so many
  -- steps
  pub alone :
      (a : ℕ) → slice_get segment.from.agents a ≡ Some (Reading 0 None) → EachEvent (IsOwnEvent a) segment.log
      → EachEvent AsksNoHint segment.log → RunsSolo segment.from segment.log segment.to a
  -- so it is where its events come one after another as its points allow them
  pub in_order :
      (a : ℕ) → slice_get segment.from.agents a ≡ Some (Reading 0 None) → EachEvent (IsOwnEvent a) segment.log
      → EachEvent AsksNoHint segment.log → StepsInOrder segment.from segment.log segment.to a
  -- an agent that runs solo, and may ask a page by a hint, has an item or is refused by one step
  -- more
  pub alone_by_hint :
      (a : ℕ) → slice_get segment.from.agents a ≡ Some (Reading 0 None) → EachEvent (IsOwnEvent a) segment.log
      → RunsSoloByHint segment.from segment.log a

module _ {T : Type 0} (Leaves : T → T → Type 0) where
  -- the segment lies between two worlds: steps lead to it from the one, and from it to the other
  pub record LiesBetween (from to : WorldState T) (segment : Segment T) : Type 0 where
    pub earlier : Log T
    pub before : Executes Leaves from earlier segment.from
    pub steps : Executes Leaves segment.from segment.log segment.to
    pub later : Log T
    pub after : Executes Leaves segment.to later to

  -- own steps are bounded on each segment of what led to this world, from whichever world that can
  -- be reached
  abbrev pub BoundsOwnSteps : WorldState T → Type 0
  BoundsOwnSteps world =
      (from : WorldState T) → IsReachable from → (segment : Segment T) → LiesBetween from world segment
      → IsBounded segment
