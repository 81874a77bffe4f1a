-- Which events are enabled, and that exactly the others are answered so.
use Rattle.std.specs.Prelude.{◌≡◌, ◌↔◌, ◌<◌, Option, Some, None, length, Ok, Err, ⊤}
use Rattle.pool_parts.specs.declared.pull_error.PullError.TheVariants.{Memory, Init}
use Rattle.pool_world.specs.declared.interleave.event.Event.{Event}
use Rattle.pool_world.specs.declared.interleave.event.Event.TheVariants as event
use Rattle.pool_world.specs.declared.interleave.event.Seen.{Seen}
use Rattle.pool_world.specs.declared.interleave.event.Seen.TheVariants as seen
use Rattle.pool_world.specs.declared.interleave.point.Point.{Point}
use Rattle.pool_world.specs.declared.interleave.point.Point.TheVariants.{Reading, Clearing, AtLink}
use Rattle.pool_world.specs.declared.interleave.point.Point.TheVariants.{ClearingHinted, Making, Linking, Taken}
use Rattle.pool_world.specs.declared.interleave.point.Point.TheVariants.{Holding, Home}
use Rattle.pool_world.specs.World.State.{WorldState}
use Rattle.pool_world.specs.World.Machine.{point_of}

module _ {T : Type 0} where
  -- the event is enabled in this world, of an agent at this point; a hint may lead from the first
  -- link, to any linked page but the first
  abbrev pub IsEnabled : WorldState T → Event T → Option (Point T) → Type 0
  IsEnabled world event.Begin point = ⊤
  IsEnabled world (event.ReadMask a) (Some (Reading k asked)) = ⊤
  IsEnabled world (event.ReadHinted a hint) (Some (AtLink k None)) =
      (k ≡ 0) × (0 < hint) × (hint < length world.pages)
  IsEnabled world (event.ClearBit a) (Some (Clearing k mask asked)) = ⊤
  IsEnabled world (event.ClearBit a) (Some (ClearingHinted hint mask)) = ⊤
  IsEnabled world (event.ReadNext a) (Some (AtLink k asked)) = ⊤
  IsEnabled world (event.MakePage a (Ok values)) (Some (Making k)) = ⊤
  IsEnabled world (event.MakePage a (Err Memory)) (Some (Making k)) = ⊤
  IsEnabled world (event.MakePage a (Err Init)) (Some (Making k)) = ⊤
  IsEnabled world (event.ExchangeNext a) (Some (Linking k values)) = ⊤
  IsEnabled world (event.MoveOut a) (Some (Taken k id)) = ⊤
  IsEnabled world (event.Write a value) (Some (Holding k id old)) = ⊤
  IsEnabled world (event.MoveHome a) (Some (Holding k id value)) = ⊤
  IsEnabled world (event.OrMask a) (Some (Home k id)) = ⊤
  IsEnabled world _ _ = ⊥

  -- the answer is NotEnabled exactly where the event isn't enabled, and then nothing changes
  pub record IsExact (old : WorldState T) (e : Event T) (answer : Seen) (new : WorldState T) : Type 0 where
    pub enabled : (answer ≡ seen.NotEnabled) ↔ ¬ IsEnabled old e (point_of old e)
    pub unchanged : answer ≡ seen.NotEnabled → new ≡ old
