-- The abstraction function: the pool that a world stands for.
use Rattle.std.specs.Prelude.{ℕ, ◌/◌, ◌%◌, Option, Some, None, slice_get, length, if◌then◌else◌}
use Rattle.std.specs.Option.{option_flatten}
use Rattle.pool_world.specs.Pool.{Place, Out, Absent, Pool, free_with}
use Rattle.pool_world.specs.World.State.{WorldPageState, WorldState}
use Rattle.pool_world.specs.World.Machine.{has_bit}
use Rattle.pool_parts.specs.declared.page.word.TheConstants.{PAGE_ITEMS}

module _ {T : Type 0} where
  -- what lies at an id of a page, if there is such a page: free with its value where the bit is set,
  -- out where it is clear
  abbrev pub place_on : Option (WorldPageState T) → ℕ → Place T
  place_on None id = Absent
  place_on (Some page) id =
      if has_bit page.word id then free_with (option_flatten (slice_get page.places id)) else Out

  -- the pool of a world
  abbrev pub abstract_pool : WorldState T → Pool T
  abstract_pool world =
      record {
        pages = length world.pages;
        at = λ n. place_on (slice_get world.pages (n / PAGE_ITEMS)) (n % PAGE_ITEMS);
      }
