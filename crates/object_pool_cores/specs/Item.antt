-- What an item shows: its value, its number where its pool numbers its items, and whether it brings
-- a room.
use Rattle.std.specs.Prelude.{ℕ, Option, Some, None, Bool, true, false}
use Rattle.object_pool_cores.specs.declared.sequential.item.Item.{Item}
use Rattle.object_pool_cores.specs.declared.sequential.item.Home.{Home}
use Rattle.object_pool_cores.specs.declared.sequential.item.Home.TheVariants.{Number, Room, Nowhere}

module _ {T : Type 0} where
  -- the value of an item
  abbrev pub item_value : Item T → T
  item_value item = item.value

  -- the number that a home has, if it has one
  abbrev pub home_number : Home T → Option ℕ
  home_number (Number n) = Some n
  home_number (Room room) = None
  home_number Nowhere = None

  -- the number of an item, if it has one
  abbrev pub item_number : Item T → Option ℕ
  item_number item = home_number item.home

  -- the home is a room of its own
  abbrev pub is_room : Home T → Bool
  is_room (Number n) = false
  is_room (Room room) = true
  is_room Nowhere = false

  -- the item brings a room of its own
  abbrev pub has_room : Item T → Bool
  has_room item = is_room item.home

  -- the item with another value
  abbrev pub with_value : Item T → T → Item T
  with_value item value = record item { value = value }
