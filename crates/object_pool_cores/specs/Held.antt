-- The items that a player holds, by their indexes.
use Rattle.std.specs.Prelude.{Option, None, List, ℕ, slice_get, unwrap_or}
use Rattle.object_pool_cores.specs.declared.sequential.item.Item.{Item}

module _ {T : Type 0} where
  -- the item that is held at an index, if there is one
  abbrev pub held_at : List (Option (Item T)) → ℕ → Option (Item T)
  held_at held index = unwrap_or (slice_get held index) None

-- a pool, and the table of the items that are held of it;
-- an index was given out where the table has a place for it
pub record Playing (P T : Type 0) : Type 0 where
  pub pool : P
  pub held : List (Option (Item T))
