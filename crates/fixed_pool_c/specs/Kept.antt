-- The places that a cache keeps.
use Rattle.std.specs.Prelude.{◌≡◌, ◌<◌, ⊤}
use Rattle.std.proofs.Props.{props}
use Rattle.atomic_table.specs.Seated.{TableId}
use Rattle.pool_parts.specs.Item.{same_page}
use Rattle.pool_parts.specs.declared.page.holding.Holding.{Holding}

-- the holder has an item of this pool
abbrev pub IsOfPool : TableId → Holding ⊤ → Type 0
IsOfPool pool holding = (holding.seat.table_id ≡ pool) × (holding.number < pool.slots)

pub ruleset kept_props = (props, same_page)
