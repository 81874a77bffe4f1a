-- For the proofs: what the items of a page, or of a fixed pool, show to its steps.
use Rattle.std.specs.Prelude.{ℕ, List, Option}
use Rattle.atomic_table.specs.Seated.{TableId}
use Rattle.pool_parts.specs.declared.page.items.Items.{Items}

-- which items they are, the values that they opened with, by number, and by how much a return raises its word's count
pub record ItemsView (T : Type 0) : Type 0 where
  pub identity : TableId
  pub opening : List (Option T)
  pub raise : ℕ

-- what contracts see of the items of a page
abbrev pub items_view : {T K : Type 0} → Items T K → ItemsView T
items_view items =
    let table = items.table.shared in
    record { identity = table.table_id; opening = table.key.values.value.items; raise = table.key.raise.value }
