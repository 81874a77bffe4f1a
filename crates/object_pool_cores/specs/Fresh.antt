-- Pulls without a pool: each item is fresh, and a return drops it.
use Rattle.std.specs.Prelude.{◌≡◌, Option, Some, None, Result, Ok, Err}
use Rattle.pool_parts.specs.declared.pull_error.PullError.{PullError}
use Rattle.pool_parts.specs.declared.pull_error.PullError.TheVariants.{Init}
use Rattle.object_pool_cores.specs.declared.sequential.item.Item.{Item}
use Rattle.object_pool_cores.specs.Item.{item_value, item_number}

-- a pull gives an answer of init, without a number, or is refused where init may answer None
abbrev pub PullsFresh : {T : Type 0} → (Option T → Type 0) → Result (Item T) PullError → Type 0
PullsFresh answers (Ok item) = (item_number item ≡ None) × answers (Some (item_value item))
PullsFresh answers (Err cause) = (cause ≡ Init) × answers None
