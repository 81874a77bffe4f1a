-- The steps of the core that keeps nothing.
use Rattle.std.specs.Prelude.{◌≡◌, Option, Result}
use Rattle.pool_parts.specs.declared.pull_error.PullError.{PullError}
use Rattle.object_pool_cores.specs.declared.sequential.item.Item.{Item}
use Rattle.object_pool_cores.specs.declared.sequential.none_core.NoneCore.{NoneCore}
use Rattle.object_pool_cores.specs.Fresh.{PullsFresh}

module _ {T I : Type 0} where
  -- what makes the values of a core
  abbrev pub none_init : NoneCore T I → I
  none_init core = core.init

  -- a pull is fresh, and what makes the values stays
  abbrev pub NonePulls : (Option T → Type 0) → NoneCore T I → Result (Item T) PullError → NoneCore T I → Type 0
  NonePulls answers old answer new = (new ≡ old) × PullsFresh answers answer
