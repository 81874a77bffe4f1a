-- What a stack pool and its reusables show, and a lock's guard.
use Rattle.std.specs.Prelude.{Option, Some}
use Rattle.atomic_table.specs.Seated.{TableId}
use Rattle.history_lock.specs.History.{Known}
use Rattle.pool_parts.specs.Answers.{IsMadeOrReset}
use Rattle.stack_pools.specs.StackHistory.{IsPull}
use Rattle.stack_pools.specs.declared.operation.Operation.{Operation}
use Rattle.stack_pools.specs.declared.stack_object_pool.StackObjectPool.{StackObjectPool}

-- what a stack pool shows: what makes its values, what resets them, and the list in which it keeps them
pub record StackView (I R F : Type 0) : Type 0 where
  pub init : I
  pub reset : R
  pub list : F

module _ {T I R K F : Type 0} where
  -- what contracts see of a pool
  abbrev pub stack_view : StackObjectPool T I R K F → StackView I R F
  stack_view pool = record { init = pool.init; reset = pool.reset; list = pool.kept }

-- what a pull gives whose pool has this init: a value that meets the pool's condition, and that an init made or a reset
-- left; it was kept last, or this init made it where nothing was kept
pub record Pulls {T I R : Type 0} (meets : T → Type 0) (answers : I → Option T → Type 0) (leaves : R → T → T → Type 0)
    (init : I) (value : T) (note : Option (Known (Operation T))) : Type 0 where
  pub meets_condition : meets value
  pub made_or_reset : IsMadeOrReset answers leaves value
  pub kept_or_made : IsPull (λ made. answers init (Some made)) value note

-- what a spin lock's guard shows: the lock, and the value that it has
pub record GuardView (T : Type 0) : Type 0 where
  pub lock : TableId
  pub value : T
