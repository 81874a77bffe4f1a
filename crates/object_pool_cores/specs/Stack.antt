-- The steps of the stack core: last in, first out.
use Rattle.std.specs.Prelude.{◌≡◌, ℕ, Option, Some, List, Result, IsTrue, IfOk, slice_get}
use Rattle.pool_parts.specs.declared.pull_error.PullError.{PullError}
use Rattle.object_pool_cores.specs.declared.sequential.item.Item.{Item}
use Rattle.object_pool_cores.specs.declared.sequential.attach_error.AttachError.{AttachError}
use Rattle.object_pool_cores.specs.declared.sequential.stack_core.StackCore.{StackCore}
use Rattle.object_pool_cores.specs.Item.{has_room}
use Rattle.object_pool_cores.specs.LastIn.{PullsLast, ReturnsLast, AttachesLast}

module _ {T I R K : Type 0} where
  -- the kept values, last returned first
  abbrev pub kept_of : StackCore T I R K → List T
  kept_of core = core.kept

  -- what makes the values of a core
  abbrev pub stack_init : StackCore T I R K → I
  stack_init core = core.init

  -- what resets the values that are returned to it
  abbrev pub stack_reset : StackCore T I R K → R
  stack_reset core = core.reset

  -- what makes and resets the values stays
  pub record IsStackStep (old new : StackCore T I R K) : Type 0 where
    pub init : stack_init new ≡ stack_init old
    pub reset : stack_reset new ≡ stack_reset old

  -- a pull is that of a stack, and its item brings a room
  pub record StackPulls (answers : Option T → Type 0) (old : StackCore T I R K)
      (answer : Result (Item T) PullError) (new : StackCore T I R K) : Type 0 where
    pub step : IsStackStep old new
    pub room : IfOk answer (λ item. IsTrue (has_room item))
    pub pulled : PullsLast answers (kept_of old) answer (kept_of new)

  -- a return is that of a stack
  pub record StackGives (leaves : T → T → Type 0) (old : StackCore T I R K) (item : Item T)
      (new : StackCore T I R K) : Type 0 where
    pub step : IsStackStep old new
    pub returned : ReturnsLast leaves (kept_of old) item (kept_of new)

  -- an attach is that of a stack, and its item brings a room
  pub record StackAttaches (old : StackCore T I R K) (value : T) (answer : Result (Item T) (AttachError T))
      (new : StackCore T I R K) : Type 0 where
    pub same : new ≡ old
    pub room : IfOk answer (λ item. IsTrue (has_room item))
    pub attached : AttachesLast (kept_of old) value answer (kept_of new)

-- items that are held together each bring a room
abbrev pub HoldRooms : {T : Type 0} → List (Option (Item T)) → Type 0
HoldRooms held = (index : ℕ) (item : _) → slice_get held index ≡ Some (Some item) → IsTrue (has_room item)
