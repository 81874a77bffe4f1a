-- A fresh pull is a case of the common relation, with a bag that is always empty.
use Rattle.std.proofs.Common.{Option, Some, [], Result, Ok, Err, refl, inr}
use Rattle.std.proofs.lemmas.List.Elements.{All-nil}
use Rattle.pool_parts.specs.declared.pull_error.PullError.{PullError}
use Rattle.object_pool_cores.specs.declared.sequential.item.Item.{Item}
use Rattle.object_pool_cores.specs.declared.sequential.none_core.NoneCore.{NoneCore}
use Rattle.object_pool_cores.specs.Bag.{PullsFromBag, pulled_value}
use Rattle.object_pool_cores.specs.NoPool.{NonePulls}

module _ {T I : Type 0} where
  pub NonePulls-from_bag : (answers : Option T → Type 0) (old new : NoneCore T I)
      (answer : Result (Item T) PullError) → NonePulls answers old answer new
      → PullsFromBag answers [] (pulled_value answer) []
  NonePulls-from_bag answers old new (Ok item) pulls =
      inr (refl, pulls.1.1, All-nil (λ w. answers (Some w)))
  NonePulls-from_bag answers old new (Err cause) pulls = (refl, refl)
