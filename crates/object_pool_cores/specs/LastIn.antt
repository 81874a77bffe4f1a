-- A stack: a list of kept values, last returned first.
use Rattle.std.specs.Prelude.{◌≡◌, Option, Some, None, List, Result, Ok, Err, ◌⊎◌, ⊤, ◌∷◌, []}
use Rattle.pool_parts.specs.declared.pull_error.PullError.{PullError}
use Rattle.pool_parts.specs.Answers.{Refuses}
use Rattle.object_pool_cores.specs.declared.sequential.item.Item.{Item}
use Rattle.object_pool_cores.specs.declared.sequential.attach_error.AttachError.{AttachError}
use Rattle.object_pool_cores.specs.declared.sequential.attach_error.AttachError.TheVariants.{Memory}
use Rattle.object_pool_cores.specs.Item.{item_value, item_number}

module _ {T : Type 0} where
  -- a pull takes the first value
  abbrev pub TakesFirst : List T → T → List T → Type 0
  TakesFirst old value new = old ≡ value ∷ new

  -- nothing is kept, before and after
  abbrev pub StaysEmpty : List T → List T → Type 0
  StaysEmpty old new = (old ≡ []) × (new ≡ [])

  -- a return puts a value in front
  abbrev pub PutsInFront : List T → T → List T → Type 0
  PutsInFront old value new = new ≡ value ∷ old

module _ {T : Type 0} where
  -- a pull gives an item without a number: the first value, or where nothing is kept an answer of
  -- init. Only where nothing is kept it is refused
  abbrev pub PullsLast : (Option T → Type 0) → List T → Result (Item T) PullError → List T → Type 0
  PullsLast answers old (Ok item) new =
      (item_number item ≡ None)
      × (TakesFirst old (item_value item) new ⊎ (StaysEmpty old new × answers (Some (item_value item))))
  PullsLast answers old (Err cause) new = StaysEmpty old new × Refuses ⊤ (answers None) ⊥ cause

  -- a return puts what reset left in front
  abbrev pub ReturnsLast : (T → T → Type 0) → List T → Item T → List T → Type 0
  ReturnsLast leaves old item new = (kept : T) × leaves (item_value item) kept × PutsInFront old kept new

  -- an attach gives an item with the value, or is refused for memory; the list stays
  abbrev pub AttachesLast : List T → T → Result (Item T) (AttachError T) → List T → Type 0
  AttachesLast old v (Ok item) new = (item_number item ≡ None) × (item_value item ≡ v) × (new ≡ old)
  AttachesLast old v (Err error) new = (error ≡ Memory v) × (new ≡ old)
