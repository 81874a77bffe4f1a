-- What the sequential pools have in common: a bag of kept values.
use Rattle.std.specs.Prelude.{◌≡◌, Option, Some, List, [], ◌∷◌, ◌++◌, All, Result, Ok, Err, ◌⊎◌}
use Rattle.pool_parts.specs.declared.pull_error.PullError.{PullError}
use Rattle.object_pool_cores.specs.declared.sequential.item.Item.{Item}
use Rattle.object_pool_cores.specs.Item.{item_value}

module _ {T : Type 0} where
  -- the value of the item that a pull gave, or why it was refused
  abbrev pub pulled_value : Result (Item T) PullError → Result T PullError
  pulled_value (Ok item) = Ok (item_value item)
  pulled_value (Err cause) = Err cause

  -- the large bag is the small one and this value, which stands somewhere in it
  pub record IsPutIn (v : T) (small large : List T) : Type 0 where
    pub front : List T
    pub back : List T
    pub without : small ≡ front ++ back
    pub within : large ≡ front ++ v ∷ back

  -- a pull takes some kept value. Where none is kept it gives an answer of init, while further
  -- answers may enter the bag, or is refused
  abbrev pub PullsFromBag : (Option T → Type 0) → List T → Result T PullError → List T → Type 0
  PullsFromBag answers old (Ok v) new =
      IsPutIn v new old ⊎ ((old ≡ []) × answers (Some v) × All (λ w. answers (Some w)) new)
  PullsFromBag answers old (Err cause) new = (old ≡ []) × (new ≡ [])

  -- a return adds what reset left, or drops the item
  abbrev pub ReturnsToBag : (T → T → Type 0) → List T → T → List T → Type 0
  ReturnsToBag leaves old v new = ((kept : T) × leaves v kept × IsPutIn kept old new) ⊎ (new ≡ old)
