-- For the proofs: which history leaves these values under the lock, and what each critical section adds to it.
use Rattle.std.specs.Prelude.{◌≡◌, List, [], ◌∷◌}
use Rattle.stack_pools.specs.declared.operation.Operation.{Operation}
use Rattle.stack_pools.specs.declared.operation.Operation.TheVariants.{Pulled, Missed, Kept, Counted}
use Rattle.stack_pools.specs.StackHistory.{kept_by, IsLegal}

module _ {T : Type 0} where
  -- a legal history leaves these values
  abbrev pub Leaves : List (Operation T) → List T → Type 0
  Leaves history values = IsLegal history × (values ≡ kept_by history)

  -- a pull where these values are kept
  abbrev pub pull_of : List T → Operation T
  pull_of [] = Missed
  pull_of (value ∷ _) = Pulled value

  -- what a return did that left these values
  abbrev pub return_to : List T → Operation T
  return_to [] = Counted
  return_to (value ∷ _) = Kept value
