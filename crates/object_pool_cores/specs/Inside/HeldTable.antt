-- The table of what is held, kept as a map from indexes to items, and how a value in it is
-- replaced.
use Rattle.std.specs.Prelude.{◌≡◌, ℕ, ◌≤◌, ◌-◌, ◌^◌, min, zero, suc, Option, None, List, [], ◌∷◌, ◌++◌, nat_eq}
use Rattle.std.specs.Prelude.{slice_set, Some, Bool, true, false}
use Rattle.std.specs.HashMap.{HashMap, get, spare}
use Rattle.object_pool_cores.specs.Item.{with_value}
use Rattle.object_pool_cores.specs.declared.sequential.item.Item.{Item}

-- what is held at each index that was given out, and how
-- many items more may be held without asking for memory
pub record HeldState (T : Type 0) : Type 0 where
  pub items : List (Option (Item T))
  pub spare : ℕ

-- what lies at each index below n, in order
abbrev pub listed : {X : Type 0} → (ℕ → Option X) → ℕ → List (Option X)
listed at zero = []
listed at (suc n) = listed at n ++ at n ∷ []

module _ {T : Type 0} where
  -- the value of the item that is held at an index is replaced, where there is one
  abbrev pub IsReplaced :
      List (Option (Item T)) → ℕ → T → Option (Item T) → Bool → List (Option (Item T)) → Type 0
  IsReplaced old index value None was_held new = (was_held ≡ false) × (new ≡ old)
  IsReplaced old index value (Some item) was_held new =
      (was_held ≡ true) × (new ≡ slice_set old index (Some (with_value item value)))

module _ {T S : Type 0} where
  -- what the map holds at each index that was given out
  abbrev pub table_of : HashMap ℕ (Item T) S → ℕ → List (Option (Item T))
  table_of items next = listed (get nat_eq items) next

  -- what the map has room for, and no more than the indexes that are left
  abbrev pub spare_of : HashMap ℕ (Item T) S → ℕ → ℕ
  spare_of items next = min (spare items) (2 ^ 64 - 1 - next)

  -- nothing is held at an index that wasn't given out
  abbrev pub IsBelow : HashMap ℕ (Item T) S → ℕ → Type 0
  IsBelow items next = (index : ℕ) → next ≤ index → get nat_eq items index ≡ None
