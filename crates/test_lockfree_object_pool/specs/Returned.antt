-- What a history ends with, and which return a pulled value comes from.
use Rattle.std.specs.Prelude.{◌≡◌, ◌⊎◌, ℕ, [], ◌∷◌, ◌++◌}
use Rattle.lockfree_object_pool.specs.Item.{Item}
use Rattle.lockfree_object_pool.specs.Ledger.{History, id_of, WasReturned}
use Rattle.pool_parts.specs.declared.page.history.Operation.TheVariants.{Pull, Return}

-- its last operation is a return of this value
abbrev pub EndsWithReturn : ℕ → History ℕ → Type 0
EndsWithReturn value history = (user id : ℕ) × (before : History ℕ) × (history ≡ Return user id value ∷ before)

-- its last operation is a return of this number with this value
abbrev pub EndsWithReturnOf : ℕ → ℕ → History ℕ → Type 0
EndsWithReturnOf id value history = (user : ℕ) × (before : History ℕ) × (history ≡ Return user id value ∷ before)

-- the item's value is what the last return of its number before the pull brought home
abbrev pub WasReturnedBefore : Item ℕ → Type 0
WasReturnedBefore item = (before : History ℕ) × (item.history ≡ Pull item.holder item.id item.value ∷ before)
    × WasReturned before item.id item.value

-- one of the operations is on this number
abbrev pub HasOperationOn : ℕ → History ℕ → Type 0
HasOperationOn id [] = ⊥
HasOperationOn id (operation ∷ before) = (id_of operation ≡ id) ⊎ HasOperationOn id before

-- somebody had the item between this part of the history and the pull
abbrev pub WasUsedSince : History ℕ → Item ℕ → Type 0
WasUsedSince earlier item = (between : History ℕ)
    × (item.history ≡ Pull item.holder item.id item.value ∷ between ++ earlier) × HasOperationOn item.id between
