-- Lists of items whose values meet a condition: how they come about, and what is known of each value.
use Rattle.std.proofs.Common.{◌≡◌, ℕ, zero, suc, ◌<◌, List, [], ◌∷◌, length, Option, Some, None, get_or}
use Rattle.std.proofs.Common.{arith, subst}
use Rattle.std.proofs.lemmas.List.Elements.{All-get_or}
use Rattle.std.specs.Prelude.{IsSomeAnd}
use Rattle.pool_parts.specs.Item.{IsFilled}

module _ {T : Type 0} where
  below_length : (items : List (Option T)) (id : ℕ) (value : T) → get_or items id None ≡ Some value → id < length items
  below_length [] id value at = absurd (cc)
  below_length (item ∷ items) zero value at = omega arith
  below_length (item ∷ items) (suc id) value at = let below = below_length items id value at in omega arith

  -- a value that lies at some id meets the condition
  pub filled_at : (made : T → Type 0) (count : ℕ) (items : List (Option T)) (id : ℕ) (value : T)
      → IsFilled count made items → get_or items id None ≡ Some value → made value
  filled_at made count items id value is at =
      subst (λ item. IsSomeAnd item made) at
      (All-get_or (λ item. IsSomeAnd item made) items id None (below_length items id value at) is.each)
