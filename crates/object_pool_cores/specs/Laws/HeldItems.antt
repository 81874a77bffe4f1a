-- What a table holds at an index, after one change.
use Rattle.std.proofs.Common.{◌≡◌, ◌≢◌, ℕ, ◌<◌, suc, zero, Some, List, [], ◌∷◌, ◌++◌, length, slice_set, refl, sym, ap}
use Rattle.std.proofs.Common.{◌∙◌, inl, inr, ◌⊎◌, length-set, arith}
use Rattle.std.specs.List.{slice_get}
use Rattle.std.proofs.lemmas.Bool.{cases_eq}
use Rattle.std.proofs.lemmas.Option.{slice_get_within}
use Rattle.pool_world.proofs.Places.{slice_get-set_same, slice_get-set_other}

module _ {X : Type 0} where
  -- what is read of a list that was set at one place
  pub slice_get-from_set : (xs : List X) (n m : ℕ) (x y : X) → slice_get (slice_set xs n x) m ≡ Some y
      → ((m ≡ n) × (x ≡ y)) ⊎ ((m ≢ n) × (slice_get xs m ≡ Some y))
  slice_get-from_set xs n m x y e = elim (cases_eq m n) [
    | inl same ↦
        let within : n < length xs = let bound = slice_get_within (slice_set xs n x) m y e in
        let count = length-set xs n x in omega arith in
        let here : Some x ≡ Some y = sym (slice_get-set_same xs n x within)
        ∙ ap (slice_get (slice_set xs n x)) (sym same) ∙ e in
        inl (same, cc)
    | inr differ ↦ inr (differ, sym (slice_get-set_other xs n m x differ) ∙ e)
  ]

  -- what is read of a list with one element more
  pub slice_get-from_push : (xs : List X) (m : ℕ) (x y : X) → slice_get (xs ++ x ∷ []) m ≡ Some y
      → (slice_get xs m ≡ Some y) ⊎ ((m ≡ length xs) × (x ≡ y))
  slice_get-from_push [] zero x y e = inr (refl, cc)
  slice_get-from_push [] (suc m) x y e = absurd cc
  slice_get-from_push (z ∷ xs) zero x y e = inl e
  slice_get-from_push (z ∷ xs) (suc m) x y e = elim (slice_get-from_push xs m x y e) [
    | inl old ↦ inl old
    | inr last ↦ inr (ap suc last.0, last.1)
  ]
