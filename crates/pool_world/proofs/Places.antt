-- What lies at a place of a list, and what place of a pool it is.
use Rattle.std.proofs.Common.{◌≡◌, ◌≢◌, ℕ, ◌+◌, ◌<◌, suc, zero, Option, Some, None, List, [], ◌∷◌, length, refl, ap}
use Rattle.std.proofs.Common.{arith, add-suc, slice_set, ◌++◌, inl, inr}
use Rattle.std.specs.List.{slice_get}
use Rattle.std.proofs.lemmas.Option.{slice_get_cases}
use Rattle.pool_world.specs.Pool.{Absent, Free, Out, place_of}

module _ {T : Type 0} where
  -- a free place has that value
  pub place_of-free : (place : Option (Option T)) (v : T) → place_of place ≡ Free v → place ≡ Some (Some v)
  place_of-free None v e = cc
  place_of-free (Some None) v e = cc
  place_of-free (Some (Some w)) v e = cc

  -- what stands in a list is a place
  pub place_of-there : (place : Option T) → place_of (Some place) ≢ Absent
  place_of-there None = λ e. cc
  place_of-there (Some v) = λ e. cc

  -- an out place holds nothing
  pub place_of-out : (place : Option (Option T)) → place_of place ≡ Out → place ≡ Some None
  place_of-out None e = cc
  place_of-out (Some None) e = refl
  place_of-out (Some (Some v)) e = cc

-- what lies at a place of a list that was set at one place, or that another list comes behind
module _ {X : Type 0} where
  pub slice_get-set_same :
      (xs : List X) (n : ℕ) (x : X) → n < length xs → slice_get (slice_set xs n x) n ≡ Some x
  slice_get-set_same [] n x within = absurd (omega arith)
  slice_get-set_same (y ∷ xs) zero x within = refl
  slice_get-set_same (y ∷ xs) (suc n) x within = slice_get-set_same xs n x (omega arith)

  pub slice_get-set_other :
      (xs : List X) (n m : ℕ) (x : X) → m ≢ n → slice_get (slice_set xs n x) m ≡ slice_get xs m
  slice_get-set_other [] n m x other = refl
  slice_get-set_other (y ∷ xs) zero zero x other = absurd (other refl)
  slice_get-set_other (y ∷ xs) zero (suc m) x other = refl
  slice_get-set_other (y ∷ xs) (suc n) zero x other = refl
  slice_get-set_other (y ∷ xs) (suc n) (suc m) x other = slice_get-set_other xs n m x (λ e. other (ap suc e))

  pub slice_get-some : (xs : List X) (n : ℕ) → n < length xs → (x : X) × (slice_get xs n ≡ Some x)
  slice_get-some xs n within = elim (slice_get_cases xs n).1 [
    | inl some ↦ (some.0, some.2)
    | inr none ↦ absurd (omega (arith, none.0))
  ]

  pub slice_get-append_front :
      (xs ys : List X) (n : ℕ) → n < length xs → slice_get (xs ++ ys) n ≡ slice_get xs n
  slice_get-append_front [] ys n within = absurd (omega arith)
  slice_get-append_front (x ∷ xs) ys zero within = refl
  slice_get-append_front (x ∷ xs) ys (suc n) within = slice_get-append_front xs ys n (omega arith)

  pub slice_get-append_back : (xs ys : List X) (n : ℕ) → slice_get (xs ++ ys) (n + length xs) ≡ slice_get ys n
  slice_get-append_back [] ys n = ap (slice_get ys) (omega arith)
  slice_get-append_back (x ∷ xs) ys n = rw add-suc (slice_get-append_back xs ys n)

  pub slice_get-append_last : (xs : List X) (last : X) → slice_get (xs ++ last ∷ []) (length xs) ≡ Some last
  slice_get-append_last [] last = refl
  slice_get-append_last (x ∷ xs) last = slice_get-append_last xs last
