-- The values of the free items of a list, when one place changes.
use Rattle.std.proofs.Common.{◌≡◌, ℕ, suc, zero, Option, Some, None, List, [], ◌∷◌, slice_set, refl, sym, ap}
use Rattle.std.specs.List.{slice_get}
use Rattle.std.specs.Prelude.{All}
use Rattle.std.proofs.lemmas.List.Elements.{All-nil, All-cons}
use Rattle.object_pool_cores.specs.Bag.{IsPutIn}
use Rattle.pool_world.specs.Pool.{place_of}
use Rattle.object_pool_cores.specs.Inside.Numbered.{free_values}
use Rattle.pool_world.proofs.Places.{place_of-there}

module _ {T : Type 0} where
  place_of-same : (a b : Option T) → place_of (Some a) ≡ place_of (Some b) → a ≡ b
  place_of-same None None e = refl
  place_of-same None (Some w) e = cc
  place_of-same (Some v) None e = cc
  place_of-same (Some v) (Some w) e = cc

  -- lists with the same places are the same
  pub same_places :
      (xs ys : List (Option T)) → ((n : ℕ) → place_of (slice_get xs n) ≡ place_of (slice_get ys n)) → xs ≡ ys
  same_places [] [] same = refl
  same_places [] (y ∷ ys) same = absurd (place_of-there y (sym (same 0)))
  same_places (x ∷ xs) [] same = absurd (place_of-there x (same 0))
  same_places (x ∷ xs) (y ∷ ys) same =
      let head = place_of-same x y (same 0) in
      let tail = same_places xs ys (λ n. same (suc n)) in cc

  IsPutIn-behind :
      (v w : T) (small large : List T) → IsPutIn v small large → IsPutIn v (w ∷ small) (w ∷ large)
  IsPutIn-behind v w small large it = record {
    front = w ∷ it.front;
    back = it.back;
    without = ap
        (λ xs. w ∷ xs) it.without;
    within = ap (λ xs. w ∷ xs) it.within;
  }

  -- a value that leaves its place leaves the bag
  pub free_values-taken : (places : List (Option T)) (n : ℕ) (v : T) → slice_get places n ≡ Some (Some v)
      → IsPutIn v (free_values (slice_set places n None)) (free_values places)
  free_values-taken [] n v e = absurd cc
  free_values-taken (None ∷ places) zero v e = absurd cc
  free_values-taken (Some w ∷ places) zero v e =
      let same : w ≡ v = cc in record {
        front = [];
        back = free_values places;
        without = refl;
        within = ap
            (λ x. x ∷ free_values places) same;
      }
  free_values-taken (None ∷ places) (suc n) v e = free_values-taken places n v e
  free_values-taken (Some w ∷ places) (suc n) v e = IsPutIn-behind v w (free_values (slice_set places n None))
      (free_values places) (free_values-taken places n v e)

  -- a value that comes to an empty place comes into the bag
  pub free_values-put : (places : List (Option T)) (n : ℕ) (v : T) → slice_get places n ≡ Some None
      → IsPutIn v (free_values places) (free_values (slice_set places n (Some v)))
  free_values-put [] n v e = absurd cc
  free_values-put (None ∷ places) zero v e =
      record { front = []; back = free_values places; without = refl; within = refl }
  free_values-put (Some w ∷ places) zero v e = absurd cc
  free_values-put (None ∷ places) (suc n) v e = free_values-put places n v e
  free_values-put (Some w ∷ places) (suc n) v e = IsPutIn-behind v w (free_values places)
      (free_values (slice_set places n (Some v))) (free_values-put places n v e)

  pub free_values-none : (places : List (Option T))
      → ((n : ℕ) (v : T) → slice_get places n ≡ Some (Some v) → ⊥) → free_values places ≡ []
  free_values-none [] none = refl
  free_values-none (None ∷ places) none = free_values-none places (λ n v e. none (suc n) v e)
  free_values-none (Some w ∷ places) none = absurd (none 0 w refl)

  pub free_values-All : (P : T → Type 0) (places : List (Option T))
      → ((n : ℕ) (v : T) → slice_get places n ≡ Some (Some v) → P v) → All P (free_values places)
  free_values-All P [] each = All-nil P
  free_values-All P (None ∷ places) each = free_values-All P places (λ n v e. each (suc n) v e)
  free_values-All P (Some w ∷ places) each =
      All-cons P w (free_values places) (each 0 w refl) (free_values-All P places (λ n v e. each (suc n) v e))
