-- Each step of the linear core is a case of the common relation.
use Rattle.std.proofs.Common.{◌≡◌, ℕ, ◌-◌, ◌*◌, ◌<◌, Option, Some, None, [], length, Result, Ok, Err, slice_set, sym}
use Rattle.std.proofs.Common.{All}
use Rattle.std.proofs.Common.{ap, ◌∙◌, inl, inr}
use Rattle.std.specs.List.{slice_get}
use Rattle.std.proofs.lemmas.Option.{get_or_from_slice_get, slice_get_within}
use Rattle.pool_parts.specs.declared.pull_error.PullError.{PullError}
use Rattle.object_pool_cores.specs.declared.sequential.item.Item.{Item}
use Rattle.object_pool_cores.specs.declared.sequential.linear_core.LinearCore.{LinearCore}
use Rattle.object_pool_cores.specs.Item.{item_value}
use Rattle.pool_world.specs.Pool.{Free, Out, IsSame, with_place, place_of, after_growth}
use Rattle.object_pool_cores.specs.LeastChoice.{IsExhausted, TakesLeast, GrowsFirst, PullsLeast, PullsItem}
use Rattle.object_pool_cores.specs.Bag.{IsPutIn, PullsFromBag, ReturnsToBag, pulled_value}
use Rattle.object_pool_cores.specs.Inside.Numbered.{Numbered, listed_pool, free_values}
use Rattle.object_pool_cores.specs.Linear.{LinearPulls, LinearGives}
use Rattle.object_pool_cores.specs.Laws.PoolSteps.{at-with_place, free-grown}
use Rattle.pool_world.proofs.Places.{place_of-free, place_of-out}
use Rattle.object_pool_cores.specs.Laws.NumberedPlaces.{listed_pool-set}
use Rattle.object_pool_cores.specs.Laws.FreeValues.{same_places, free_values-taken, free_values-put, free_values-none}
use Rattle.object_pool_cores.specs.Laws.FreeValues.{free_values-All}

module _ {T : Type 0} where
  -- the list of a pool that has another place at one number
  list_of-with_place : (old new : Numbered T) (n : ℕ) (place : Option T) → n < length old.places
      → IsSame (listed_pool new) (with_place (listed_pool old) n (place_of (Some place)))
      → new.places ≡ slice_set old.places n place
  list_of-with_place old new n place within same =
      let set = listed_pool-set old n place within in
      same_places new.places (slice_set old.places n place) (λ m. same.places m ∙ sym (set.places m))

  within_places : (items : Numbered T) (n : ℕ) (place : Option T) → slice_get items.places n ≡ Some place
      → n < length items.places
  within_places items n place e = slice_get_within items.places n place e

  -- where no number is free, no value is kept
  free_values-exhausted : (items : Numbered T) → IsExhausted (listed_pool items) → free_values items.places ≡ []
  free_values-exhausted items exhausted =
      free_values-none items.places (λ n v e. exhausted n v (ap place_of e))

  -- the least number was pulled
  IsPutIn-taken : (old new : Numbered T) (n : ℕ) (v : T) → TakesLeast (listed_pool old) n v (listed_pool new)
      → IsPutIn v (free_values new.places) (free_values old.places)
  IsPutIn-taken old new n v takes =
      let here = place_of-free (slice_get old.places n) v takes.free in
      let list = list_of-with_place old new n None (within_places old n (Some v) here) takes.taken in
      rw list (free_values-taken old.places n v here)

  -- a page more was pulled from
  fresh-grown : (limit : Option ℕ) (answers : Option T → Type 0) (old new : Numbered T) (n : ℕ) (v : T)
      → GrowsFirst limit answers (listed_pool old) n v (listed_pool new)
      → (free_values old.places ≡ []) × answers (Some v) × All (λ w. answers (Some w)) (free_values new.places)
  fresh-grown limit answers old new n v grows = (
    free_values-exhausted old grows.exhausted,
    answered n v grows.takes.free,
    free_values-All (λ w. answers (Some w)) new.places (λ m w e.
        elim (at-with_place (after_growth (listed_pool old) grows.values) n m Out (Free w)
        (sym (grows.takes.taken.places m) ∙ ap place_of e)) [
          | inl here ↦ let out : Out ≡ Free w = here.1 in absurd cc
          | inr other ↦ answered m w other.1
        ]),
  )
    where
      answered : (m : ℕ) (w : T) → (after_growth (listed_pool old) grows.values).at m ≡ Free w → answers (Some w)
      answered m w free =
          let there = free-grown (listed_pool old) grows.values m w grows.exhausted free in
          let k = m - 32 * (listed_pool old).pages in
          rw (get_or_from_slice_get grows.values k w w there.1) at
          (grows.answered k w (slice_get_within grows.values k w there.1))

  pulls_from_bag : (limit : Option ℕ) (answers : Option T → Type 0) (old new : Numbered T)
      (answer : Result (Item T) PullError) → PullsItem limit answers (listed_pool old) answer (listed_pool new)
      → PullsFromBag answers (free_values old.places) (pulled_value answer) (free_values new.places)
  pulls_from_bag limit answers old new (Ok item) pulled = by_choice pulled.2
    where
      by_choice : PullsLeast limit answers (listed_pool old) (Ok (pulled.0, item_value item)) (listed_pool new)
          → PullsFromBag answers (free_values old.places) (Ok (item_value item)) (free_values new.places)
      by_choice (inl takes) = inl (IsPutIn-taken old new pulled.0 (item_value item) takes)
      by_choice (inr grows) = inr (fresh-grown limit answers old new pulled.0 (item_value item) grows)
  pulls_from_bag limit answers old new (Err cause) refused = (
    free_values-exhausted old refused.exhausted,
    free_values-exhausted new
        (λ n v e. refused.exhausted n v (sym (refused.same.places n) ∙ e)),
  )

module _ {T I R K : Type 0} where
  pub LinearPulls-from_bag : (answers : Option T → Type 0) (old new : LinearCore T I R K)
      (answer : Result (Item T) PullError) → LinearPulls answers old answer new
      → PullsFromBag answers (free_values old.items.places) (pulled_value answer)
      (free_values new.items.places)
  LinearPulls-from_bag answers old new answer pulls =
      pulls_from_bag old.items.limit answers old.items new.items answer pulls.pulled

  pub LinearGives-to_bag : (leaves : T → T → Type 0) (old new : LinearCore T I R K) (item : Item T)
      → LinearGives leaves old item new → ReturnsToBag leaves (free_values old.items.places) (item_value item)
      (free_values new.items.places)
  LinearGives-to_bag leaves old new item gives =
      let here = place_of-out (slice_get old.items.places gives.returned.n) gives.returned.was_out in
      let list = list_of-with_place old.items new.items gives.returned.n (Some gives.returned.kept)
      (within_places old.items gives.returned.n None here) gives.returned.returned in
      inl (
        gives.returned.kept,
        gives.returned.left,
        rw list
            (free_values-put old.items.places gives.returned.n gives.returned.kept here),
      )
