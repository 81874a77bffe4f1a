-- Each step of the stack core is a case of the common relation,
-- and items that are held together each bring a room.
use Rattle.std.proofs.Common.{◌≡◌, ℕ, Option, Some, None, List, [], ◌∷◌, ◌++◌, Result, Ok, Err, slice_set, refl, ◌⊎◌}
use Rattle.std.proofs.Common.{subst, inl, inr}
use Rattle.std.specs.Prelude.{IsTrue}
use Rattle.std.specs.List.{slice_get}
use Rattle.std.proofs.lemmas.List.Elements.{All-nil}
use Rattle.pool_parts.specs.declared.pull_error.PullError.{PullError}
use Rattle.object_pool_cores.specs.declared.sequential.item.Item.{Item}
use Rattle.object_pool_cores.specs.declared.sequential.stack_core.StackCore.{StackCore}
use Rattle.object_pool_cores.specs.Item.{item_value, has_room, with_value}
use Rattle.object_pool_cores.specs.Bag.{PullsFromBag, ReturnsToBag, pulled_value}
use Rattle.object_pool_cores.specs.LastIn.{TakesFirst, StaysEmpty}
use Rattle.object_pool_cores.specs.LastIn.{PullsLast}
use Rattle.object_pool_cores.specs.Stack.{StackPulls, StackGives, HoldRooms, kept_of}
use Rattle.object_pool_cores.specs.Laws.HeldItems.{slice_get-from_set, slice_get-from_push}

module _ {T : Type 0} where
  taken_from_bag : (answers : Option T → Type 0) (old : List T) (v : T) (new : List T)
      → TakesFirst old v new ⊎ (StaysEmpty old new × answers (Some v)) → PullsFromBag answers old (Ok v) new
  taken_from_bag answers old v new (inl first) =
      inl (record { front = []; back = new; without = refl; within = first })
  taken_from_bag answers old v new (inr fresh) = inr (
    fresh.0.0,
    fresh.1,
    rw fresh.0.1 (All-nil (λ w. answers (Some w))),
  )

  pulled_from_bag : (answers : Option T → Type 0) (old : List T) (answer : Result (Item T) PullError)
      (new : List T) → PullsLast answers old answer new → PullsFromBag answers old (pulled_value answer) new
  pulled_from_bag answers old (Ok item) new pulled = taken_from_bag answers old (item_value item) new pulled.1
  pulled_from_bag answers old (Err cause) new pulled = pulled.0

  -- one item more, with its room
  pub HoldRooms-push : (held : List (Option (Item T))) (item : Item T) → HoldRooms held
      → IsTrue (has_room item) → HoldRooms (held ++ Some item ∷ [])
  HoldRooms-push held item rooms room index other e =
      elim (slice_get-from_push held index (Some item) (Some other) e) [
        | inl before ↦ rooms index other before
        | inr last ↦
            let same : item ≡ other = let s = last.1 in cc in
            rw same at room
      ]

  pub HoldRooms-less :
      (held : List (Option (Item T))) (index : ℕ) → HoldRooms held → HoldRooms (slice_set held index None)
  HoldRooms-less held index rooms at item e = elim (slice_get-from_set held index at None (Some item) e) [
    | inl here ↦ let never = here.1 in absurd cc
    | inr apart ↦ rooms at item apart.1
  ]

  pub HoldRooms-written : (held : List (Option (Item T))) (index : ℕ) (item : Item T) (value : T)
      → HoldRooms held → slice_get held index ≡ Some (Some item)
      → HoldRooms (slice_set held index (Some (with_value item value)))
  HoldRooms-written held index item value rooms here at other e =
      elim (slice_get-from_set held index at (Some (with_value item value)) (Some other) e) [
        | inl same ↦
            let written : with_value item value ≡ other = let s = same.1 in cc in
            subst (λ (one : Item T). IsTrue (has_room one)) written (rooms index item here)
        | inr apart ↦ rooms at other apart.1
      ]

module _ {T I R K : Type 0} where
  pub StackPulls-from_bag : (answers : Option T → Type 0) (old new : StackCore T I R K)
      (answer : Result (Item T) PullError) → StackPulls answers old answer new
      → PullsFromBag answers (kept_of old) (pulled_value answer) (kept_of new)
  StackPulls-from_bag answers old new answer pulls =
      pulled_from_bag answers (kept_of old) answer (kept_of new) pulls.pulled

  pub StackGives-to_bag : (leaves : T → T → Type 0) (old new : StackCore T I R K) (item : Item T)
      → StackGives leaves old item new → ReturnsToBag leaves (kept_of old) (item_value item) (kept_of new)
  StackGives-to_bag leaves old new item gives =
      let returned = gives.returned in
      inl (
        returned.0,
        returned.1,
        record { front = []; back = kept_of old; without = refl; within = returned.2 },
      )
