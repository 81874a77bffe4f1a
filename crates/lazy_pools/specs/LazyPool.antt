-- What a pool shows whose items are made one at a time, and its reusables; and what its answers show.
use Rattle.std.specs.Prelude.{◌≡◌, ⊤, ℕ, List, Option, Some, MatchOption, IfSome}
use Rattle.atomic_table.specs.Seated.{TableId}
use Rattle.pool_parts.specs.Item.{Item, PulledView, IsPulled, new_user}
use Rattle.pool_parts.specs.Answers.{IsMadeOrReset}
use Rattle.pool_parts.specs.Page.{view_of, held_item, IsReturned}
use Rattle.pool_parts.specs.declared.page.note.PageNote.{PageNote}
use Rattle.pool_parts.specs.declared.pull_error.PullError.{PullError}
use Rattle.pool_parts.specs.declared.pull_error.PullError.TheVariants as cause
use Rattle.pool_parts.specs.Slot.{IsAllOut}
use Rattle.fixed_pools.specs.FixedPool.{IsFullNote}
use Rattle.pool_parts.specs.declared.page.holding.PulledItem.{PulledItem}
use Rattle.lazy_pools.specs.declared.lazy_object_pool.LazyObjectPool.{LazyObjectPool}
use Rattle.lazy_pools.specs.declared.lazy_object_pool.lazy_refused.LazyRefused.{LazyRefused}
use Rattle.lazy_pools.specs.declared.lazy_object_pool.lazy_refused.LazyRefused.TheVariants.{Busy, NotMade, Closed}
use Rattle.lazy_pools.specs.declared.lazy_object_pool.lazy_refused.NoPlace.{NoPlace}
use Rattle.lazy_pools.specs.declared.lazy_object_pool.lazy_refused.NoPlace.TheVariants as none
use Rattle.lazy_pools.specs.declared.lazy_object_pool.lazy_refused.PullWithError.{PullWithError}
use Rattle.lazy_pools.specs.declared.lazy_object_pool.lazy_refused.PullWithError.TheVariants as With

-- what contracts see of a pool
pub record LazyView (T I R : Type 0) : Type 0 where
  -- which pool it is
  pub identity : TableId
  -- how many items it may have, and how many pages their places lie on
  pub items : ℕ
  pub pages : ℕ
  -- what lay at its places at first, by number: none of them had a value
  pub opening : List (Option (Option T))
  -- what makes the pool's values, and what resets them
  pub init : I
  pub reset : R

module _ {T I R K : Type 0} where
  -- what contracts see of this pool
  abbrev pub lazy_view : LazyObjectPool T I R K → LazyView T I R
  lazy_view pool =
      let table = pool.places.shared.table.shared in
      record {
        identity = table.table_id;
        items = table.table_id.slots;
        pages = table.table_id.words;
        opening = table.key.values.value.items;
        init = pool.init;
        reset = pool.reset;
      }

module _ {T I R : Type 0} where
  -- a new user pulled an item of this pool: its value lay there, or this call made it, and it meets the pool's
  -- condition
  pub record PullsMade (meets : T → Type 0) (pool : LazyView T I R) (is_made : T → Type 0) (item : Item (Option T))
      (value : T) : Type 0 where
    -- what the pull found at the item's place
    pub found : Option T
    pub pulled : IsPulled pool.identity (new_user pool.opening item.holder) (record item { value = found })
    -- the value is what lay there, or else what this call made
    pub value_is : MatchOption found (is_made value) (λ kept. value ≡ kept)
    pub meets_condition : meets value

  -- what a pull of this pool gives to a new user: an item that lay there, or that this pool's init made now
  pub record Pulls (meets : T → Type 0) (answers : I → Option T → Type 0) (leaves : R → T → T → Type 0)
      (pool : LazyView T I R) (item : Item (Option T)) (value : T) : Type 0 where
    pub pulled : PullsMade meets pool (λ made. answers pool.init (Some made)) item value
    pub made_or_reset : IsMadeOrReset answers leaves value

  -- a place of this pool that a new user pulled: it is empty, or has a value that the pool keeps
  pub record IsPulledPlace (meets : T → Type 0) (answers : I → Option T → Type 0) (leaves : R → T → T → Type 0)
      (pool : LazyView T I R) (place : PulledItem (Option T) (Option T)) : Type 0 where
    pub pulled : IsPulled pool.identity (new_user pool.opening (view_of place.holding.seat).user)
        (held_item place.holding place.value)
    pub kept : IfSome place.value (λ value. meets value × IsMadeOrReset answers leaves value)

-- a pull of one pass gave no item: each was observed taken by it, init may answer None, or the pool was closed
abbrev pub RefusesOnePass : {T : Type 0} → TableId → List (Option (Option T)) → Type 0 → LazyRefused T → Type 0
RefusesOnePass pool opening may_answer_none (Busy busy) =
    IsAllOut pool.slots pool (new_user opening busy.known.user) busy
RefusesOnePass pool opening may_answer_none NotMade = may_answer_none
RefusesOnePass pool opening may_answer_none Closed = ⊤

-- a pull by a closure gave no item, only if it may lack memory or may find the pool full: it was so at one moment; or
-- the closure failed with this cause, or the pool was closed
abbrev pub RefusesWith : {T I R E : Type 0} → LazyView T I R → (may_lack_memory may_be_full : Type 0) → (E → Type 0)
    → PullWithError T E → Type 0
RefusesWith pool may_lack_memory may_be_full fails_with With.Memory = may_lack_memory
RefusesWith pool may_lack_memory may_be_full fails_with (With.Limit full) =
    may_be_full × IsFullNote pool.identity (new_user pool.opening (view_of full.seat).user) full
RefusesWith pool may_lack_memory may_be_full fails_with (With.Make cause) = fails_with cause
RefusesWith pool may_lack_memory may_be_full fails_with With.Closed = ⊤

-- a call took no place, only if it may find the pool full: it was so at one moment; or the pool was closed
abbrev pub TakesNone : {T I R : Type 0} → LazyView T I R → (may_be_full : Type 0) → NoPlace T → Type 0
TakesNone pool may_be_full (none.Full full) =
    may_be_full × IsFullNote pool.identity (new_user pool.opening (view_of full.seat).user) full
TakesNone pool may_be_full none.Closed = ⊤

-- the cause for which a pull fails that took no place, and that of a pull by a closure
abbrev pub cause_of : {T : Type 0} → NoPlace T → PullError
cause_of (none.Full full) = cause.Limit
cause_of none.Closed = cause.Closed

abbrev pub cause_with : {T E : Type 0} → NoPlace T → PullWithError T E
cause_with (none.Full full) = With.Limit full
cause_with none.Closed = With.Closed

-- an item was returned with exactly what its pool's reset left of its value, or without one if it rejected that value
pub record IsBroughtBack {T : Type 0} (leaves : T → T → Type 0) (rejects : T → Type 0) (item : Item (Option T))
    (value : T) (note : PageNote (Option T)) : Type 0 where
  pub left : Option T
  pub by_reset : MatchOption left (rejects value) (λ new. leaves value new)
  pub returned : IsReturned (record item { value = left }) note

-- a reusable with another value
abbrev pub with_value : {P T : Type 0} → PulledView P (Option T) T → T → PulledView P (Option T) T
with_value reusable value = record reusable { item = record reusable.item { value = Some value }; value = value }
