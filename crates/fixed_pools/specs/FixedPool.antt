-- What a fixed pool and its reusables show, and what its answers show: of a pull, of a refusal, of a return.
use Rattle.std.specs.Prelude.{◌≡◌, ◌⊎◌, ℕ, ◌+◌, ◌-◌, ◌*◌, ◌^◌, ◌<◌, ◌≤◌, List, Option, true}
use Rattle.atomic_table.specs.Seated.{TableId}
use Rattle.pool_parts.specs.Answers.{IsMadeOrReset}
use Rattle.pool_parts.specs.Item.{Item, PulledView, IsPulled}
use Rattle.pool_parts.specs.Ledger.{History, operations_of, WasFullBetween, WasOutBetween, returns_among}
use Rattle.pool_parts.specs.Page.{held_item, view_of}
use Rattle.pool_parts.specs.Slot.{KnowsMore}
use Rattle.pool_parts.specs.declared.page.note.PageNote.{PageNote}
use Rattle.pool_parts.specs.declared.page.user_view.UserView.{UserView}
use Rattle.fixed_pools.specs.declared.fixed_object_pool.FixedObjectPool.{FixedObjectPool}
use Rattle.fixed_pools.specs.declared.fixed_object_pool.items.FixedItems.{FixedItems}
use Rattle.pool_parts.specs.declared.page.holding.PulledItem.{PulledItem}

-- what a pool with one table shows
pub record FixedView (T R : Type 0) : Type 0 where
  -- which pool it is
  pub identity : TableId
  -- how many items it has, and how many pages they lie on
  pub items : ℕ
  pub pages : ℕ
  -- the values that the pool opened with, by number
  pub opening : List (Option T)
  -- what resets the pool's values
  pub reset : R

module _ {T I R K : Type 0} where
  -- what contracts see of a pool
  abbrev pub fixed_view : FixedObjectPool T I R K → FixedView T R
  fixed_view pool =
      let table = pool.items.shared.table.shared in
      record {
        identity = table.table_id;
        items = table.table_id.slots;
        pages = table.table_id.words;
        opening = table.key.values.value.items;
        reset = pool.reset;
      }

-- which pool these items are of
abbrev pub pool_of : {T K : Type 0} → FixedItems T K → TableId
pool_of items = items.shared.table.shared.table_id

module _ {T : Type 0} where
  -- how many returns came between two places of a pool's history
  abbrev pub returns_between : History T → History T → ℕ
  returns_between from to = returns_among (λ id. true) to - returns_among (λ id. true) from

  -- how many returns came within the last call of this user, since its first load
  abbrev pub returns_since : UserView T → ℕ
  returns_since known = returns_between known.at_load known.operations

  -- since some place of the history the pool was full at one moment; or 2^32 returns and more came since, which the
  -- counts of its words can't tell from none
  abbrev pub IsFullSince : ℕ → History T → UserView T → Type 0
  IsFullSince items from known =
      WasFullBetween known.opening from known.operations items ⊎ (2 ^ 32 ≤ returns_between from known.operations)

  -- a user that had read so many words and tried so many bits has read so many more words at most, and tried 32 bits
  -- more for each at most
  pub record IsWithin (words read tried : ℕ) (known : UserView T) : Type 0 where
    pub loads : known.loads ≤ read + words
    pub tries : known.tries ≤ tried + 32 * words

  -- what a pull of this pool's items gives to a user that had known this before, by so many passes at most: an item,
  -- whose value meets the condition of what the pool keeps
  pub record PullsItem (meets : T → Type 0) (pool : TableId) (passes : ℕ) (before : UserView T)
      (item : PulledItem T T) : Type 0 where
    pub pulled : IsPulled pool before (held_item item.holding item.value)
    pub meets_condition : meets item.value
    -- it read each word of the pool once in a pass at most, and tried each bit of it once
    pub steps : IsWithin (pool.words * passes) before.loads before.tries (view_of item.holding.seat)

  -- a pull of one pass was refused: each item of this pool was seen in use in it, by a user that had known this before
  -- and now knows this
  pub record IsBusy (pool : TableId) (before : UserView T) (page : TableId) (known : UserView T) : Type 0 where
    pub of_pool : page ≡ pool
    pub knows : KnowsMore before known
    -- each item was out at some place between the call's first load and now
    pub each_was_out : (id : ℕ) → id < pool.slots → WasOutBetween before.opening known.at_load known.operations id
    -- it read each word of the pool once at most, and tried each bit of it once
    pub loads : known.loads ≤ before.loads + pool.words
    pub tries : known.tries ≤ before.tries + 32 * pool.words

  -- a pull was refused: since its first load, which stands after all that its user had known, this pool was full
  pub record IsFullNote (pool : TableId) (before : UserView T) (note : PageNote T) : Type 0 where
    pub of_pool : note.seat.table_id ≡ pool
    pub knows : KnowsMore before (view_of note.seat)
    pub full : IsFullSince pool.slots (view_of note.seat).at_load (view_of note.seat)
    -- its user did nothing
    pub same_operations : operations_of (view_of note.seat).user (view_of note.seat).operations
        ≡ operations_of before.user before.operations
    -- it made two passes at most, and one more for each return since its first load
    pub steps : IsWithin (pool.words * (returns_since (view_of note.seat) + 2)) before.loads before.tries
        (view_of note.seat)

module _ {T I R K : Type 0} where
  -- what a pull of this pool gives to a user that had known this before, by so many passes at most: an item, whose
  -- value meets the pool's condition, and was made by init or left by reset
  pub record Pulls (meets : T → Type 0) (answers : I → Option T → Type 0) (leaves : R → T → T → Type 0)
      (pool : FixedObjectPool T I R K) (passes : ℕ) (before : UserView T) (item : Item T) (known : UserView T)
      : Type 0 where
    pub pulled : IsPulled (fixed_view pool).identity before item
    pub meets_condition : meets item.value
    pub made_or_reset : IsMadeOrReset answers leaves item.value
    -- it read each word of the pool once in a pass at most, and tried each bit of it once
    pub loads : known.loads ≤ before.loads + (fixed_view pool).pages * passes
    pub tries : known.tries ≤ before.tries + 32 * ((fixed_view pool).pages * passes)

-- a reusable is of the same item and pool as before
pub record IsSame {P T V : Type 0} (old new : PulledView P T V) : Type 0 where
  pub item : new.item ≡ old.item
  pub pool : new.pool ≡ old.pool

-- a reusable with another value
abbrev pub with_value : {P T : Type 0} → PulledView P T T → T → PulledView P T T
with_value reusable value = record reusable { item = record reusable.item { value = value }; value = value }
