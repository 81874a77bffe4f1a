-- The steps of the linear core, by the pool that it stands for: a pull by least choice, and a
-- return.
use Rattle.std.specs.Prelude.{◌≡◌, ℕ, ◌+◌, ◌-◌, ◌/◌, ◌≤◌, min, Option, Some, IfSome, List, Result, slice_get}
use Rattle.pool_parts.specs.declared.pull_error.PullError.{PullError}
use Rattle.object_pool_cores.specs.declared.sequential.item.Item.{Item}
use Rattle.object_pool_cores.specs.declared.sequential.linear_core.LinearCore.{LinearCore}
use Rattle.object_pool_cores.specs.Item.{item_number}
use Rattle.pool_world.specs.Pool.{Pool, Out, IsPool, IsSame, opening}
use Rattle.object_pool_cores.specs.LeastChoice.{PullsItem, ReturnsItem}
use Rattle.object_pool_cores.specs.OnePage.{ArePageAnswers}
use Rattle.object_pool_cores.specs.PageProbes.{ProbesEach}
use Rattle.object_pool_cores.specs.Inside.Numbered as numbered
use Rattle.pool_parts.specs.declared.page.word.TheConstants.{PAGE_ITEMS}

module _ {T I R K : Type 0} where
  -- the pool that a core stands for
  abbrev pub core_pool : LinearCore T I R K → Pool T
  core_pool core = numbered.listed_pool core.items

  -- how many pages a core may have
  abbrev pub limit_of : LinearCore T I R K → Option ℕ
  limit_of core = core.items.limit

  -- how many pages its pulls probed
  abbrev pub looked_of : LinearCore T I R K → ℕ
  looked_of core = core.items.looked

  -- the page at which its next pull starts to probe
  abbrev pub start_page_of : LinearCore T I R K → ℕ
  start_page_of core = core.items.start

  -- what makes the values of a core
  abbrev pub linear_init : LinearCore T I R K → I
  linear_init core = core.init

  -- what resets the values that are returned to it
  abbrev pub linear_reset : LinearCore T I R K → R
  linear_reset core = core.reset

  -- both stand for pools within the limit, and what makes and resets their values stays
  pub record IsLinearStep (old new : LinearCore T I R K) : Type 0 where
    pub before : IsPool (limit_of old) (core_pool old)
    pub after : IsPool (limit_of new) (core_pool new)
    pub limit : limit_of new ≡ limit_of old
    pub init : linear_init new ≡ linear_init old
    pub reset : linear_reset new ≡ linear_reset old

  -- the number of an item is out
  abbrev pub IsOutOf : LinearCore T I R K → Item T → Type 0
  IsOutOf core item = (n : ℕ) × (item_number item ≡ Some n) × ((core_pool core).at n ≡ Out)

  -- a pull is by least choice
  pub record LinearPulls (answers : Option T → Type 0) (old : LinearCore T I R K)
      (answer : Result (Item T) PullError) (new : LinearCore T I R K) : Type 0 where
    pub step : IsLinearStep old new
    pub pulled : PullsItem (limit_of old) answers (core_pool old) answer (core_pool new)

  -- a return leaves at the item's number what reset may make of its value
  pub record LinearGives (leaves : T → T → Type 0) (old : LinearCore T I R K) (item : Item T)
      (new : LinearCore T I R K) : Type 0 where
    pub step : IsLinearStep old new
    pub returned : ReturnsItem leaves (core_pool old) item (core_pool new)

  -- a pull that took an item probed each page from its start up to the item's, where the next pull
  -- starts
  pub record ProbesUpTo (old : LinearCore T I R K) (item : Item T) (new : LinearCore T I R K) : Type 0 where
    pub onward : start_page_of old ≤ start_page_of new
    pub stops : IfSome (item_number item) (λ n. start_page_of new ≡ n / PAGE_ITEMS)
    pub each : ProbesEach (start_page_of new - start_page_of old + 1) (looked_of old) (looked_of new)

  -- a pull that took none probed each page from its start on, and the next pull starts after them
  pub record ProbesTheRest (old new : LinearCore T I R K) : Type 0 where
    pub onward : start_page_of old ≤ start_page_of new
    pub stops : start_page_of new ≡ (core_pool old).pages
    pub each : ProbesEach (start_page_of new - start_page_of old) (looked_of old) (looked_of new)

  -- the next pull starts at the page of the returned item, or before it
  abbrev pub StartsNoFurther : LinearCore T I R K → Item T → LinearCore T I R K → Type 0
  StartsNoFurther old item new = IfSome (item_number item)
      (λ n. start_page_of new ≡ min (start_page_of old) (n / PAGE_ITEMS))

  -- items that are held together are all out, and have different numbers
  pub record HeldTogether (core : LinearCore T I R K) (held : List (Option (Item T))) : Type 0 where
    pub out : (index : ℕ) (item : Item T) → slice_get held index ≡ Some (Some item) → IsOutOf core item
    pub different : (index other : ℕ) (item same : Item T) → slice_get held index ≡ Some (Some item)
        → slice_get held other ≡ Some (Some same) → item_number item ≡ item_number same → index ≡ other

  -- a new core is the opening pool of 32 answers of init, and may have so many pages
  pub record IsOpening (answers : Option T → Type 0) (limit : Option ℕ)
      (core : LinearCore T I R K) : Type 0 where
    pub values : List T
    pub answered : ArePageAnswers answers values
    pub pool : IsSame (core_pool core) (opening values)
    pub most : limit_of core ≡ limit
