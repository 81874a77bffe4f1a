-- What a linear pool and its reusables show, and what a pull gives.
use Rattle.std.specs.Prelude.{◌≡◌, ◌⊎◌, ℕ, ◌<◌, Option, IfSome, Some}
use Rattle.std.specs.Arc.{arc_value}
use Rattle.std.specs.Option.{option_map}
use Rattle.pool_parts.specs.Answers.{IsMadeOrReset}
use Rattle.pool_parts.specs.Item.{Item, IsPulled, IsFilled, new_user}
use Rattle.pool_parts.specs.Ledger.{EachReturned}
use Rattle.pool_parts.specs.Page.{PageView, page_view}
use Rattle.pool_parts.specs.declared.made_or_reset.MadeOrReset.{MadeOrReset}
use Rattle.pool_parts.specs.declared.page.word.TheConstants.{PAGE_ITEMS}
use Rattle.page_chain.specs.Walk.{ChainPage, ChainItem, IsLinkedAt}
use Rattle.page_chain.specs.declared.linear_page.page_number.PageNumber.{PageNumber}
use Rattle.linear_pools.specs.declared.linear_object_pool.AnswerOf.{AnswerOf}
use Rattle.linear_pools.specs.declared.linear_object_pool.LinearObjectPool.{LinearObjectPool}

-- what a linear pool shows
pub record LinearView (T I R : Type 0) : Type 0 where
  -- what makes its values, and what resets them
  pub init : I
  pub reset : R
  -- how many pages it may have
  pub limit : Option ℕ
  -- where a pull begins: at the pool's first page
  pub start : ChainPage T

module _ {T I R K : Type 0} where
  -- what contracts see of a pool
  abbrev pub linear_view : LinearObjectPool T I R K → LinearView T I R
  linear_view pool = record {
    init = pool.init;
    reset = pool.reset;
    limit = option_map (λ limit. limit.pages) pool.limit;
    start = record { links = pool.chain.directory; page = page_view (arc_value pool.chain.first); number = 0 };
  }

  -- what a pull gives: an item of the pool's page of this number
  pub record Pulls (meets : T → Type 0) (answers : I → Option T → Type 0) (leaves : R → T → T → Type 0)
      (pool : LinearObjectPool T I R K) (number : PageNumber T (MadeOrReset I R K) (AnswerOf I K)) (item : Item T)
      : Type 0 where
    pub in_page : item.id < PAGE_ITEMS
    -- the first page has number 0, and any other is where the link of its number leads
    pub on_page : let page : PageView T = record { identity = item.page; opening = item.opening } in
        ((number.number ≡ 0) × (page ≡ (linear_view pool).start.page))
        ⊎ IsLinkedAt (linear_view pool).start.links number page
    pub within : IfSome (linear_view pool).limit (λ pages. number.number < pages)
    -- the page opened with 32 answers of init
    pub opened : IsFilled PAGE_ITEMS (λ value. (initializer : I) × answers initializer (Some value)) item.opening
    -- a new user of its page pulled it
    pub pulled : IsPulled item.page (new_user item.opening item.holder) item
    pub meets_condition : meets item.value
    pub made_or_reset : IsMadeOrReset answers leaves item.value
    -- so was each value with which an item of the page was returned before
    pub each_returned : EachReturned (λ value. meets value × IsMadeOrReset answers leaves value) item.history

-- a reusable with another value
abbrev pub with_value : {P T K O : Type 0} → ChainItem P T K O → T → ChainItem P T K O
with_value reusable value = record reusable { item = record reusable.item { value = value } }
