-- What a page that was full says of the pool.
use Rattle.std.specs.Prelude.{◌≡◌, ℕ, ◌<◌, ◌++◌, List}
use Rattle.pool_parts.specs.declared.page.word.TheConstants.{PAGE_ITEMS}
use Rattle.pool_parts.specs.Ledger.{History, IsPrefixOf}
use Rattle.pool_world.specs.Pool.{Out, number}
use Rattle.pool_world.specs.Run.{pool_of}
use Rattle.pool_laws.specs.Steps.{Step, linked, history_of, merged}

module _ {T : Type 0} where
  -- after some of the steps each item of a page was out in the pool, and the page's history went on
  -- from one place and hadn't gone past the other
  pub record WasPageOut (name : ℕ → ℕ → ℕ) (first : List T) (steps : List (Step T)) (page : ℕ)
      (from to : History T) : Type 0 where
    pub early : List (Step T)
    pub later : List (Step T)
    pub is_place : steps ≡ later ++ early
    pub is_linked : page < linked early
    pub since : IsPrefixOf from (history_of page early)
    pub until : IsPrefixOf (history_of page early) to
    pub out : (id : ℕ) → id < PAGE_ITEMS → (pool_of first (merged name early)).at (number page id) ≡ Out
