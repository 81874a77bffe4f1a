-- What the merging law can't do without.
use Rattle.std.specs.Prelude.{◌≡◌, ℕ, List, length}
use Rattle.pool_parts.specs.declared.page.word.TheConstants.{PAGE_ITEMS}
use Rattle.pool_world.specs.Run.{AreLegalActs}
use Rattle.pool_laws.specs.Steps.{Step, AreLegalPages, merged}

-- the history of each page is legal, and yet the steps aren't a legal history of one pool
pub record IsNoPool (name : ℕ → ℕ → ℕ) (first : List ℕ) (steps : List (Step ℕ)) : Type 0 where
  pub full : length first ≡ PAGE_ITEMS
  pub pages : AreLegalPages first steps
  pub no_pool : AreLegalActs first (merged name steps) → ⊥
