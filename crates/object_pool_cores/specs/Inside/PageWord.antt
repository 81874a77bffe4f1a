-- What a sequential page keeps: a value at each free id, and a word whose set bits are the free
-- ids.
use Rattle.std.specs.Prelude.{◌≡◌, ℕ, Option, List, length}
use Rattle.std.specs.Int.{bit_at}
use Rattle.object_pool_cores.specs.OnePage.{IsFreeId, IsOutId}
use Rattle.pool_parts.specs.declared.page.word.TheConstants.{PAGE_ITEMS}

-- there are 32 ids; the bit of a free id is set and its value
-- meets the condition, the bit of one that is out is clear
pub record IsCorePage {T : Type 0} (meets : T → Type 0) (word : ℕ) (page : List (Option T)) : Type 0 where
  pub whole : length page ≡ PAGE_ITEMS
  pub set : (id : ℕ) (v : T) → IsFreeId page id v → bit_at word id ≡ 1
  pub clear : (id : ℕ) → IsOutId page id → bit_at word id ≡ 0
  pub clean : (id : ℕ) (v : T) → IsFreeId page id v → meets v
