-- The words of a page: bit i of word w is set where item 32 w + i is free. The 32 bits above are the word's count.
use Rattle.std.specs.Prelude.{◌≡◌, ◌≢◌, ℕ, ◌<◌}
use Rattle.std.specs.Int.{bit_at}
use Rattle.pool_parts.specs.declared.page.word.TheConstants.{PAGE_ITEMS}

-- bit id is the lowest of the word's set bits
pub record IsLeastBit (word id : ℕ) : Type 0 where
  pub in_page : id < PAGE_ITEMS
  pub set : bit_at word id ≡ 1
  pub lowest : (i : ℕ) → i < id → bit_at word i ≡ 0

-- bit id is set in new, and each other bit is as in old
pub record SetsBit (old id new : ℕ) : Type 0 where
  pub set : bit_at new id ≡ 1
  pub others : (i : ℕ) → i ≢ id → bit_at new i ≡ bit_at old i

-- bit id is clear in new, and each other bit is as in old
pub record ClearsBit (old id new : ℕ) : Type 0 where
  pub clear : bit_at new id ≡ 0
  pub others : (i : ℕ) → i ≢ id → bit_at new i ≡ bit_at old i
