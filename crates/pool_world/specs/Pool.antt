-- A pool of items that are known by their numbers, and how it grows.
use Rattle.std.specs.Prelude.{◌≡◌, ◌≢◌, ℕ, ◌<◌, ◌+◌, ◌*◌, ◌≤◌, ◌==◌, if◌then◌else◌, Option, Some, None, List}
use Rattle.std.specs.Prelude.{slice_get, ◌-◌, nat_lt, length}
use Rattle.std.specs.Prelude.{⊤}
use Rattle.pool_parts.specs.declared.page.word.TheConstants.{PAGE_ITEMS}

-- the number of an item, by its page and its place there
abbrev pub number : ℕ → ℕ → ℕ
number page id = PAGE_ITEMS * page + id

-- what lies at a number: no item, a free item with its value, or an item that is out
pub data Place (T : Type 0) : Type 0 where
  Absent : Place T
  Free : T → Place T
  Out : Place T

-- how many pages there are, and what lies at each number
pub record Pool (T : Type 0) : Type 0 where
  pub pages : ℕ
  pub at : ℕ → Place T

-- there may be so many pages
abbrev pub AllowsPages : Option ℕ → ℕ → Type 0
AllowsPages None pages = ⊤
AllowsPages (Some limit) pages = pages ≤ limit

-- a growth brings 32 values, and keeps to the limit
abbrev pub IsGrowth : {T : Type 0} → Option ℕ → ℕ → List T → Type 0
IsGrowth limit pages values = (length values ≡ PAGE_ITEMS) × AllowsPages limit (pages + 1)

module _ {T : Type 0} where
  -- there is a place at exactly the numbers below 32 times the pages, and there may be so many
  -- pages
  pub record IsPool (limit : Option ℕ) (pool : Pool T) : Type 0 where
    pub inside : (n : ℕ) → n < PAGE_ITEMS * pool.pages → pool.at n ≢ Absent
    pub past : (n : ℕ) → PAGE_ITEMS * pool.pages ≤ n → pool.at n ≡ Absent
    pub allowed : AllowsPages limit pool.pages

  -- two pools have as many pages, and the same at each number
  pub record IsSame (a b : Pool T) : Type 0 where
    pub pages : a.pages ≡ b.pages
    pub places : (n : ℕ) → a.at n ≡ b.at n

  -- what lies at a number: nothing at one that is out, a value at one that is free, neither where
  -- there is no item
  abbrev pub place_of : Option (Option T) → Place T
  place_of None = Absent
  place_of (Some None) = Out
  place_of (Some (Some v)) = Free v

  -- free with a value, where there is one
  abbrev pub free_with : Option T → Place T
  free_with None = Absent
  free_with (Some v) = Free v

  -- a pool of one page, all of whose numbers are free with these values
  abbrev pub opening : List T → Pool T
  opening values = record { pages = 1; at = λ n. free_with (slice_get values n) }

  -- the pool with another place at one number
  abbrev pub with_place : Pool T → ℕ → Place T → Pool T
  with_place pool n place = record { pages = pool.pages; at = λ m. if m == n then place else pool.at m }

  -- a growth brings a page, whose numbers are free with these values
  abbrev pub after_growth : Pool T → List T → Pool T
  after_growth pool values = record {
    pages = pool.pages + 1;
    at = λ n. if nat_lt n (PAGE_ITEMS * pool.pages) then pool.at n else free_with
        (slice_get values (n - PAGE_ITEMS * pool.pages));
  }
