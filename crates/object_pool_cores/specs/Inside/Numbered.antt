-- The items of a sequential linear pool, listed by their numbers.
use Rattle.std.specs.Prelude.{◌≡◌, ℕ, ◌+◌, ◌-◌, ◌*◌, ◌/◌, ◌%◌, ◌<◌, ◌≤◌, Option, Some, None, List, length, slice_get}
use Rattle.std.specs.Prelude.{All, [], ◌∷◌, ◌++◌}
use Rattle.pool_world.specs.Pool.{Pool, IsSame, AllowsPages, IsGrowth, place_of, after_growth}
use Rattle.object_pool_cores.specs.LeastChoice.{IsExhausted, TakesLeast}
use Rattle.object_pool_cores.specs.PageProbes.{ProbesEach}
use Rattle.pool_parts.specs.declared.page.word.TheConstants.{PAGE_ITEMS}

-- at each number the value of a free item, or none where it is out; how many pages there
-- may be; the page at which the next pull starts, and how many pages were probed
pub record Numbered (T : Type 0) : Type 0 where
  pub places : List (Option T)
  pub limit : Option ℕ
  pub start : ℕ
  pub looked : ℕ

module _ {T : Type 0} where
  -- the pool that the list stands for
  abbrev pub listed_pool : Numbered T → Pool T
  listed_pool items =
      record { pages = length items.places / PAGE_ITEMS; at = λ n. place_of (slice_get items.places n) }

  -- the places of the pages, one page after another
  abbrev pub laid_out : List (List (Option T)) → List (Option T)
  laid_out [] = []
  laid_out (page ∷ pages) = page ++ laid_out pages

  -- each page has 32 places
  abbrev pub AreWhole : List (List (Option T)) → Type 0
  AreWhole pages = All (λ page. length page ≡ PAGE_ITEMS) pages

  -- no number below this one is free
  abbrev pub HasNoneBelow : List (Option T) → ℕ → Type 0
  HasNoneBelow places below = (n : ℕ) (v : T) → n < below → slice_get places n ≡ Some (Some v) → ⊥

  -- the list has whole pages, no more than there may be, each value meets the condition,
  -- and no page in front of the one at which a pull starts has a free number
  pub record IsWellNumbered (meets : T → Type 0) (items : Numbered T) : Type 0 where
    pub whole : length items.places % PAGE_ITEMS ≡ 0
    pub allowed : AllowsPages items.limit (length items.places / PAGE_ITEMS)
    pub clean : (n : ℕ) (v : T) → slice_get items.places n ≡ Some (Some v) → meets v
    pub starts : items.start ≤ length items.places / PAGE_ITEMS
    pub passed : HasNoneBelow items.places (PAGE_ITEMS * items.start)

  -- the least free number was taken, and the next pull starts at its page
  pub record TakesLeastOf (old : Numbered T) (n : ℕ) (v : T) (new : Numbered T) : Type 0 where
    pub takes : TakesLeast (listed_pool old) n v (listed_pool new)
    pub starts : new.start ≡ n / PAGE_ITEMS

  -- no number is free, and the next pull starts after the pages
  pub record FindsNone (old new : Numbered T) : Type 0 where
    pub exhausted : IsExhausted (listed_pool old)
    pub places : new.places ≡ old.places
    pub starts : new.start ≡ length old.places / PAGE_ITEMS

  -- one probe of each page that was passed, and one of a page that wasn't full
  pub record ProbesPages (old : Numbered T) (last : ℕ) (new : Numbered T) : Type 0 where
    pub onward : old.start ≤ new.start
    pub more : old.looked ≤ new.looked
    pub each : ProbesEach (new.start - old.start + last) old.looked new.looked

  -- the pool grew by a page of answers of init
  pub record Grows (limit : Option ℕ) (answers : Option T → Type 0) (old new : Pool T) : Type 0 where
    pub values : List T
    pub answered : All (λ v. answers (Some v)) values
    pub legal : IsGrowth limit old.pages values
    pub grown : IsSame new (after_growth old values)

  -- the values of the free items, in the order of their numbers
  abbrev pub free_values : List (Option T) → List T
  free_values [] = []
  free_values (None ∷ places) = free_values places
  free_values (Some v ∷ places) = v ∷ free_values places
