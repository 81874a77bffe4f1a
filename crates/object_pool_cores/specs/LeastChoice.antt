-- A pull by least choice: the least free number; a page more
-- only where no number is free, or a refusal in its place.
use Rattle.std.specs.Prelude.{◌≡◌, ℕ, ◌+◌, ◌≤◌, Option, Some, None, List, All, Result, Ok, Err, ◌⊎◌}
use Rattle.pool_parts.specs.declared.pull_error.PullError.{PullError}
use Rattle.pool_parts.specs.declared.pull_error.PullError.TheVariants.{Memory, Init, Limit, Closed}
use Rattle.object_pool_cores.specs.declared.sequential.item.Item.{Item}
use Rattle.object_pool_cores.specs.Item.{item_value, item_number}
use Rattle.pool_world.specs.Pool.{Pool, Free, Out, IsSame, AllowsPages, with_place, IsGrowth, after_growth}

module _ {T : Type 0} where
  -- no number is free
  abbrev pub IsExhausted : Pool T → Type 0
  IsExhausted pool = (n : ℕ) (v : T) → pool.at n ≡ Free v → ⊥

  -- the number is free with this value, no lesser number is free, and it is pulled
  pub record TakesLeast (old : Pool T) (n : ℕ) (v : T) (new : Pool T) : Type 0 where
    pub free : old.at n ≡ Free v
    pub least : (m : ℕ) (w : T) → old.at m ≡ Free w → n ≤ m
    pub taken : IsSame new (with_place old n Out)

-- From here on, `answers` says what `init` may answer.
module _ {T : Type 0} (limit : Option ℕ) (answers : Option T → Type 0) where
  -- where no number is free, a growth by answers of init comes first, and then the least number is
  -- pulled
  pub record GrowsFirst (old : Pool T) (n : ℕ) (v : T) (new : Pool T) : Type 0 where
    pub exhausted : IsExhausted old
    pub values : List T
    pub answered : All (λ w. answers (Some w)) values
    pub legal : IsGrowth limit old.pages values
    pub takes : TakesLeast (after_growth old values) n v new

  -- the limit is the cause where the pool has as many pages
  -- as it may; the others come only where it may have more
  abbrev pub IsCause : Pool T → PullError → Type 0
  IsCause pool Limit = limit ≡ Some pool.pages
  IsCause pool Memory = AllowsPages limit (pool.pages + 1)
  IsCause pool Init = AllowsPages limit (pool.pages + 1) × answers None
  IsCause pool Closed = ⊥

  -- a refusal comes only where no number is free, and changes nothing
  pub record IsRefused (old : Pool T) (cause : PullError) (new : Pool T) : Type 0 where
    pub exhausted : IsExhausted old
    pub because : IsCause old cause
    pub same : IsSame new old

  -- a pull by least choice, which gives a number with its value or is refused
  abbrev pub PullsLeast : Pool T → Result (ℕ × T) PullError → Pool T → Type 0
  PullsLeast old (Ok pulled) new = TakesLeast old pulled.0 pulled.1 new ⊎ GrowsFirst old pulled.0 pulled.1 new
  PullsLeast old (Err cause) new = IsRefused old cause new

  -- a pull answers with an item of the number and the value that least choice gives, or is refused
  abbrev pub PullsItem : Pool T → Result (Item T) PullError → Pool T → Type 0
  PullsItem old (Ok item) new =
      (n : ℕ) × (item_number item ≡ Some n) × PullsLeast old (Ok (n, item_value item)) new
  PullsItem old (Err cause) new = PullsLeast old (Err cause) new

-- a return leaves at the item's number, which was out, what
-- reset may make of its value; `leaves` says what that is
pub record ReturnsItem {T : Type 0} (leaves : T → T → Type 0) (old : Pool T) (item : Item T)
    (new : Pool T) : Type 0 where
  pub n : ℕ
  pub kept : T
  pub number : item_number item ≡ Some n
  pub left : leaves (item_value item) kept
  pub was_out : old.at n ≡ Out
  pub returned : IsSame new (with_place old n (Free kept))
