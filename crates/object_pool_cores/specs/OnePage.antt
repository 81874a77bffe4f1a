-- A sequential page: a map from free ids to values, written as the list of what lies at each of its
-- 32 ids.
use Rattle.std.specs.Prelude.{◌≡◌, ℕ, ◌<◌, ◌↔◌, Option, Some, None, List, All, length, map, slice_get, slice_set}
use Rattle.std.specs.Int.{bit_at}
use Rattle.pool_parts.specs.declared.page.word.TheConstants.{PAGE_ITEMS}

module _ {T : Type 0} where
  -- the id is free with this value
  abbrev pub IsFreeId : List (Option T) → ℕ → T → Type 0
  IsFreeId page id v = slice_get page id ≡ Some (Some v)

  -- the id is out
  abbrev pub IsOutId : List (Option T) → ℕ → Type 0
  IsOutId page id = slice_get page id ≡ Some None

  -- no id is free
  abbrev pub HasNoFreeId : List (Option T) → Type 0
  HasNoFreeId page = (id : ℕ) (v : T) → IsFreeId page id v → ⊥

  -- the least free id is taken, with its value
  pub record TakesLeastId (old : List (Option T)) (id : ℕ) (v : T) (new : List (Option T)) : Type 0 where
    pub in_page : id < PAGE_ITEMS
    pub free : IsFreeId old id v
    pub least : (lower : ℕ) (w : T) → lower < id → IsFreeId old lower w → ⊥
    pub taken : new ≡ slice_set old id None

  -- the set bits of the word are the free ids
  abbrev pub IsMask : List (Option T) → ℕ → Type 0
  IsMask page word = (id : ℕ) → id < PAGE_ITEMS → (bit_at word id ≡ 1) ↔ ((v : T) × IsFreeId page id v)

-- 32 answers of init
pub record ArePageAnswers {T : Type 0} (answers : Option T → Type 0) (values : List T) : Type 0 where
  pub count : length values ≡ PAGE_ITEMS
  pub each : All (λ v. answers (Some v)) values

-- a new page: 32 answers of init that meet the condition, each free
pub record IsMadePage {T : Type 0} (answers : Option T → Type 0) (meets : T → Type 0)
    (page : List (Option T)) : Type 0 where
  pub values : List T
  pub answered : ArePageAnswers answers values
  pub clean : All meets values
  pub free : page ≡ map Some values
