-- Steps on the pages of one pool, one after another: what they are of each page, and what they are
-- of the whole pool. As in a ledger, the last step stands first.
use Rattle.std.specs.Prelude.{◌≡◌, ℕ, ◌+◌, ◌<◌, ◌==◌, if◌then◌else◌, Some, List, [], ◌∷◌, map, length, ⊤}
use Rattle.pool_parts.specs.declared.page.history.Operation.{Operation}
use Rattle.pool_parts.specs.declared.page.history.Operation.TheVariants.{Pull, Return}
use Rattle.pool_parts.specs.declared.page.word.TheConstants.{PAGE_ITEMS}
use Rattle.pool_parts.specs.Ledger.{History, IsLegal}
use Rattle.pool_world.specs.Pool.{number}
use Rattle.pool_world.specs.Run.{Act, Operates, Grows}

-- the next page is linked, with these values, or a user of a page does an operation on it
pub data Step (T : Type 0) : Type 0 where
  Links : (agent : ℕ) (values : List T) → Step T
  OnPage : (page : ℕ) (operation : Operation T) → Step T

-- each user of each page has a name in the pool, and no two have the same
abbrev pub AreNames : (ℕ → ℕ → ℕ) → Type 0
AreNames name = (page user other who : ℕ) → name page user ≡ name other who → (page ≡ other) × (user ≡ who)

module _ {T : Type 0} where
  -- what was done on one page
  abbrev pub history_of : ℕ → List (Step T) → History T
  history_of page [] = []
  history_of page (Links agent values ∷ steps) = history_of page steps
  history_of page (OnPage at operation ∷ steps) =
      if at == page then operation ∷ history_of page steps else history_of page steps

  -- how many pages there are: the first, and one for each link
  abbrev pub linked : List (Step T) → ℕ
  linked [] = 1
  linked (Links agent values ∷ steps) = linked steps + 1
  linked (OnPage at operation ∷ steps) = linked steps

  -- the values with which a page came; none if it isn't linked
  abbrev pub values_of : List T → ℕ → List (Step T) → List T
  values_of first page [] = if page == 0 then first else []
  values_of first page (Links agent values ∷ steps) =
      if page == linked steps then values else values_of first page steps
  values_of first page (OnPage at operation ∷ steps) = values_of first page steps

  -- each page comes with 32 values, and what is done on a page is done after it was linked
  abbrev pub AreInOrder : List (Step T) → Type 0
  AreInOrder [] = ⊤
  AreInOrder (Links agent values ∷ steps) = (length values ≡ PAGE_ITEMS) × AreInOrder steps
  AreInOrder (OnPage page operation ∷ steps) = (page < linked steps) × AreInOrder steps

  -- the history of each page is legal, from the values with which it came
  abbrev pub AreLegalPages : List T → List (Step T) → Type 0
  AreLegalPages first steps = (page : ℕ) → IsLegal (map Some (values_of first page steps)) (history_of page steps)

  -- an operation on a page, as one on the pool: by the user's name there, on the pool's number
  abbrev pub in_pool : (ℕ → ℕ → ℕ) → ℕ → Operation T → Operation T
  in_pool name page (Pull user id value) = Pull (name page user) (number page id) value
  in_pool name page (Return user id value) = Return (name page user) (number page id) value

  -- the steps as acts on the pool
  abbrev pub merged : (ℕ → ℕ → ℕ) → List (Step T) → List (Act T)
  merged name [] = []
  merged name (Links agent values ∷ steps) = Grows agent values ∷ merged name steps
  merged name (OnPage page operation ∷ steps) = Operates (in_pool name page operation) ∷ merged name steps
