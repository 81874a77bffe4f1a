-- What is known of several pages of one pool, together.
use Rattle.std.specs.Prelude.{◌≡◌, ℕ, ◌≤◌, ◌+◌, Some, ◌<◌, List, [], Option, map, length}
use Rattle.pool_parts.specs.declared.page.word.TheConstants.{PAGE_ITEMS}
use Rattle.pool_parts.specs.declared.page.note.PageNote.{PageNote}
use Rattle.pool_parts.specs.Ledger.{History}
use Rattle.pool_parts.specs.Item.{Item}
use Rattle.pool_parts.specs.Page.{view_of}
use Rattle.pool_world.specs.Pool.{AllowsPages}
use Rattle.pool_world.specs.Run.{AreLegalActs}
use Rattle.pool_laws.specs.Steps.{Step, AreInOrder, linked, history_of, values_of, merged}
use Rattle.pool_laws.specs.SameRun.{HasRun}

-- what somebody knows of a page: its number in the pool, the values that it opened with, and its
-- history
pub record Known (T : Type 0) : Type 0 where
  pub page : ℕ
  pub opening : List (Option T)
  pub history : History T

module _ {T : Type 0} where
  -- what the puller of an item knows of its page
  abbrev pub known_by : ℕ → Item T → Known T
  known_by page item = record { page = page; opening = item.opening; history = item.history }

  -- what a note knows of its page
  abbrev pub noted : ℕ → PageNote T → Known T
  noted page note = record {
    page = page;
    opening = (view_of note.seat).opening;
    history = (view_of note.seat).operations;
  }

  -- of these steps, those on this page are what somebody knows of it
  pub record IsKnownOf (first : List T) (steps : List (Step T)) (known : Known T) : Type 0 where
    pub opening : map Some (values_of first known.page steps) ≡ known.opening
    pub history : history_of known.page steps ≡ known.history

  -- the steps are those of so many pages past the first, with these values and these histories, and
  -- they are a legal history of one pool that grows
  pub record ArePagesOf (name : ℕ → ℕ → ℕ) (values : ℕ → List T) (histories : ℕ → History T) (count : ℕ)
      (steps : List (Step T)) : Type 0 where
    pub in_order : AreInOrder steps
    pub pages : linked steps ≡ count + 1
    pub same_values : (page : ℕ) → page ≤ count → values_of (values 0) page steps ≡ values page
    pub same_histories : (page : ℕ) → page ≤ count → history_of page steps ≡ histories page
    pub no_others : (page : ℕ) → count < page → history_of page steps ≡ []
    pub legal : AreLegalActs (values 0) (merged name steps)

  -- what is known of two pages is of one legal history of a pool that grows, within the limit. It
  -- is a run of the main theorem, with a reset that leaves only values of this kind
  pub record StandTogether (name : ℕ → ℕ → ℕ) (limit : Option ℕ) (kept : T → Type 0) (one other : Known T) : Type 0
    where
      pub first : List T
      pub full : length first ≡ PAGE_ITEMS
      pub steps : List (Step T)
      pub in_order : AreInOrder steps
      pub allowed : AllowsPages limit (linked steps)
      pub one_known : IsKnownOf first steps one
      pub other_known : IsKnownOf first steps other
      pub legal : AreLegalActs first (merged name steps)
      pub run : HasRun (λ old value. kept value) limit first (merged name steps)
