-- What a page answers to a pull: a slot with an item, or that each of its items was seen in use.
use Rattle.std.specs.Prelude.{◌≡◌, ℕ, ◌<◌}
use Rattle.atomic_table.specs.Seated.{TableId}
use Rattle.pool_parts.specs.declared.page.full_seen.Allocated.{Allocated}
use Rattle.pool_parts.specs.declared.page.full_seen.Allocated.TheVariants.{Slot, Full}
use Rattle.pool_parts.specs.declared.page.user_view.UserView.{UserView}
use Rattle.pool_parts.specs.declared.page.word.TheConstants.{PAGE_ITEMS}
use Rattle.pool_parts.specs.Item.{SeenView, IsPageItem, IsPulled, new_user}
use Rattle.pool_parts.specs.Ledger.{IsLegal, IsPrefixOf, WasOutBetween}
use Rattle.pool_parts.specs.Page.{PageView}

module _ {T : Type 0} where
  -- a user knows more than it had known before: by a load that came after all of that, and by what came since
  pub record KnowsMore (before known : UserView T) : Type 0 where
    pub same_user : known.user ≡ before.user
    pub same_opening : known.opening ≡ before.opening
    pub legal : IsLegal before.opening known.operations
    pub after_known : IsPrefixOf before.operations known.at_load
    pub goes_on : IsPrefixOf known.at_load known.operations

  -- each of the items of this page or fixed pool, which has so many, was seen in use in one call, by a user that had
  -- known this before
  pub record IsAllOut (count : ℕ) (page : TableId) (before : UserView T) (seen : SeenView T) : Type 0 where
    pub of_page : seen.page ≡ page
    pub knows : KnowsMore before seen.known
    -- each item was out at some place between the call's first load and now
    pub each_was_out : (id : ℕ) → id < count
        → WasOutBetween before.opening seen.known.at_load seen.known.operations id

  -- each of the items of this page was seen in use in one call
  abbrev pub IsFullPage : TableId → SeenView T → Type 0
  IsFullPage page seen = IsAllOut PAGE_ITEMS page (new_user seen.known.opening seen.known.user) seen

module _ {T K : Type 0} where
  -- what the user of the call knows of the page, whatever it answers
  abbrev pub answer_view : Allocated T K → UserView T
  answer_view (Slot slot) = slot.known
  answer_view (Full seen) = seen.known

  -- what this page answers to a user that had known this before: an item of it, which the user pulled; or each of its
  -- items was seen in use
  abbrev pub IsAnswerOf : (T → Type 0) → PageView T → UserView T → Allocated T K → Type 0
  IsAnswerOf meets page before (Slot slot) =
      IsPageItem meets slot.item × IsPulled page.identity before slot.item × (slot.opening ≡ page.opening)
  IsAnswerOf meets page before (Full seen) = IsAllOut PAGE_ITEMS page.identity before seen
