-- For the proofs: what the pages of a walk answer to it.
use Rattle.std.specs.Prelude.{◌≡◌, ℕ, List, Some}
use Rattle.std.specs.declared.alloc.Global.{Global}
use Rattle.pool_parts.specs.Item.{IsPageItem, IsPulled, IsFilled, new_user}
use Rattle.pool_parts.specs.declared.clean.Clean.{Ghosts}
use Rattle.pool_parts.specs.declared.page.full_seen.Allocated.{Allocated}
use Rattle.pool_parts.specs.declared.page.full_seen.Allocated.TheVariants.{Slot, Full}
use Rattle.pool_parts.specs.declared.page.word.TheConstants.{PAGE_ITEMS}
use Rattle.pool_parts.specs.Page.{PageView}
use Rattle.pool_parts.specs.Slot.{IsFullPage}
use Rattle.page_chain.specs.Links.{IsLinkTo}
use Rattle.page_chain.specs.Walk.{known_link, known_next}
use Rattle.page_chain.specs.declared.linear_page.link_note.LinkNote.{LinkNote}
use Rattle.page_chain.specs.declared.linear_page.walk.KnownFull.{KnownFull}

module _ {T K : Type 0} where
  -- what a page of a chain answers to a new user: an item of this page, which opened with these 32
  -- values of this kind; or each of its items was seen in use
  abbrev pub IsAnsweredBy : (T → Type 0) → (T → Type 0) → PageView T → Allocated T K → Type 0
  IsAnsweredBy meets may_open page (Slot slot) =
      IsPageItem meets slot.item × IsFilled PAGE_ITEMS may_open slot.item.opening
      × IsPulled page.identity (new_user page.opening slot.item.holder) slot.item × (slot.opening ≡ page.opening)
  IsAnsweredBy meets may_open page (Full seen) = IsFullPage page.identity seen

module _ {T K O : Type 0} {opens : Ghosts O T} where
  -- a note of the link to the page of this number knows that page
  pub record IsKnownAt (links : List (Global × ℕ)) (number : ℕ) (note : LinkNote T K O opens) (page : PageView T) : Type 0
    where
      pub is_link : IsLinkTo links number (known_link note)
      pub knows : known_next note ≡ Some page

  -- a page was found full, to which the link of this number leads, as the note of it knows
  pub record IsFullAt (links : List (Global × ℕ)) (full : KnownFull T K O opens) : Type 0 where
    pub page : PageView T
    pub is_known : IsKnownAt links full.number full.note page
    pub all_out : IsFullPage page.identity full.seen
