-- A chain and its pages, a note of a link, and where a walk along the links came to.
use Rattle.std.proofs.Common.{inl, inr, arith}
use Rattle.std.proofs.lemmas.Nat.{pow_pos}
use Rattle.std.specs.Prelude.{◌≡◌, ◌⊎◌, ℕ, ◌+◌, ◌-◌, ◌^◌, ◌<◌, ◌≤◌, List, Option, Some, IfSome, slice_get, ⊤}
use Rattle.std.specs.Arc.{arc_value}
use Rattle.std.specs.Option.{option_map}
use Rattle.std.specs.declared.alloc.Global.{Global}
use Rattle.once_cell.specs.Once.{cell_name}
use Rattle.pool_parts.specs.Answers.{Refuses}
use Rattle.pool_parts.specs.Item.{Item, IsPageItem, IsPulled, IsFilled, new_user}
use Rattle.pool_parts.specs.Page.{PageView, page_view}
use Rattle.pool_parts.specs.declared.clean.Clean.{Ghosts}
use Rattle.pool_parts.specs.Slot.{IsFullPage}
use Rattle.pool_parts.specs.declared.page.word.TheConstants.{PAGE_ITEMS}
use Rattle.pool_parts.specs.declared.pull_error.PullError.{PullError}
use Rattle.pool_parts.specs.declared.pull_error.PullError.TheVariants.{Limit as LimitCause}
use Rattle.page_chain.specs.declared.linear_page.chain.Chain.{Chain}
use Rattle.page_chain.specs.declared.linear_page.directory.Row.{Row}
use Rattle.page_chain.specs.declared.linear_page.linked_page.LinearPage.{LinearPage}
use Rattle.page_chain.specs.declared.linear_page.link_note.LinkNote.{LinkNote}
use Rattle.page_chain.specs.declared.linear_page.page_number.PageNumber.{PageNumber}
use Rattle.page_chain.specs.declared.linear_page.walk.LimitSeen.{LimitSeen}
use Rattle.page_chain.specs.declared.linear_page.walk.WalkEnd.{WalkEnd}
use Rattle.page_chain.specs.declared.linear_page.walk.WalkRefusal.{WalkRefusal}
use Rattle.page_chain.specs.declared.linear_page.walk.WalkRefusal.TheVariants.{Limit, Making}

-- a page of a chain: the chain's links, the page, and how many links lead to it from the first one
pub record ChainPage (T : Type 0) : Type 0 where
  pub links : List (Global × ℕ)
  pub page : PageView T
  pub number : ℕ

module _ {T K O : Type 0} where
  -- the chain's first page
  abbrev pub first_page : Chain T K O → ChainPage T
  first_page chain =
      record { links = chain.directory; page = page_view (arc_value chain.first); number = 0 }

module _ {T K O : Type 0} {opens : Ghosts O T} where
  -- which page of its chain it is
  abbrev pub shown_page : LinearPage T K O opens → ChainPage T
  shown_page page =
      record { links = page.directory.now; page = page_view (arc_value page.page.now); number = page.number }

  -- which link leads on from a page
  abbrev pub next_link : LinearPage T K O opens → ℕ × ℕ
  next_link page = (cell_name page.next.row.now, page.next.offset)

  -- which link the note is of
  abbrev pub known_link : LinkNote T K O opens → ℕ × ℕ
  known_link note = (note.row.cell, note.offset.value)

  -- which page the note knows to be linked
  abbrev pub known_next : LinkNote T K O opens → Option (PageView T)
  known_next note = option_map (λ page. page_view (arc_value page)) note.link.known

  -- the page after a page: this note is of the link between them, and knows it
  pub record IsNext (page : LinearPage T K O opens) (note : LinkNote T K O opens) (next : LinearPage T K O opens)
      : Type 0 where
    pub one_further : (shown_page next).number ≡ (shown_page page).number + 1
    pub of_link : known_link note ≡ next_link page
    pub known : known_next note ≡ Some (shown_page next).page

module _ {T K O : Type 0} where
  -- the link to the page of this number leads to this page, as the notes of its row and of itself know: row `b` begins
  -- with the link to page `2 ^ b` and has as many links
  pub record IsLinkedAt (links : List (Global × ℕ)) (known : PageNumber T K O) (page : PageView T) : Type 0 where
    -- the row, and where in it the link lies
    pub row_number : ℕ
    pub row : Global × ℕ
    pub is_row : slice_get links row_number ≡ Some row
    pub offset : ℕ
    pub at_number : 2 ^ row_number + offset ≡ known.number
    pub in_row : offset < 2 ^ row_number
    -- the notes are of that row's cell, and of the link's cell in what the row is known to be
    pub row_cell : known.row.cell ≡ cell_name row
    pub known_row : Row T K O
    pub knows_row : known.row.known ≡ Some known_row
    pub link_cell : option_map cell_name (slice_get known_row.links.items offset) ≡ Some known.link.cell
    pub leads_here : option_map (λ page. page_view (arc_value page)) known.link.known ≡ Some page

  -- a walk came to the page of this number: it is the start's, or the one to which the link of that
  -- number leads
  abbrev pub IsWalkedTo : ChainPage T → PageNumber T K O → PageView T → Type 0
  IsWalkedTo start known page =
      ((known.number ≡ start.number) × (page ≡ start.page)) ⊎ IsLinkedAt start.links known page

-- what a value shows that was pulled from a chain: its pool, the number of its page with what the pull learned of the
-- link to it, its item, and the values that the page opened with
pub record ChainItem (P T K O : Type 0) : Type 0 where
  pub pool : P
  pub number : PageNumber T K O
  pub item : Item T
  pub opening : List (Option T)

-- the page of an item, as the item shows it
abbrev pub page_of_item : {T : Type 0} → Item T → PageView T
page_of_item item = record { identity = item.page; opening = item.opening }

-- the last of so many pages from a walk's start was found full
pub record IsLastFull {T K O : Type 0} (start : ChainPage T) (pages : ℕ) (seen : LimitSeen T K O) : Type 0 where
  pub last : seen.number.number + 1 ≡ start.number + pages
  -- that page
  pub page : PageView T
  pub on_page : IsWalkedTo start seen.number page
  pub all_out : IsFullPage page.identity seen.seen

module _ {T K O : Type 0} where
  -- why a walk has no item: there is a limit, and the last page up to it was found full; or no further page could be
  -- made
  abbrev pub IsRefusedBy : ChainPage T → Option ℕ → Type 0 → WalkRefusal T K O → Type 0
  IsRefusedBy start limit init_refuses (Limit seen) = (pages : ℕ) × (limit ≡ Some pages) × IsLastFull start pages seen
  IsRefusedBy start limit init_refuses (Making cause) = Refuses ⊤ init_refuses ⊥ cause

  -- the name of a walk's refusal
  abbrev pub cause_of : WalkRefusal T K O → PullError
  cause_of (Limit seen) = LimitCause
  cause_of (Making cause) = cause

-- what a walk's pull gives: an item of the page of this number, within so many pages from the walk's start
pub record Pulls {T K O : Type 0} (meets may_open : T → Type 0) (start : ChainPage T) (limit : Option ℕ)
    (number : PageNumber T K O) (item : Item T) : Type 0 where
  pub is_item : IsPageItem meets item
  -- its page opened with 32 values of this kind
  pub opened : IsFilled PAGE_ITEMS may_open item.opening
  -- a new user of its page pulled it
  pub pulled : IsPulled item.page (new_user item.opening item.holder) item
  pub from_start : start.number ≤ number.number
  pub on_page : IsWalkedTo start number (page_of_item item)
  pub of_start : number.number ≡ start.number → page_of_item item ≡ start.page
  pub within : IfSome limit (λ pages. number.number - start.number < pages)

-- where a walk ended: an item that it pulled within the limit, and that item's page
pub record IsWalkEnd {T K O : Type 0} (meets may_open : T → Type 0) (start : ChainPage T) (limit : Option ℕ)
    (reached : WalkEnd T K O) : Type 0 where
  pub taken : Pulls meets may_open start limit reached.number reached.slot.item
  pub of_page : page_of_item reached.slot.item ≡ page_view (arc_value reached.page.now)
  -- which opened as the item shows
  pub same_opening : reached.slot.opening ≡ reached.slot.item.opening

-- what a pull along the links gives that has passed so many of them: an item, whose page opened with 32 values of this
-- kind, and is the start if no link was passed
pub record PullsAlong {T : Type 0} (meets may_open : T → Type 0) (start : ChainPage T) (passed : ℕ) (item : Item T)
    : Type 0 where
  pub is_item : IsPageItem meets item
  pub of_start : passed ≡ 0 → page_of_item item ≡ start.page
  pub opened : IsFilled PAGE_ITEMS may_open item.opening
  -- a new user of its page pulled it
  pub pulled : IsPulled item.page (new_user item.opening item.holder) item

-- no link leads to the first page
pub no_link_to_first : {T K O : Type 0} (links : List (Global × ℕ)) (known : PageNumber T K O) (page : PageView T)
    → IsLinkedAt links known page → known.number ≡ 0 → ⊥
no_link_to_first links known page linked first =
    let start = pow_pos linked.row_number in
    omega (arith, linked.at_number, start, first)

-- so the page of number 0 that a walk came to from the chain's start is the first one, as
-- `on_page` of a pull says
pub first_of_walk : {T K O : Type 0} (chain : Chain T K O) (known : PageNumber T K O) (page : PageView T)
    → IsWalkedTo (first_page chain) known page → known.number ≡ 0 → page ≡ (first_page chain).page
first_of_walk chain known page walked first = elim walked [
  | inl here ↦ here.1
  | inr linked ↦ absurd (no_link_to_first _ known page linked first)
]
