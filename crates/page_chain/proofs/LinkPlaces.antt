-- That one link leads to a page, so that what a page's number knows of its link is of the link at
-- the number's place.
use Rattle.std.proofs.Common.{◌≡◌, List, ℕ, suc, ◌+◌, ◌^◌, ◌<◌, ◌≤◌, Option, None, Some, ap, refl, subst, sym, ◌∙◌, arith}
use Rattle.std.specs.Arc.{arc_value}
use Rattle.std.specs.Coded.{Coded, Coded-set, coded_ℕ, coded_option, coded×}
use Rattle.std.specs.Option.{option_map}
use Rattle.std.specs.declared.alloc.Global.{Global}
use Rattle.std.specs.Prelude.{slice_get}
use Rattle.std.proofs.lemmas.Option.{none-some}
use Rattle.std.proofs.Math.Logic.{∥∥₁_elim}
use Rattle.std.proofs.Math.Nat.{pow-le-pow_right, two-pow-succ}
use Rattle.once_cell.specs.Once.{cell_name}
use Rattle.page_chain.specs.Links.{IsLinkTo, cell_in_row}
use Rattle.pool_parts.specs.Item.{same_holding}
use Rattle.pool_parts.specs.Page.{PageView, page_view, page_coded}
use Rattle.pool_parts.specs.declared.clean.Clean.{Ghosts}
use Rattle.page_chain.specs.Walk.{IsLinkedAt}
use Rattle.page_chain.specs.WalkSteps.{IsKnownAt}
use Rattle.page_chain.specs.declared.linear_page.directory.Row.{Row}
use Rattle.page_chain.specs.declared.linear_page.link_note.LinkNote.{LinkNote}
use Rattle.page_chain.specs.declared.linear_page.page_number.PageNumber.{PageNumber}

-- a number of one row is in no later one
no_later_row : (number row offset later further : ℕ) → 2 ^ row + offset ≡ number → offset < 2 ^ row
    → 2 ^ later + further ≡ number → row < later → ⊥
no_later_row number row offset later further here within there before =
    let further_on : 2 ^ suc row ≤ 2 ^ later =
    pow-le-pow_right {n = 2} (omega arith) {i = suc row} {j = later} before in
    let twice = two-pow-succ row in
    omega arith

-- a number is in one row
one_row : (number row offset other further : ℕ) → 2 ^ row + offset ≡ number → offset < 2 ^ row
    → 2 ^ other + further ≡ number → further < 2 ^ other → row ≡ other
one_row number row offset other further here within there inside = grind (
  arith,
  no_later_row number row offset other further here within there,
  no_later_row number other further row offset there inside here,
)

-- one link leads to a page
pub one_link : (rows : List (Global × ℕ)) (number : ℕ) (one other : ℕ × ℕ) → IsLinkTo rows number one
    → IsLinkTo rows number other → one ≡ other
one_link rows number one other is was =
    let same_row = one_row number is.row_number one.1 was.row_number other.1 is.offset is.in_row was.offset was.in_row
    in
    let same_start : 2 ^ is.row_number ≡ 2 ^ was.row_number = ap (λ row. 2 ^ row) same_row in
    let here = is.offset in
    let there = was.offset in
    let same_offset : one.1 ≡ other.1 = omega arith in
    let both : Some is.row ≡ Some was.row = sym is.is_row ∙ ap (slice_get rows) same_row ∙ was.is_row in
    let row : is.row ≡ was.row = cc in
    let same_cell : one.0 ≡ other.0 = is.of_row ∙ ap cell_name row ∙ sym was.of_row in
    λ i. (same_cell i, same_offset i)

-- a row that has a cell at a place is known
known_row : {T K O : Type 0} (known : Option (Row T K O)) (offset cell : ℕ) → cell_in_row known offset ≡ Some cell
    → (row : Row T K O) × (known ≡ Some row) × (option_map cell_name (slice_get row.links.items offset) ≡ Some cell)
known_row None offset cell is = absurd (none-some _ is)
known_row (Some row) offset cell is = (row, refl, is)

-- a note that knows the page of a link gives the page's number that is linked there
pub linked_at : {T K O : Type 0} {opens : Ghosts O T} (links : List (Global × ℕ)) (number : ℕ)
    (note : LinkNote T K O opens) (page : PageView T) → IsKnownAt links number note page
    → IsLinkedAt links (record { number = number; row = note.row; link = note.link }) page
linked_at links number note page known =
    let here = known.is_link in
    let (row, knows, cell) = known_row note.row.known note.offset.value note.link.cell note.in_row in
    record {
      row_number = here.row_number;
      row = here.row;
      is_row = here.is_row;
      offset = note.offset.value;
      at_number = here.offset;
      in_row = here.in_row;
      row_cell = here.of_row;
      known_row = row;
      knows_row = knows;
      link_cell = cell;
      leads_here = known.knows;
    }

module _ {T K O : Type 0} (links : List (Global × ℕ)) (known : PageNumber T K O) (page : PageView T)
    (it : IsLinkedAt links known page) where
  -- the link to the page of a number is the one that its notes know
  link_of : IsLinkTo links known.number (known.row.cell, it.offset)
  link_of = record {
    row_number = it.row_number;
    row = it.row;
    is_row = it.is_row;
    of_row = it.row_cell;
    offset = it.at_number;
    in_row = it.in_row;
  }

  cell_of : cell_in_row known.row.known it.offset ≡ Some known.link.cell
  cell_of = rw it.knows_row it.link_cell

-- what a page's number knows of the link at the number's place
pub record KnowsLink {T K O : Type 0} (link : ℕ × ℕ) (known : PageNumber T K O) (page : PageView T) : Type 0 where
  pub place : (known.row.cell, link.1) ≡ link
  pub in_row : cell_in_row known.row.known link.1 ≡ Some known.link.cell
  pub leads_here : option_map (λ page. page_view (arc_value page)) known.link.known ≡ Some page

pub knows_link : {T K O : Type 0} → Coded T → (links : List (Global × ℕ)) (link : ℕ × ℕ) (known : PageNumber T K O)
    (page : PageView T) → ∥ IsLinkedAt links known page ∥₁ → IsLinkTo links known.number link → KnowsLink link known page
knows_link code links link known page linked here = record {
  place = ∥∥₁_elim linked (Coded-set (coded× coded_ℕ coded_ℕ) _ _) (λ it.
      λ i. ((one_link _ _ _ _ (link_of _ _ _ it) here i).0, link.1));
  in_row = ∥∥₁_elim linked (same_holding _ _) (λ it.
      subst (λ offset. cell_in_row known.row.known offset ≡ Some known.link.cell)
      (ap (λ link. link.1) (one_link _ _ _ _ (link_of _ _ _ it) here)) (cell_of _ _ _ it));
  leads_here = ∥∥₁_elim linked (Coded-set (coded_option (page_coded code)) _ _) (λ it. it.leads_here);
}
