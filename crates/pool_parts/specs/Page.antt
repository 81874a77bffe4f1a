-- What a page shows, and what somebody knows of its history: the holder of an item, a note, a witness.
use Rattle.std.specs.Prelude.{◌≡◌, List, [], ◌∷◌, ◌++◌, Option}
use base.Stored.{coded_via}
use Rattle.std.specs.Coded.{Coded, Coded-set, coded_option, coded_list, coded×}
use Rattle.atomic_table.specs.Seated.{TableId, table_id_coded}
use Rattle.atomic_table.specs.declared.shared.Seat.{Seat}
use Rattle.pool_parts.specs.declared.page.shared_page.Page.{Page}
use Rattle.pool_parts.specs.declared.page.history.Operation.TheVariants.{Return}
use Rattle.pool_parts.specs.declared.page.holding.Holding.{Holding}
use Rattle.pool_parts.specs.declared.page.note.PageNote.{PageNote}
use Rattle.pool_parts.specs.declared.page.note.Witness.{Witness}
use Rattle.pool_parts.specs.declared.page.user_view.UserView.{UserView}
use Rattle.pool_parts.specs.Item.{Item}
use Rattle.pool_parts.specs.Ledger.{History, operations_of, IsLegal, IsPrefixOf, NoOperationOn}

-- which page it is, and the values that it opened with, by id
pub record PageView (T : Type 0) : Type 0 where
  pub identity : TableId
  pub opening : List (Option T)

-- a page is told from another by what it shows
pub page_coded : {T : Type 0} → Coded T → Coded (PageView T)
page_coded code =
    coded_via (coded× table_id_coded (coded_list (coded_option code))) (λ page. (page.identity, page.opening))
    (λ one other same i. record { identity = (same i).0; opening = (same i).1 })

-- that two pages are equal
pub same_opened : {T : Type 0} → Coded T → (a b : PageView T) → IsProp (a ≡ b)
same_opened code = Coded-set (page_coded code)

module _ {T K : Type 0} where
  -- what contracts see of a page
  abbrev pub page_view : Page T K → PageView T
  page_view page =
      let table = page.items.table.shared in
      record { identity = table.table_id; opening = table.key.values.value.items }

module _ {T : Type 0} where
  -- what the user of a seat knows
  abbrev pub view_of : Seat (Option T) (UserView T) → UserView T
  view_of seat = seat.me.0

  -- the page of which a holder has an item, as it knows it
  abbrev pub held_page : Holding T → PageView T
  held_page holding = record { identity = holding.seat.table_id; opening = (view_of holding.seat).opening }

  -- the item that a holder has, with a value
  abbrev pub held_item : Holding T → T → Item T
  held_item holding value =
      let known = view_of holding.seat in
      record {
        page = holding.seat.table_id;
        opening = known.opening;
        id = holding.number;
        value = value;
        holder = known.user;
        history = known.operations;
      }

  -- a holder has the item that it had, of the page that it was of
  pub record HoldsSame (old new : Holding T) : Type 0 where
    pub same_page : new.seat.table_id ≡ old.seat.table_id
    pub same_number : new.number ≡ old.number
    pub same_item : (value : T) → held_item new value ≡ held_item old value

  -- a note of this page by a user that did nothing, whose history is legal
  pub record IsNoteOf (page : TableId) (opening : List (Option T)) (note : PageNote T) : Type 0 where
    pub of_page : note.seat.table_id ≡ page
    pub same_opening : (view_of note.seat).opening ≡ opening
    pub legal : IsLegal opening (view_of note.seat).operations
    pub did_nothing : operations_of (view_of note.seat).user (view_of note.seat).operations ≡ []

  -- how an item was returned with this value, by the note of the return
  pub record IsReturned (item : Item T) (note : PageNote T) : Type 0 where
    pub of_page : note.seat.table_id ≡ item.page
    pub same_opening : (view_of note.seat).opening ≡ item.opening
    pub same_user : (view_of note.seat).user ≡ item.holder
    -- each operation of the note's history may come after those before it
    pub legal : IsLegal item.opening (view_of note.seat).operations
    -- its last operation is the giving, after all that the holder knew of and what others did since
    pub others : History T
    pub last : (view_of note.seat).operations ≡ Return item.holder item.id item.value ∷ (others ++ item.history)
    -- nobody was at the item between its pull and its return
    pub untouched : NoOperationOn item.id others
    -- the holder did nothing but the return since
    pub only : operations_of item.holder
        (view_of note.seat).operations ≡ Return item.holder item.id item.value ∷ operations_of item.holder item.history

  -- an item was returned with exactly what its pool's reset left of its value
  pub record IsGivenBack (leaves : T → T → Type 0) (item : Item T) (note : PageNote T) : Type 0 where
    pub left : T
    pub by_reset : leaves item.value left
    pub returned : IsReturned (record item { value = left }) note

  -- the note knows more: what it knew, and what the witness knew, are prefixes of its history
  pub record HasLearned (old : PageNote T) (witness : Witness T) (new : PageNote T) : Type 0 where
    pub of_page : new.seat.table_id ≡ old.seat.table_id
    pub same_user : (view_of new.seat).user ≡ (view_of old.seat).user
    pub same_opening : (view_of new.seat).opening ≡ (view_of old.seat).opening
    pub legal : IsLegal (view_of new.seat).opening (view_of new.seat).operations
    pub from_own : IsPrefixOf (view_of old.seat).operations (view_of new.seat).operations
    pub from_told : IsPrefixOf (view_of witness.seat).operations (view_of new.seat).operations
    -- its user did nothing
    pub same_operations : operations_of (view_of new.seat).user (view_of new.seat).operations
        ≡ operations_of (view_of old.seat).user
        (view_of old.seat).operations
