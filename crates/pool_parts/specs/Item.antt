-- An item that is out of its page, however it is held, and what the page's history tells of it.
use Rattle.std.specs.Prelude.{◌≡◌, ℕ, ◌<◌, List, [], ◌∷◌, ◌++◌, Option, None, false, length, All, IsSomeAnd}
use Rattle.std.specs.Coded.{Coded, Coded-set, coded_ℕ, coded_option, coded_list, coded×}
use Rattle.atomic_table.specs.Seated.{TableId, table_id_coded}
use Rattle.pool_parts.specs.declared.page.history.Operation.TheVariants.{Pull}
use Rattle.pool_parts.specs.declared.page.user_view.UserView.{UserView}
use Rattle.pool_parts.specs.Ledger.{History, operations_of, IsLegal, EachReturned, WasOutBetween}
use Rattle.pool_parts.specs.declared.page.word.TheConstants.{PAGE_ITEMS}

-- so many values, by number, each of which meets the condition
pub record IsFilled {T : Type 0} (count : ℕ) (meets : T → Type 0) (items : List (Option T)) : Type 0 where
  pub all : length items ≡ count
  pub each : All (λ item. IsSomeAnd item meets) items

-- an item, its value now, and what its holder knows of the page
pub record Item (T : Type 0) : Type 0 where
  -- which page it is of
  pub page : TableId
  -- the values that this page opened with, by id
  pub opening : List (Option T)
  -- its number in the page
  pub id : ℕ
  pub value : T
  -- the user of the page that pulled it
  pub holder : ℕ
  -- what the users of the page did, up to this pull
  pub history : History T

-- what a slot shows: its item, what its user knows, and the values that its page opened with, by id
pub record SlotView (T : Type 0) : Type 0 where
  pub item : Item T
  pub known : UserView T
  pub opening : List (Option T)

-- what the evidence shows that each item of a page or of a fixed pool was seen in use: which one it is, and what its
-- user knows
pub record SeenView (T : Type 0) : Type 0 where
  pub page : TableId
  pub known : UserView T

-- what that evidence keeps: each item was out at some place between the first load of its user's last call and now
abbrev pub SawEachOut : {T : Type 0} → SeenView T → Type 0
SawEachOut seen =
    ∥ ((id : ℕ) → id < seen.page.slots
    → WasOutBetween seen.known.opening seen.known.at_load seen.known.operations id) ∥₁

-- what a pulled value of a pool with one table shows: the borrow or the owner of the pool, its item, the value, and
-- what its user knows
pub record PulledView (P T V : Type 0) : Type 0 where
  pub pool : P
  pub item : Item T
  pub value : V
  pub known : UserView T

module _ {T : Type 0} where
  -- what the user of this number knows at first: the values that its page opened with, and no operation
  abbrev pub new_user : List (Option T) → ℕ → UserView T
  new_user opening user =
      record {
        held = None;
        user = user;
        opening = opening;
        operations = [];
        at_load = [];
        merged = [];
        retired = false;
        own = [];
        loads = 0;
        tries = 0;
        met = None;
        meetings = 0;
      }

  -- an item of a page, with a value that meets the condition, as did each that was returned before
  pub record IsPageItem (meets : T → Type 0) (item : Item T) : Type 0 where
    pub in_page : item.id < PAGE_ITEMS
    pub meets_condition : meets item.value
    pub each_returned : EachReturned meets item.history

  -- a pull of this page, or of this fixed pool, gave this item to a user that had known this before
  pub record IsPulled (page : TableId) (before : UserView T) (item : Item T) : Type 0 where
    pub of_page : item.page ≡ page
    pub in_page : item.id < page.slots
    pub same_user : item.holder ≡ before.user
    pub same_opening : item.opening ≡ before.opening
    -- each operation of the history may come after those before it
    pub legal : IsLegal item.opening item.history
    -- its last operation is this pull, with exactly this value, after what the user knew and what others did since
    pub others : History T
    pub last : item.history ≡ Pull item.holder item.id item.value ∷ (others ++ before.operations)
    -- the user did nothing but the pull since
    pub only : operations_of item.holder item.history
        ≡ Pull item.holder item.id item.value ∷ operations_of item.holder before.operations

-- that two names of pages are equal
pub same_page : (a b : TableId) → IsProp (a ≡ b)
same_page = Coded-set table_id_coded

-- that two ids, or their absences, are equal
pub same_holding : (a b : Option ℕ) → IsProp (a ≡ b)
same_holding = Coded-set (coded_option coded_ℕ)

-- that two lists of what is carried are equal
pub same_carrying : {T : Type 0} → Coded T → (a b : List (ℕ × Option T)) → IsProp (a ≡ b)
same_carrying code = Coded-set (coded_list (coded× coded_ℕ (coded_option code)))
