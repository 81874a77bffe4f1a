-- For the proofs: the rule of a page, what holds between any two steps on it, and what each kind of step tells its
-- user.
use Rattle.std.specs.Prelude.{◌≡◌, ℕ, ◌+◌, ◌*◌, ◌%◌, ◌^◌, ◌<◌, ◌≤◌, List, [], ◌∷◌, ◌++◌, false, length, ◌/◌, ◌==◌}
use Rattle.std.specs.Prelude.{slice_index, Option, Some, None}
use mathlib.Core.Option.{some}
use lib.ListN.{get_elem?}
use Rattle.std.specs.Int.{bit_at}
use Rattle.atomic_table.specs.Table.{State, Me}
use Rattle.pool_parts.specs.declared.page.history.Operation.TheVariants.{Pull}
use Rattle.pool_parts.specs.declared.page.user_view.UserView.{UserView}
use Rattle.pool_parts.specs.Ledger.{History, operations_of, held_id, value_at, IsLegal, IsPrefixOf, WasOutBetween, EachReturned, returns_among}

-- the bit of an item, by the item's number
abbrev pub item_bit : List ℕ → ℕ → ℕ
item_bit words id = bit_at (slice_index words (id / 32)) (id % 32)

-- words in which the bits of so many items are set, and no others
pub record IsAllFree (items : ℕ) (words : List ℕ) : Type 0 where
  pub one_for_32 : length words ≡ (items + 31) / 32
  pub words_fit : (place : ℕ) → slice_index words place < 2 ^ 32
  pub set : (id : ℕ) → id < items → item_bit words id ≡ 1
  pub clear : (id : ℕ) → items ≤ id → item_bit words id ≡ 0

-- what a user knows, and the values that are out with it
abbrev pub User : Type 0 → Type 0
User T = Me (Option T) (UserView T)

module _ {T : Type 0} where
  -- the user with this number has taken the id and not returned it
  abbrev pub UserHolds : State (Option T) (UserView T) → ℕ → ℕ → Type 0
  UserHolds page user id = (known : UserView T) × (get_elem? page.views user ≡ some known) × (known.held ≡ Some id)

  -- what a user knows of the page's history is so
  pub record IsSound (known : UserView T) : Type 0 where
    pub legal : IsLegal known.opening known.operations
    pub since_load : IsPrefixOf known.at_load known.operations
    pub own_operations : operations_of known.user known.operations ≡ known.own
    pub holds : known.held ≡ held_id known.own

  -- what this user knows is so, and its own operations are all that it made among these of the page
  pub record IsInformed (opening : List (Option T)) (operations : History T) (user : ℕ)
      (known : UserView T) : Type 0 where
    pub sound : IsSound known
    pub number : known.user ≡ user
    pub same_opening : known.opening ≡ opening
    pub own_so_far : operations_of user operations ≡ known.own

  -- what each user knows are prefixes of the page's operations up to now, and so it is of each user that hasn't gone
  pub record Knows (opening : List (Option T)) (operations : History T) (user : ℕ) (known : UserView T) : Type 0 where
    pub seen : IsPrefixOf known.operations operations
    pub merged : IsPrefixOf known.merged operations
    pub acting : known.retired ≡ false → IsInformed opening operations user known

  -- what holds between any two steps, of the word, the homes and who holds what
  pub record IsPage (meets : T → Type 0) (page : State (Option T) (UserView T)) : Type 0 where
    -- each place has a bit in some word
    pub all_places : length page.homes ≤ 32 * length page.words
    -- so no bit is set that has no place
    pub free_is_home : (id : ℕ) → item_bit page.words id ≡ 1 → (value : T) × get_elem? page.homes id
        ≡ some (some (Some value)) × meets value
    pub held_is_out : (user id : ℕ) → UserHolds page user id → (id < length page.homes) × item_bit page.words id ≡ 0
    pub one_holder : (user other id : ℕ) → UserHolds page user id → UserHolds page other id → user ≡ other

  -- the page stands where one legal history of its users' operations has led, of which each user knows a prefix; a
  -- return raises its word's count by so much
  pub record HasHistory (meets : T → Type 0) (raise : ℕ) (opening : List (Option T))
      (page : State (Option T) (UserView T)) : Type 0 where
    pub operations : History T
    pub legal : IsLegal opening operations
    pub each_returned : EachReturned meets operations
    pub free_lies : (id : ℕ) → item_bit page.words id ≡ 1 → (value : T) → get_elem? page.homes id
        ≡ some (some (Some value))
        → value_at opening operations id ≡ Some value
    pub out_lies : (id : ℕ) → item_bit page.words id ≡ 0 → value_at opening operations id ≡ None
    pub informed : (user : ℕ) (known : UserView T) → get_elem? page.views user ≡ some known
        → Knows opening operations user known
    pub no_stranger : (user : ℕ) → length page.views ≤ user → operations_of user operations ≡ []
    -- the upper half of each word counts the returns of its items; where a return raises it by 0, it stays 0
    pub counted : (place : ℕ) → slice_index page.words place / 2 ^ 32
        ≡ (raise * returns_among (λ id. id / 32 == place) operations) % 2 ^ 32

  -- what holds of a page between any two steps
  pub record IsKept (meets : T → Type 0) (raise : ℕ) (opening : List (Option T))
      (page : State (Option T) (UserView T)) : Type 0 where
    pub is_page : IsPage meets page
    pub history : HasHistory meets raise opening page
    -- who was introduced to a user is there, and has met no less often than it said, unless it has gone
    pub have_met : (user : ℕ) (known : UserView T) → get_elem? page.views user ≡ some known
        → (other count : ℕ) → known.met ≡ Some (other, count)
        → (there : UserView T) × (get_elem? page.views other ≡ some there)
        × (there.retired ≡ false → count ≤ there.meetings)

  -- a user went on: the page's history is longer by what others did, and then by what it did itself
  pub record GoesOn (made : History T) (old new : UserView T) : Type 0 where
    pub here : new.retired ≡ false
    pub same_user : new.user ≡ old.user
    pub same_opening : new.opening ≡ old.opening
    pub same_since : new.at_load ≡ old.at_load
    pub operations : (others : History T) × (new.operations ≡ made ++ (others ++ old.operations))
    pub own_before : operations_of old.user old.operations ≡ old.own
    pub own : new.own ≡ made ++ old.own
    pub sound : IsSound new

  -- the item is out, in the history that the user knows
  abbrev pub IsOutNow : UserView T → ℕ → Type 0
  IsOutNow known id = value_at known.opening known.operations id ≡ None

  -- the user may take an item: it is there, holds and carries nothing, and what it knows is so
  pub record MayTake (user : User T) : Type 0 where
    pub carries_none : user.1 ≡ []
    pub holds_none : user.0.held ≡ None
    pub here : user.0.retired ≡ false
    pub sound : IsSound user.0

  -- the user has taken one item of a pool with so many; it carries the item's value, or nothing once that has moved out
  pub record TakesOne (meets : T → Type 0) (items id : ℕ) (value : T) (carried : Option T) (old new : User T)
      : Type 0 where
    pub in_pool : id < items
    pub meets_condition : meets value
    pub holds : new.0.held ≡ Some id
    pub carries : new.1 ≡ (id, carried) ∷ old.1
    pub goes_on : GoesOn (Pull new.0.user id value ∷ []) old.0 new.0
    pub each_returned : EachReturned meets new.0.operations

  -- the item was out, by one try more: the user knows it now
  pub record Misses (id : ℕ) (old new : User T) : Type 0 where
    pub holds_same : new.0.held ≡ old.0.held
    pub carries_same : new.1 ≡ old.1
    pub was_out : IsOutNow new.0 id
    pub loads_same : new.0.loads ≡ old.0.loads
    pub one_more : new.0.tries ≡ old.0.tries + 1
    pub goes_on : GoesOn [] old.0 new.0

  -- a load of one word: its user knows more now, and that the items are out whose bits are clear; what it finds out
  -- starts anew
  pub record Loads (place : ℕ) (old : User T) (word : ℕ) (new : User T) : Type 0 where
    pub holds_same : new.0.held ≡ old.0.held
    pub carries_same : new.1 ≡ old.1
    pub here : new.0.retired ≡ false
    pub same_user : new.0.user ≡ old.0.user
    pub same_opening : new.0.opening ≡ old.0.opening
    pub own_before : operations_of old.0.user old.0.operations ≡ old.0.own
    pub own_same : new.0.own ≡ old.0.own
    pub from_now : new.0.at_load ≡ new.0.operations
    pub after_known : IsPrefixOf old.0.operations new.0.operations
    pub after_told : IsPrefixOf old.0.merged new.0.operations
    pub loads : new.0.loads ≡ old.0.loads + 1
    pub tries : new.0.tries ≡ old.0.tries
    pub sound : IsSound new.0
    pub clear_are_out : (bit : ℕ) → bit < 32 → bit_at word bit ≡ 0 → IsOutNow new.0 (32 * place + bit)

  -- a load of a further word by the same call: what it knows goes on from its first load, and it knows how many
  -- returns the word counts, which items are out and which are free
  pub record Counts (places place : ℕ) (old : User T) (word count : ℕ) (new : User T) : Type 0 where
    pub holds_same : new.0.held ≡ old.0.held
    pub carries_same : new.1 ≡ old.1
    pub loads : new.0.loads ≡ old.0.loads + 1
    pub tries : new.0.tries ≡ old.0.tries
    pub goes_on : GoesOn [] old.0 new.0
    pub clear_are_out : (bit : ℕ) → bit < 32 → bit_at word bit ≡ 0 → IsOutNow new.0 (32 * place + bit)
    pub set_are_free : (bit : ℕ) → bit < 32 → bit_at word bit ≡ 1
        → (32 * place + bit < places) × ((value : T)
        × (value_at new.0.opening new.0.operations (32 * place + bit) ≡ Some value))
    pub counts : count ≡ returns_among (λ id. id / 32 == place) new.0.operations % 2 ^ 32

  -- a load by a user that was introduced to: it is told the history so far, in which it has done what it did
  pub record Meets (old new : User T) : Type 0 where
    -- it holds what it did and has done what it did: it has only heard of others
    pub knows : new.0 ≡ record old.0 { merged = new.0.merged; met = new.0.met; meetings = new.0.meetings }
    pub carries_same : new.1 ≡ old.1
    pub once_more : new.0.meetings ≡ old.0.meetings + 1
    pub legal : IsLegal old.0.opening new.0.merged
    pub after_told : IsPrefixOf old.0.merged new.0.merged
    pub own : operations_of old.0.user new.0.merged ≡ old.0.own
    pub holds : old.0.held ≡ held_id old.0.own
    -- where it was introduced to itself, it has met no less often than it said
    pub apart : (count : ℕ) → old.0.met ≡ Some (old.0.user, count) → count ≤ old.0.meetings

  -- the user has observed each item taken, from the one number up to below the other, since it stood at its beginning
  pub record MissesAll (from to : ℕ) (old new : User T) : Type 0 where
    pub holds_same : new.0.held ≡ old.0.held
    pub carries_same : new.1 ≡ old.1
    pub each_was_out : (id : ℕ) → from ≤ id → id < to
        → WasOutBetween new.0.opening old.0.operations new.0.operations id
    pub goes_on : GoesOn [] old.0 new.0
