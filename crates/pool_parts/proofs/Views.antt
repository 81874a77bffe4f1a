-- What users know after they were told something, or have gone: the steps of `rule` by names.
use Rattle.std.proofs.Common.{sym, subst}
use Rattle.std.specs.Prelude.{◌≡◌, ℕ, ◌+◌, ◌-◌, ◌*◌, ◌^◌, ◌<◌, ◌≤◌, List, [], ◌∷◌, Option, Some, None, true, false}
use Rattle.std.specs.Int.{bit_at}
use Rattle.atomic_table.specs.Table.{rest}
use Rattle.pool_parts.specs.Word.{ClearsBit}
use Rattle.pool_parts.specs.declared.page.history.Operation.TheVariants.{Return}
use mathlib.Core.Option.{some}
use lib.ListN.{get_elem?}
use Rattle.pool_parts.specs.declared.page.user_view.UserView.{UserView}
use Rattle.pool_parts.specs.Ledger.{operations_of, IsPrefixOf, EachReturned}
use Rattle.pool_parts.specs.Item.{new_user}
use Rattle.pool_parts.specs.PageRule.{User, GoesOn, TakesOne, Misses, Loads}

module _ {T : Type 0} where
  -- a user that was told what another knew
  abbrev pub told_of : UserView T → UserView T → UserView T
  told_of old other = record old { merged = other.operations; met = other.met }

  -- who only remembers what another knew
  abbrev pub witness_of : UserView T → UserView T
  witness_of known = record (new_user known.opening 0) { operations = known.operations; retired = true }

  -- a user that has gone
  abbrev pub gone_view : UserView T
  gone_view = record (new_user [] 0) { retired = true }

  -- what introduces a user to another
  abbrev pub introduction_of : UserView T → UserView T
  introduction_of known =
      record (new_user known.opening 0) {
        operations = known.merged;
        retired = true;
        met = Some
            (known.user, known.meetings);
      }

  -- a user to whom another was introduced
  abbrev pub introduced_to : UserView T → UserView T → UserView T
  introduced_to known other = record other { merged = known.merged; met = Some (known.user, known.meetings) }

  -- who was introduced to this user is there, and has met no less often than it said, unless it has gone
  abbrev pub HasMet : List (UserView T) → UserView T → Type 0
  HasMet views known =
      (other count : ℕ) → known.met ≡ Some (other, count)
      → (there : UserView T) × (get_elem? views other ≡ some there) × (there.retired ≡ false → count ≤ there.meetings)

  -- so it is of each user
  abbrev pub AllHaveMet : List (UserView T) → Type 0
  AllHaveMet views = (user : ℕ) (known : UserView T) → get_elem? views user ≡ some known → HasMet views known

  -- a clearing of the one bit that the operand leaves out
  abbrev pub Clears : (T → Type 0) → ℕ → ℕ → ℕ → User T → ℕ → User T → Type 0
  Clears meets places place operand old word new =
      ((bit : ℕ) → bit < 32 → ClearsBit (2 ^ 64 - 1) bit operand → bit_at word bit ≡ 1
      → (value : T) × TakesOne meets places (32 * place + bit) value (Some value) old new
      × (new.0.loads ≡ old.0.loads) × (new.0.tries ≡ old.0.tries + 1))
      × ((bit : ℕ) → bit < 32 → ClearsBit (2 ^ 64 - 1) bit operand → bit_at word bit ≡ 0
      → Misses (32 * place + bit) old new)

  -- a return: the user holds nothing any more, and the value that it had taken last is home
  abbrev pub GivesBack : (T → Type 0) → User T → User T → Type 0
  GivesBack meets old new =
      (new.0.held ≡ None) × (new.1 ≡ rest old.1) × EachReturned meets new.0.operations
      × ((id : ℕ) (value : T) → old.0.held ≡ Some id → old.1 ≡ (id, Some value) ∷ []
      → GoesOn (Return new.0.user id value ∷ []) old.0 new.0)

  -- where a user stands after a load, that knew this before
  pub record StartsFrom (known start : UserView T) : Type 0 where
    pub same_user : start.user ≡ known.user
    pub same_opening : start.opening ≡ known.opening
    pub own_before : operations_of known.user known.operations ≡ known.own
    pub own_same : start.own ≡ known.own
    pub from_now : start.at_load ≡ start.operations
    pub after_known : IsPrefixOf known.operations start.operations

  pub starts_from : (place word : ℕ) (old new : User T) → Loads place old word new → StartsFrom old.0 new.0
  starts_from place word old new loaded = record {
    same_user = loaded.same_user;
    same_opening = loaded.same_opening;
    own_before = loaded.own_before;
    own_same = loaded.own_same;
    from_now = loaded.from_now;
    after_known = loaded.after_known;
  }

  -- so it is of a new user, by the number that it has
  pub starts_new : (place word : ℕ) (opening : List (Option T)) (start : User T) (user : ℕ) → user ≡ start.0.user
      → Loads place (new_user opening start.0.user, []) word start → StartsFrom (new_user opening user) start.0
  starts_new place word opening start user same loaded =
      subst (λ user. StartsFrom (new_user opening user) start.0) (sym same) (starts_from _ _ _ _ loaded)
