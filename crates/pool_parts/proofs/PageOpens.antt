-- A new page keeps the rule.
use Rattle.std.proofs.Common.{◌≡◌, ℕ, mul-zero, zero, suc, ◌<◌, List, [], ◌∷◌, length, get_or, Option, Some, None, refl}
use Rattle.std.proofs.Common.{sym, ap, subst, arith, map}
use Rattle.std.proofs.lemmas.List.{length-map, get_or_past}
use mathlib.Core.Option.{some, some-injective, some-ne-none}
use Rattle.std.specs.Prelude.{All, IsSomeAnd}
use lib.ListN.{get_elem?}
use Rattle.atomic_table.specs.Table.{opening}
use Rattle.atomic_table.proofs.Lists.{at_map}
use Rattle.pool_parts.specs.declared.page.user_view.UserView.{UserView}
use Rattle.pool_parts.proofs.Ledger.{prefix_same}
use Rattle.pool_parts.proofs.Meetings.{met_nobody}
use Rattle.pool_parts.proofs.PageItems.{only_one}
use Rattle.pool_parts.specs.Item.{new_user}
use Rattle.pool_parts.specs.PageRule.{item_bit, IsAllFree, IsPage, IsKept, Knows}

module _ {T : Type 0} where
  -- a page's first user holds nothing
  first_holds_none : (opening : List (Option T)) (known : UserView T) (user id : ℕ)
      → get_elem? (new_user opening 0 ∷ []) user ≡ some known → known.held ≡ Some id → ⊥
  first_holds_none opening known user id at holds =
      let first = (only_one (new_user opening 0) known user at).1 in
      cc (ap (λ (known : UserView T). known.held) first, holds)

  -- what lies at a place of a page at its start
  opening_at : (items : List (Option T)) (id : ℕ) (value : Option T) → get_elem? (map some items) id ≡ some (some value)
      → get_or items id None ≡ value
  opening_at [] id value at = absurd (some-ne-none (some value) (sym at))
  opening_at (item ∷ items) zero value at = some-injective item value (some-injective (some item) (some value) at)
  opening_at (item ∷ items) (suc id) value at = opening_at items id value at

module _ {T : Type 0} (meets : T → Type 0) where
  -- what lies at a place of a filled list
  filled_at : (items : List (Option T)) (id : ℕ) → id < length items → All (λ item. IsSomeAnd item meets) items
      → (value : T) × (get_elem? items id ≡ some (Some value)) × meets value
  filled_at [] id within each = absurd (omega arith)
  filled_at (None ∷ items) id within each = absurd (each 0 None (omega arith))
  filled_at (Some value ∷ items) zero within each = (value, refl, each 0 None (omega arith))
  filled_at (Some value ∷ items) (suc id) within each =
      filled_at items id (omega arith) (λ k default below. each (suc k) default (omega arith))

  module _ (words : List ℕ) (items : List (Option T)) (free : IsAllFree (length items) words)
      (each : All (λ item. IsSomeAnd item meets) items) where
    same_count : length (map some items) ≡ length items
    same_count = length-map items some

    -- a page at its start: each item is free and at home, and nothing was done
    opens_page : IsPage meets (opening words items (new_user items 0))
    opens_page = record {
      all_places = let places = same_count in let all = free.one_for_32 in omega arith;
      free_is_home = λ id one. let found = filled_at items id (let none = free.clear id in grind arith) each in
          (found.0, at_map some items id (Some found.0) found.1, found.2);
      held_is_out = λ user id holds. absurd (first_holds_none items holds.0 user id holds.1 holds.2);
      one_holder = λ user other id holds _. absurd (first_holds_none items holds.0 user id holds.1 holds.2);
    }

    first_informed : (user : ℕ) (known : UserView T) → get_elem? (new_user items 0 ∷ []) user ≡ some known
        → Knows items [] user known
    first_informed user known at =
        let first = only_one (new_user items 0) known user at in
        subst (λ (pair : ℕ × UserView T). Knows items [] pair.0 pair.1) (λ i. (first.0 i, first.1 i)) record {
          seen = prefix_same [];
          merged = prefix_same [];
          acting = λ _. record {
            sound = record { legal = tt; since_load = prefix_same []; own_operations = refl; holds = refl };
            number = refl;
            same_opening = refl;
            own_so_far = refl;
          };
        }

    -- nothing lies at an item whose bit is clear, since there is none
    nothing_past : (id : ℕ) → item_bit words id ≡ 0 → get_or items id None ≡ None
    nothing_past id out = grind (arith, free.set id, get_or_past items id None)

    starts : (raise : ℕ) → IsKept meets raise items (opening words items (new_user items 0))
    starts raise = record {
      is_page = opens_page;
      history = record {
        operations = [];
        legal = tt;
        each_returned = tt;
        free_lies = λ id free value home. opening_at items id (Some value) home;
        out_lies = nothing_past;
        informed = first_informed;
        no_stranger = λ user past. refl;
        counted = λ place. let fits = free.words_fit place in let none = mul-zero raise in
            grind arith;
      };
      have_met = λ user known at.
          let first = (only_one (new_user items 0) known user at).1 in
          met_nobody (new_user items 0 ∷ []) known (sym (ap (λ (known : UserView T). known.met) first));
    }

    -- the same of values that are said to be these
    pub opens : (raise : ℕ) (said : List (Option T)) → said ≡ items
        → IsKept meets raise said (opening words items (new_user said 0))
    opens raise said same =
        subst (λ o. IsKept meets raise o (opening words items (new_user o 0))) (sym same) (starts raise)
