-- The history of a page goes on by a step: a pull, a return, a load, or a user that joins or learns.
use Rattle.atomic_table.specs.Table.{State}
use Rattle.std.proofs.Common.{◌≡◌, ◌≢◌, ℕ, false, ◌*◌, ◌%◌, ◌^◌, ◌<◌, List, [], ◌∷◌, ◌++◌, length, set, get_or, Option, Some, ◌/◌, ◌+◌, ◌==◌}
use Rattle.std.proofs.Common.{None, refl, sym, ◌∙◌, ap, subst, arith, length-append, length-set, inl, inr}
use mathlib.Core.Option as maybe
use mathlib.Core.Option.{some}
use lib.ListN.{get_elem?}
use native.Mathlib.Decide.{ℕ_discrete}
use mathlib.Core.Logic.{dite}
use Rattle.std.specs.Int.{bit_at}
use Rattle.atomic_table.proofs.Lists.{set_else}
use Rattle.pool_parts.specs.declared.page.user_view.UserView.{UserView}
use Rattle.pool_parts.specs.declared.page.history.Operation.{Operation}
use Rattle.pool_parts.specs.Ledger.{History, user_of, id_of, operations_of, held_id, left_by, value_at, MayFollow, IsLegal, IsPrefixOf, EachReturned, returns_among, value_at-here, value_at-elsewhere}
use Rattle.pool_parts.specs.Item.{new_user}
use Rattle.pool_parts.specs.PageRule.{item_bit, HasHistory, Knows, GoesOn, IsSound}
use Rattle.pool_parts.proofs.Ledger.{operations_of_own, operations_of_other}
use Rattle.pool_parts.proofs.Ledger.{informed_later, informed_set, at_below}
use Rattle.pool_parts.proofs.Ledger.{prefix_same, prefix_further}
use Rattle.pool_parts.proofs.WordBits.{item_bit_of, Turns}
use Rattle.pool_parts.proofs.PageItems.{state, at_snoc_last}

module _ {T : Type 0} where
  -- one view has changed, and nothing else
  abbrev pub told_page : State (Option T) (UserView T) → ℕ → UserView T → State (Option T) (UserView T)
  told_page page user known = record page { views = set page.views user known }

  -- what a user knows once it has seen these operations, and made its own behind them
  abbrev went_on : UserView T → History T → History T → Option ℕ → ℕ → ℕ → UserView T
  went_on old operations made held loads tries = record old {
    held = held;
    operations = made ++ operations;
    own = made ++ old.own;
    loads = loads;
    tries = tries;
  }

  abbrev pub acted : UserView T → History T → Operation T → ℕ → UserView T
  acted old operations operation tries =
      went_on old operations (operation ∷ []) (held_id (operation ∷ old.own)) old.loads tries

  abbrev pub has_seen : UserView T → History T → ℕ → ℕ → UserView T
  has_seen old operations loads tries = went_on old operations [] old.held loads tries

module _ {T : Type 0} (meets : T → Type 0) (raise : ℕ) (opening : List (Option T)) where
  -- what a user knows that comes now
  abbrev pub newcomer : History T → ℕ → UserView T
  newcomer operations user =
      record (new_user opening user) { operations = operations; at_load = operations; loads = 1 }

  pub joins_history : (page : State (Option T) (UserView T)) (known : UserView T)
      → (has : HasHistory meets raise opening page)
      → Knows opening has.operations (length page.views) known
      → HasHistory meets raise opening (state page.words page.homes (page.views ++ known ∷ []))
  joins_history page known has is = record {
    operations = has.operations;
    legal = has.legal;
    each_returned = has.each_returned;
    free_lies = has.free_lies;
    out_lies = has.out_lies;
    informed = λ user view at. elim (at_snoc_last page.views known view user at) [
      | inl before ↦ has.informed user view before
      | inr last ↦ subst (λ (pair : ℕ × UserView T). Knows opening has.operations pair.0 pair.1) (λ i.
          (last.0 i, last.1 i)) is
    ];
    no_stranger = λ user past. has.no_stranger user (let all = length-append page.views (known ∷ []) in omega arith);
    counted = has.counted;
  }

  -- an item whose bit is clear in its word is out now
  pub clear_out : (page : State (Option T) (UserView T)) (has : HasHistory meets raise opening page) (own : List (Option T))
      → own ≡ opening
      → (place bit : ℕ) → bit < 32 → bit_at (get_or page.words place 0) bit ≡ 0
      → value_at own has.operations (32 * place + bit) ≡ None
  clear_out page has own same place bit within clear =
      ap (λ o. value_at o has.operations (32 * place + bit)) same
      ∙ has.out_lies (32 * place + bit) (item_bit_of page.words place bit within ∙ clear)

  -- no bit has changed, and one user knows something else
  pub saw_history : (page : State (Option T) (UserView T)) (words : List ℕ) (user : ℕ) (known : UserView T)
      → (has : HasHistory meets raise opening page) → ((i : ℕ) → item_bit words i ≡ item_bit page.words i)
      → ((p : ℕ) → ((get_or words p 0) / 2 ^ 32) ≡ ((get_or page.words p 0) / 2 ^ 32))
      → Knows opening has.operations user known
      → HasHistory meets raise opening (state words page.homes (set page.views user known))
  saw_history page words user known has same_bits same_counts knows = record {
    operations = has.operations;
    legal = has.legal;
    each_returned = has.each_returned;
    free_lies = λ i set_now. has.free_lies i (sym (same_bits i) ∙ set_now);
    out_lies = λ i out_now. has.out_lies i (sym (same_bits i) ∙ out_now);
    informed = informed_set opening has.operations page.views user known (λ other view _ there.
        has.informed other view there) knows;
    no_stranger = λ other past. has.no_stranger other (let all = length-set page.views user known in omega arith);
    counted = λ place. same_counts place ∙ has.counted place;
  }

  -- one user goes on
  module _ (page : State (Option T) (UserView T)) (has : HasHistory meets raise opening page) (user : ℕ) (me : UserView T)
      (at : get_elem? page.views user ≡ some me) (here : me.retired ≡ false) where
    own_now : operations_of me.user has.operations ≡ me.own
    own_now = let is = (has.informed user me at).acting here in
        ap (λ u. operations_of u has.operations) is.number ∙ is.own_so_far

    pub held_now : held_id (operations_of me.user has.operations) ≡ me.held
    held_now = ap held_id own_now ∙ sym ((has.informed user me at).acting here).sound.holds

    after : (made : History T) (held : Option ℕ) (loads tries : ℕ) → IsLegal opening (made ++ has.operations)
        → operations_of user (made ++ has.operations) ≡ made ++ me.own → held ≡ held_id (made ++ me.own)
        → Knows opening (made ++ has.operations) user (went_on me has.operations made held loads tries)
        × GoesOn made me (went_on me has.operations made held loads tries)
    after made held loads tries allowed own holds =
        let knows = has.informed user me at in
        let is = knows.acting here in
        let now : History T = made ++ has.operations in
        let more : IsPrefixOf has.operations now = (made, refl) in
        let sound : IsSound (went_on me has.operations made held loads tries) = record {
          legal = subst (λ o. IsLegal o now) (sym is.same_opening) allowed;
          since_load = prefix_further me.at_load me.operations now is.sound.since_load
              (prefix_further me.operations has.operations now knows.seen more);
          own_operations = ap (λ u. operations_of u now) is.number ∙ own;
          holds = holds;
        } in (
          record {
            seen = prefix_same now;
            merged = prefix_further me.merged has.operations now knows.merged more;
            acting = λ _.
                record { sound = sound; number = is.number; same_opening = is.same_opening; own_so_far = own };
          },
          record {
            here = here;
            same_user = refl;
            same_opening = refl;
            same_since = refl;
            operations = (knows.seen.0, ap (λ l. made ++ l) knows.seen.1);
            own_before = is.sound.own_operations;
            own = refl;
            sound = sound;
          },
        )

    pub after_load : (loads tries : ℕ)
        → Knows opening has.operations user (has_seen me has.operations loads tries)
        × GoesOn [] me (has_seen me has.operations loads tries)
    after_load loads tries = let is = (has.informed user me at).acting here in
        after [] me.held loads tries has.legal is.own_so_far is.sound.holds

    -- it acts on an item, whose bit turns to this, and at whose place this lies now
    pub acts_history : (words : List ℕ) (bit : ℕ) (home : maybe.Option (Option T)) (operation : Operation T) (tries : ℕ)
        → user_of operation ≡ me.user → MayFollow opening has.operations operation
        → EachReturned meets (operation ∷ has.operations)
        → Turns page.words (id_of operation) bit words
        → (bit ≡ 1 → (value : T)
        → get_elem? (set page.homes (id_of operation) home) (id_of operation) ≡ some (some (Some value))
        → left_by operation ≡ Some value)
        → (bit ≡ 0 → left_by operation ≡ None)
        → ((p : ℕ) → ((get_or words p 0) / 2 ^ 32)
        ≡ (raise * returns_among (λ id. id / 32 == p) (operation ∷ has.operations)) % 2 ^ 32)
        → HasHistory meets raise opening
        (state words (set page.homes (id_of operation) home)
        (set page.views user (acted me has.operations operation tries)))
        × GoesOn (operation ∷ []) me (acted me has.operations operation tries)
    acts_history words bit home operation tries mine may each_returned turned free out counted =
        let id : ℕ = id_of operation in
        let homes = set page.homes id home in
        let known : UserView T = acted me has.operations operation tries in
        let is = (has.informed user me at).acting here in
        let number : me.user ≡ user = is.number in
        let step = after (operation ∷ []) (held_id (operation ∷ me.own)) me.loads tries (may, has.legal)
        (operations_of_own user operation has.operations (mine ∙ number) ∙ ap (λ l. operation ∷ l) is.own_so_far) refl
        in (
          record {
            operations = operation ∷ has.operations;
            legal = (may, has.legal);
            each_returned = each_returned;
            free_lies = λ i set_now found home_now. dite (ℕ_discrete id i)
                (λ same. value_at-here opening operation has.operations i same
                ∙ free (sym turned.here ∙ ap (item_bit words) same ∙ set_now) found
                (ap (get_elem? homes) same ∙ home_now))
                (λ differ. let other : i ≢ id = λ same. differ (sym same) in
                value_at-elsewhere opening operation has.operations i differ
                ∙ has.free_lies i (sym (turned.others i other) ∙ set_now) found
                (sym (set_else page.homes id i home other) ∙ home_now));
            out_lies = λ i out_now. dite (ℕ_discrete id i)
                (λ same. value_at-here opening operation has.operations i same
                ∙ out (sym turned.here ∙ ap (item_bit words) same ∙ out_now))
                (λ differ. value_at-elsewhere opening operation has.operations i differ
                ∙ has.out_lies i (sym (turned.others i (λ same. differ (sym same))) ∙ out_now));
            informed = informed_set opening (operation ∷ has.operations) page.views user known
                (λ other view apart there.
                informed_later opening has.operations operation other view (λ same.
                apart (sym same ∙ mine ∙ number)) (has.informed other view there)) step.0;
            no_stranger = λ other past.
                let below = at_below page.views user me at in
                let all = length-set page.views user known in
                operations_of_other other operation has.operations (λ same. let who = mine in absurd (omega arith))
                ∙ has.no_stranger other (omega arith);
            counted = counted;
          },
          step.1,
        )
