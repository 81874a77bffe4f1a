-- Users that have met: what each step keeps of it, and that users that were introduced to each other hold two items.
use Rattle.std.proofs.Common.{◌≡◌, ◌≢◌, ℕ, false, ◌≤◌, List, [], ◌∷◌, ◌++◌, length, set, Some, None, refl, sym}
use Rattle.std.proofs.Common.{◌∙◌, ap, subst, arith, inl, inr}
use mathlib.Core.Option.{some, some-injective}
use lib.ListN.{get_elem?}
use native.Mathlib.Decide.{ℕ_discrete}
use mathlib.Core.Logic.{dite}
use Rattle.atomic_table.proofs.Lists.{at_set, at_snoc, at_longer, set_here, set_else}
use Rattle.pool_parts.specs.declared.page.user_view.UserView.{UserView}
use Rattle.pool_parts.specs.Ledger.{History, user_of, operations_of, held_id, IsPrefixOf}
use Rattle.pool_parts.specs.PageRule.{User, Meets}
use Rattle.pool_parts.proofs.Ledger.{at_below, operations_of_own, operations_of_other}
use Rattle.pool_parts.proofs.LedgerHolders.{held, longer_own}
use Rattle.pool_parts.proofs.Views.{HasMet, AllHaveMet, introduced_to}

module _ {T : Type 0} where
  -- one user's view has changed: whom another has met is there still
  still_met : (views : List (UserView T)) (user : ℕ) (old new known : UserView T) → get_elem? views user ≡ some old
      → (new.retired ≡ false → (old.retired ≡ false) × (old.meetings ≤ new.meetings)) → HasMet views known
      → HasMet (set views user new) known
  still_met views user old new known at later has other count met =
      let there = has other count met in
      dite (ℕ_discrete other user)
      (λ same. (
        new,
        subst (λ i. get_elem? (set views user new) i ≡ some new) (sym same)
            (set_here views user new (at_below views user old at)),
        λ here.
            let is : there.0 ≡ old =
            some-injective there.0 old (sym there.1 ∙ ap (get_elem? views) same ∙ at) in
            let before = later here in
            let said = there.2 (ap (λ (known : UserView T). known.retired) is ∙ before.0) in
            let had = ap (λ (known : UserView T). known.meetings) is in
            omega (arith, before.1),
      ))
      (λ differ. (there.0, set_else views user other new differ ∙ there.1, there.2))

  pub met_set : (views : List (UserView T)) (user : ℕ) (old new : UserView T) → get_elem? views user ≡ some old
      → (new.retired ≡ false → (old.retired ≡ false) × (old.meetings ≤ new.meetings)) → HasMet views new → AllHaveMet views
      → AllHaveMet (set views user new)
  met_set views user old new at later mine all who known there =
      still_met views user old new known at later (elim (at_set views user who new known there) [
        | inl here ↦ subst (HasMet views) here.1 mine
        | inr before ↦ all who known before.1
      ])

  -- the same where the user has met nobody since
  pub met_same : (views : List (UserView T)) (user : ℕ) (old new : UserView T) → get_elem? views user ≡ some old
      → new.retired ≡ old.retired → new.met ≡ old.met → new.meetings ≡ old.meetings → AllHaveMet views
      → AllHaveMet (set views user new)
  met_same views user old new at retired met meetings all =
      met_set views user old new at (λ here. (sym retired ∙ here, omega arith))
      (λ other count is. all user old at other count (sym met ∙ is)) all

  -- a user has come
  pub met_snoc : (views : List (UserView T)) (last : UserView T) → HasMet views last → AllHaveMet views
      → AllHaveMet (views ++ last ∷ [])
  met_snoc views last mine all who known there other count met =
      let has : HasMet views known = elim (at_snoc views last known who there) [
        | inl before ↦ all who known before
        | inr new ↦ subst (HasMet views) new mine
      ] in
      let found = has other count met in
      (found.0, at_longer views (last ∷ []) other found.0 found.1, found.2)

  pub met_nobody : (views : List (UserView T)) (known : UserView T) → known.met ≡ None → HasMet views known
  met_nobody views known nobody other count met = absurd (cc)

  -- who did no more in a longer history did the same
  same_own : (user : ℕ) (more operations : History T)
      → length (operations_of user (more ++ operations)) ≤ length (operations_of user operations)
      → operations_of user (more ++ operations) ≡ operations_of user operations
  same_own user [] operations no_more = refl
  same_own user (operation ∷ more) operations no_more = dite (ℕ_discrete (user_of operation) user)
      (λ mine.
      let all = ap length (operations_of_own user operation (more ++ operations) mine) in
      let rest = longer_own user more operations in
      absurd (omega arith))
      (λ theirs.
      let other = operations_of_other user operation (more ++ operations) theirs in
      let same = ap length other in
      other ∙ same_own user more operations (omega arith))

  -- who did nothing between two places of a history did nothing between them and one in the middle
  own_between : (user : ℕ) (one two three own : History T) → IsPrefixOf one two → IsPrefixOf two three
      → operations_of user one ≡ own → operations_of user three ≡ own → operations_of user two ≡ own
  own_between user one two three own first second before after =
      let middle = longer_own user second.0 two in
      let last = ap (λ l. length (operations_of user l)) second.1 in
      let all = ap length after in
      let start = ap length before in
      let two_is = first.1 in
      let is = ap (λ l. length (operations_of user l)) first.1 in
      ap (operations_of user) two_is ∙ same_own user first.0 one (omega arith) ∙ before

  -- two users were introduced to each other: were they one, it would have met more often than it has
  module _ (one other met_one met_other last : User T) (start : Meets one met_one)
      (there : Meets (introduced_to met_one.0 other.0, other.1) met_other)
      (back : Meets (introduced_to met_other.0 met_one.0, met_one.1) last) where
    two_users : met_one.0.user ≢ other.0.user
    two_users same =
        let said = there.apart met_one.0.meetings (ap (λ user. Some (user, met_one.0.meetings)) same) in
        let other_user : met_other.0.user ≡ met_one.0.user =
        ap (λ (known : UserView T). known.user) there.knows ∙ sym same in
        let said_back =
        back.apart met_other.0.meetings (ap (λ user. Some (user, met_other.0.meetings)) other_user) in
        absurd (omega (arith, there.once_more))

    pub two_items : (id : ℕ) → one.0.held ≡ Some id → other.0.held ≡ Some id → ⊥
    two_items id one_holds other_holds =
        let same_user : met_one.0.user ≡ one.0.user = ap (λ (known : UserView T). known.user) start.knows in
        let same_own : met_one.0.own ≡ one.0.own = ap (λ (known : UserView T). known.own) start.knows in
        let at_end : operations_of one.0.user last.0.merged ≡ one.0.own =
        ap (λ user. operations_of user last.0.merged) (sym same_user) ∙ back.own ∙ same_own in
        let own : operations_of one.0.user met_other.0.merged ≡ one.0.own =
        own_between one.0.user met_one.0.merged met_other.0.merged last.0.merged one.0.own there.after_told back.after_told
        start.own at_end in
        let one_has = ap held_id own ∙ sym start.holds ∙ one_holds in
        let other_has = ap held_id there.own ∙ sym there.holds ∙ other_holds in
        two_users (same_user ∙ (held other.0.opening met_other.0.merged there.legal).one one.0.user other.0.user id
        one_has other_has)
