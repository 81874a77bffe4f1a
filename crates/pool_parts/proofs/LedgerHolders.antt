-- Who holds what, by a ledger alone.
use Rattle.std.proofs.Common.{◌≡◌, ◌≢◌, ◌⊎◌, ◌≤◌, ℕ, List, [], ◌∷◌, ◌++◌, length, Option, Some, None, refl, sym, ap}
use Rattle.std.proofs.Common.{◌∙◌, subst, arith, inl, inr}
use native.Mathlib.Decide.{ℕ_discrete}
use mathlib.Core.Logic.{dite}
use Rattle.pool_parts.specs.declared.page.history.Operation.{Operation}
use Rattle.pool_parts.specs.declared.page.history.Operation.TheVariants.{Pull, Return}
use Rattle.pool_parts.specs.Ledger.{History, user_of, id_of, operations_of, held_id, left_by, value_at, MayFollow, IsLegal, NoOperationOn, value_at-here, value_at-elsewhere}
use Rattle.pool_parts.specs.declared.page.user_view.UserView.{UserView}
use Rattle.pool_parts.specs.PageRule.{GoesOn}
use Rattle.pool_parts.proofs.Ledger.{behind, operations_of_own, operations_of_other}

module _ {T : Type 0} where
  no_value : (value : T) → {A : Type 0} → Some value ≡ None → A
  no_value value same = absurd (cc)

  -- who holds an item after its own operation has pulled it with that operation
  took_now : (operation : Operation T) (before : History T) (id : ℕ) → held_id (operation ∷ before) ≡ Some id
      → (id_of operation ≡ id) × (left_by operation ≡ None)
  took_now (Pull user place value) before id holds = (cc, refl)
  took_now (Return user place value) before id holds = cc

  -- of a legal history: what is held is out, and has one holder
  pub record Held (opening : List (Option T)) (operations : History T) : Type 0 where
    pub out : (user id : ℕ) → held_id (operations_of user operations) ≡ Some id → value_at opening operations id ≡ None
    pub one : (user other id : ℕ) → held_id (operations_of user operations) ≡ Some id
        → held_id (operations_of other operations) ≡ Some id → user ≡ other

  -- while a user holds an item, no other user's operation is on it
  other_item : (opening : List (Option T)) (operation : Operation T) (operations : History T) (user id : ℕ)
      → MayFollow opening operations operation → Held opening operations → user_of operation ≢ user
      → held_id (operations_of user operations) ≡ Some id → id_of operation ≢ id
  other_item opening (Pull who place value) operations user id may before differ holds same =
      no_value value (sym may.0 ∙ ap (value_at opening operations) same ∙ before.out user id holds)
  other_item opening (Return who place value) operations user id may before differ holds same =
      differ (before.one who user id (may.1 ∙ ap Some same) holds)

  -- who holds an item after one more operation: its user, who took it now, or another, who held it before
  held_after : (opening : List (Option T)) (operation : Operation T) (operations : History T) (user id : ℕ)
      → MayFollow opening operations operation → Held opening operations
      → held_id (operations_of user (operation ∷ operations)) ≡ Some id
      → ((user_of operation ≡ user) × (id_of operation ≡ id) × (left_by operation ≡ None))
      ⊎ ((id_of operation ≢ id) × (held_id (operations_of user operations) ≡ Some id))
  held_after opening operation operations user id may before holds = dite (ℕ_discrete (user_of operation) user)
      (λ mine. let took = took_now operation (operations_of user operations) id
      (ap held_id (sym (operations_of_own user operation operations mine)) ∙ holds) in inl (mine, took.0, took.1))
      (λ theirs. let was = ap held_id (sym (operations_of_other user operation operations theirs)) ∙ holds in
      inr (other_item opening operation operations user id may before theirs was, was))

  pub held : (opening : List (Option T)) (operations : History T) → IsLegal opening operations → Held opening operations
  held opening [] legal = record {
    out = λ user id holds. cc;
    one = λ user other id holds _. cc;
  }
  held opening (operation ∷ operations) legal =
      let before = held opening operations legal.1 in
      let now = λ (user id : ℕ). held_after opening operation operations user id legal.0 before in
      record {
        out = λ user id holds. elim (now user id holds) [
          | inl mine ↦ value_at-here opening operation operations id mine.1 ∙ mine.2
          | inr theirs ↦ value_at-elsewhere opening operation operations id theirs.0 ∙ before.out user id theirs.1
        ];
        one = λ one two id holds_one holds_two. elim (now one id holds_one) [
          | inl mine ↦ elim (now two id holds_two) [
            | inl also ↦ sym mine.0 ∙ also.0
            | inr theirs ↦ absurd (theirs.0 mine.1)
          ]
          | inr theirs ↦ elim (now two id holds_two) [
            | inl mine ↦ absurd (theirs.0 mine.1)
            | inr both ↦ before.one one two id theirs.1 both.1
          ]
        ];
      }

  pub longer_own : (user : ℕ) (more operations : History T)
      → length (operations_of user operations) ≤ length (operations_of user (more ++ operations))
  longer_own user [] operations = omega arith
  longer_own user (operation ∷ more) operations = let rest = longer_own user more operations in
      dite (ℕ_discrete (user_of operation) user)
      (λ mine. let all = ap length (operations_of_own user operation (more ++ operations) mine) in omega arith)
      (λ theirs. let all = ap length (operations_of_other user operation (more ++ operations) theirs) in omega arith)

  -- where a user did nothing while it held an item, no operation was on it
  pub spared : (opening : List (Option T)) (user id : ℕ) (others operations : History T)
      → IsLegal opening (others ++ operations)
      → operations_of user (others ++ operations) ≡ operations_of user operations
      → held_id (operations_of user operations) ≡ Some id → NoOperationOn id others
  spared opening user id [] operations legal same holds = tt
  spared opening user id (operation ∷ others) operations legal same holds =
      let theirs : user_of operation ≢ user = λ mine.
      let all = ap length (operations_of_own user operation (others ++ operations) mine) in
      let more = longer_own user others operations in
      let equal = ap length same in absurd (omega arith) in
      let before : operations_of user (others ++ operations) ≡ operations_of user operations =
      sym (operations_of_other user operation (others ++ operations) theirs) ∙ same in (
        other_item opening operation (others ++ operations) user id legal.0
            (held opening (others ++ operations) legal.1) theirs (ap held_id before ∙ holds),
        spared opening user id others operations legal.1 before holds,
      )

  -- a return: nobody was at the item since its pull
  pub spared_return : (known new : UserView T) (who id : ℕ) (value : T) → who ≡ known.user
      → GoesOn (Return who id value ∷ []) known new
      → (others : History T) × (new.operations ≡ Return who id value ∷ (others ++ known.operations))
      × NoOperationOn id others
  spared_return known new who id value same goes =
      let others = goes.operations.0 in
      let operation : Operation T = Return who id value in
      let rest : History T = others ++ known.operations in
      let legal : IsLegal new.opening (operation ∷ rest) =
      subst (IsLegal new.opening) goes.operations.1 goes.sound.legal in
      let own : operations_of who (operation ∷ rest) ≡ operation ∷ known.own =
      ap (operations_of who) (sym goes.operations.1) ∙ ap (λ u.
      operations_of u new.operations) (same ∙ sym goes.same_user) ∙ goes.sound.own_operations ∙ goes.own in
      let mine : operations_of who rest ≡ known.own =
      ap behind (sym (operations_of_own who operation rest refl) ∙ own) in
      let before : operations_of who rest ≡ operations_of who known.operations =
      mine ∙ sym goes.own_before ∙ ap (λ u. operations_of u known.operations) (sym same) in (
        others,
        goes.operations.1,
        spared new.opening who id others known.operations legal.1 before (ap held_id (sym before) ∙ legal.0.1),
      )
