-- What follows from a legal ledger: an operation is on a number with which the pool opened, further
-- numbers may come, and what is out has a holder.
use Rattle.std.proofs.Common.{◌≡◌, ◌≢◌, inl, inr, ℕ, ◌<◌, ◌≤◌, ◌==◌, Bool, true, false, if◌then◌else◌, Option, Some}
use Rattle.std.proofs.Common.{None, List, [], ◌∷◌, ◌++◌, length, get_or, refl, ap, sym, ◌∙◌}
use Rattle.std.proofs.lemmas.Bool.{cases_eq, cases_lt}
use Rattle.std.proofs.lemmas.List.{get_or_append_left, get_or_past}
use Rattle.pool_parts.specs.declared.page.history.Operation.{Operation}
use Rattle.pool_parts.specs.declared.page.history.Operation.TheVariants.{Pull, Return}
use Rattle.pool_parts.specs.Ledger.{History, user_of, id_of, operations_of, held_id, left_by, value_at, MayFollow, IsLegal, NoOperationOn, value_at-here, value_at-elsewhere}
use Rattle.pool_parts.proofs.Ledger.{operations_of_own, operations_of_other}

module _ {T : Type 0} where
  -- where no operation was on a number, what the pool opened with lies there, and nobody holds it
  pub untouched-value : (opening : List (Option T)) (history : History T) (id : ℕ) → NoOperationOn id history
      → value_at opening history id ≡ get_or opening id None
  untouched-value opening [] id none = refl
  untouched-value opening (operation ∷ before) id none =
      value_at-elsewhere opening operation before id none.0 ∙ untouched-value opening before id none.1

  held-apart : (operation : Operation T) (own : History T) (id : ℕ) (test : Bool) → id_of operation ≢ id
      → held_id own ≢ Some id → held_id (if test then operation ∷ own else own) ≢ Some id
  held-apart (Pull user place value) own id true other none holds = other (cc)
  held-apart (Return user place value) own id true other none holds = cc
  held-apart operation own id false other none holds = none holds

  untouched-held : (history : History T) (user id : ℕ) → NoOperationOn id history
      → held_id (operations_of user history) ≢ Some id
  untouched-held [] user id none holds = cc
  untouched-held (Pull who place value ∷ before) user id none holds =
      held-apart (Pull who place value) (operations_of user before) id (who == user) none.0
      (untouched-held before user id none.1) holds
  untouched-held (Return who place value ∷ before) user id none holds =
      held-apart (Return who place value) (operations_of user before) id (who == user) none.0
      (untouched-held before user id none.1) holds

  -- no operation is on a number past those with which the pool opened
  pub untouched-past : (opening : List (Option T)) (history : History T) → IsLegal opening history → (id : ℕ)
      → length opening ≤ id → NoOperationOn id history
  untouched-past opening [] legal id past = tt
  untouched-past opening (Pull user place value ∷ before) (may, legal) id past =
      let none = untouched-past opening before legal id past in
      let lies = untouched-value opening before id none ∙ get_or_past opening id None past in
      let there = may.0 in
      (λ same. absurd (cc), none)
  untouched-past opening (Return user place value ∷ before) (may, legal) id past =
      let none = untouched-past opening before legal id past in
      (λ same. untouched-held before user id none (may.1 ∙ ap Some same), none)

  inside : (opening : List (Option T)) (history : History T) → IsLegal opening history → (id : ℕ)
      → (NoOperationOn id history → length opening ≤ id → ⊥) → id < length opening
  inside opening history legal id touched =
      elim (cases_lt id (length opening)) [
        | inl below ↦ below
        | inr past ↦ absurd (touched (untouched-past opening history legal id past) past)
      ]

  pub held-inside : (opening : List (Option T)) (history : History T) → IsLegal opening history → (user id : ℕ)
      → held_id (operations_of user history) ≡ Some id → id < length opening
  held-inside opening history legal user id holds =
      inside opening history legal id (λ none past. untouched-held history user id none holds)

  pub free-inside : (opening : List (Option T)) (history : History T) → IsLegal opening history → (id : ℕ) (value : T)
      → value_at opening history id ≡ Some value → id < length opening
  free-inside opening history legal id value lies =
      inside opening history legal id (λ none past.
      let is = untouched-value opening history id none ∙ get_or_past opening id None past in cc)

  -- an operation that may follow is on a number with which the pool opened
  pub may-inside : (opening : List (Option T)) (history : History T) → IsLegal opening history
      → (operation : Operation T) → MayFollow opening history operation → id_of operation < length opening
  may-inside opening history legal (Pull user id value) may = free-inside opening history legal id value may.0
  may-inside opening history legal (Return user id value) may = held-inside opening history legal user id may.1

  -- further numbers leave what lies at the others, and a legal ledger legal
  pub value_at-more : (opening more : List (Option T)) (history : History T) (id : ℕ) → id < length opening
      → value_at (opening ++ more) history id ≡ value_at opening history id
  value_at-more opening more [] id below = get_or_append_left opening more None id below
  value_at-more opening more (Pull user place value ∷ before) id below =
      ap (λ lies. if place == id then None else lies) (value_at-more opening more before id below)
  value_at-more opening more (Return user place value ∷ before) id below =
      ap (λ lies. if place == id then Some value else lies) (value_at-more opening more before id below)

  pub legal-more : (opening more : List (Option T)) (history : History T) → IsLegal opening history
      → IsLegal (opening ++ more) history
  legal-more opening more [] legal = tt
  legal-more opening more (Pull user id value ∷ before) (may, legal) =
      let below = free-inside opening before legal id value may.0 in
      let lies = value_at-more opening more before id below ∙ may.0 in
      ((lies, may.1), legal-more opening more before legal)
  legal-more opening more (Return user id value ∷ before) (may, legal) =
      let below = held-inside opening before legal user id may.1 in
      let out = value_at-more opening more before id below ∙ may.0 in
      ((out, may.1), legal-more opening more before legal)

  -- what is out has a holder, where the pool opened with a value there
  taker : (operation : Operation T) (own : History T) → left_by operation ≡ None
      → held_id (operation ∷ own) ≡ Some (id_of operation)
  taker (Pull user id value) own left = refl
  taker (Return user id value) own left = absurd (cc)

  another : (opening : List (Option T)) (operation : Operation T) (before : History T)
      → MayFollow opening before operation → (user id : ℕ) → id_of operation ≢ id
      → held_id (operations_of user before) ≡ Some id → user_of operation ≢ user
  another opening (Pull who place value) before may user id other holds own = let none = may.1 in cc
  another opening (Return who place value) before may user id other holds own = let held = may.1 in other (cc)

  pub has-holder : (opening : List (Option T)) (history : History T) → IsLegal opening history → (id : ℕ)
      → get_or opening id None ≢ None → value_at opening history id ≡ None
      → (user : ℕ) × (held_id (operations_of user history) ≡ Some id)
  has-holder opening [] legal id opens out = absurd (opens out)
  has-holder opening (operation ∷ before) (may, legal) id opens out =
      elim (cases_eq (id_of operation) id) [
        | inl same ↦ (
          user_of operation,
          ap held_id (operations_of_own (user_of operation) operation before refl)
              ∙ taker operation (operations_of (user_of operation) before)
              (sym (value_at-here opening operation before id same) ∙ out)
              ∙ ap Some same,
        )
        | inr other ↦
            let (user, holds) = has-holder opening before legal id opens
            (sym (value_at-elsewhere opening operation before id other) ∙ out) in
            let theirs = another opening operation before may user id other holds in
            (user, ap held_id (operations_of_other user operation before theirs) ∙ holds)
      ]
