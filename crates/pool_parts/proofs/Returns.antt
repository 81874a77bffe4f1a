-- What the number of returns in a ledger tells.
use Rattle.std.proofs.Common.{◌≡◌, ◌⊎◌, ℕ, ◌+◌, ◌≤◌, Bool, true, false, true≢false, List, [], ◌∷◌, ◌++◌, Option}
use Rattle.std.proofs.Common.{None, refl, sym, ap, ◌∙◌, arith, le_refl, inl, inr, if◌then◌else◌}
use native.Mathlib.Decide.{ℕ_discrete}
use mathlib.Core.Logic.{dite}
use Rattle.pool_parts.specs.declared.page.history.Operation.TheVariants.{Pull, Return}
use Rattle.pool_parts.specs.Ledger.{History, value_at, returns_among, value_at-here, value_at-elsewhere}

by_test : (test : Bool) (count : ℕ) → ((test ≡ true) × ((if test then count + 1 else count) ≡ count + 1))
    ⊎ ((test ≡ false) × ((if test then count + 1 else count) ≡ count))
by_test true count = inl (refl, refl)
by_test false count = inr (refl, refl)

module _ {T : Type 0} where
  -- a return counts, or it doesn't
  pub one_more : (passes : ℕ → Bool) (user id : ℕ) (value : T) (before : History T)
      → ((passes id ≡ true) × (returns_among passes (Return user id value ∷ before) ≡ returns_among passes before + 1))
      ⊎ ((passes id ≡ false) × (returns_among passes (Return user id value ∷ before) ≡ returns_among passes before))
  one_more passes user id value before = by_test (passes id) (returns_among passes before)

  -- a longer history has no fewer returns
  pub grows : (passes : ℕ → Bool) (later before : History T)
      → returns_among passes before ≤ returns_among passes (later ++ before)
  grows passes [] before = le_refl (returns_among passes before)
  grows passes (Pull user id value ∷ later) before = grows passes later before
  grows passes (Return user id value ∷ later) before =
      let rest = grows passes later before in
      elim (one_more passes user id value (later ++ before)) [
        | inl counts ↦ let more = counts.1 in omega arith
        | inr other ↦ let same = other.1 in omega arith
      ]

  -- and no more of some numbers than of all
  pub grows_within : (passes : ℕ → Bool) (later before : History T)
      → returns_among passes (later ++ before) + returns_among (λ id. true) before ≤ returns_among (λ id. true)
      (later ++ before) + returns_among passes before
  grows_within passes [] before = omega arith
  grows_within passes (Pull user id value ∷ later) before = grows_within passes later before
  grows_within passes (Return user id value ∷ later) before =
      let rest = grows_within passes later before in
      elim (one_more passes user id value (later ++ before)) [
        | inl counts ↦ let more = counts.1 in omega arith
        | inr other ↦ let same = other.1 in omega arith
      ]

  -- a number stays out where no number was returned that passes a test which it passes
  pub stays_out : (opening : List (Option T)) (passes : ℕ → Bool) (id : ℕ) (later before : History T)
      → passes id ≡ true → returns_among passes (later ++ before) ≤ returns_among passes before
      → value_at opening before id ≡ None → value_at opening (later ++ before) id ≡ None
  stays_out opening passes id [] before own none out = out
  stays_out opening passes id (Pull user place value ∷ later) before own none out =
      dite (ℕ_discrete place id)
      (λ here. value_at-here opening (Pull user place value) (later ++ before) id here)
      (λ differ. value_at-elsewhere opening (Pull user place value) (later ++ before) id differ
      ∙ stays_out opening passes id later before own none out)
  stays_out opening passes id (Return user place value ∷ later) before own none out =
      elim (one_more passes user place value (later ++ before)) [
        | inl counts ↦ let more = counts.1 in let grown = grows passes later before in absurd (omega arith)
        | inr other ↦
            let same = other.1 in
            value_at-elsewhere opening (Return user place value) (later ++ before) id
            (λ here. true≢false (sym own ∙ ap passes (sym here) ∙ other.0))
            ∙ stays_out opening passes id later before own (omega arith) out
      ]
