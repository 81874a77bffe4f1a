-- What is returned to the pages of a pool is returned to the pool.
use Rattle.std.proofs.Common.{◌≡◌, ◌≢◌, inl, inr, ℕ, List, [], ◌∷◌, refl, subst}
use Rattle.std.proofs.lemmas.Bool.{cases_eq}
use Rattle.pool_parts.specs.declared.page.history.Operation.{Operation}
use Rattle.pool_parts.specs.declared.page.history.Operation.TheVariants.{Pull, Return}
use Rattle.pool_parts.specs.Ledger.{History, EachReturned}
use Rattle.pool_laws.specs.Steps.{Step, Links, OnPage, history_of, merged}
use Rattle.pool_laws.specs.SameRun.{AreLeft}
use Rattle.pool_laws.proofs.Merging.{history-own, history-other}

module _ {T : Type 0} (meets : T → Type 0) where
  -- each value with which an item of some page was returned meets the condition
  abbrev AreReturned : List (Step T) → Type 0
  AreReturned steps = (page : ℕ) → EachReturned meets (history_of page steps)

  older : (operation : Operation T) (history : History T) → EachReturned meets (operation ∷ history)
      → EachReturned meets history
  older (Pull user id value) history each = each
  older (Return user id value) history each = each.1

  -- so it was before the last step
  before : (at : ℕ) (operation : Operation T) (steps : List (Step T)) → AreReturned (OnPage at operation ∷ steps)
      → AreReturned steps
  before at operation steps each page = elim (cases_eq at page) [
    | inl here ↦ older operation (history_of page steps)
        (subst (EachReturned meets) (history-own at page operation steps here) (each page))
    | inr elsewhere ↦ subst (EachReturned meets) (history-other at page operation steps elsewhere) (each page)
  ]

  -- then so it is of each that was returned to the pool: a reset may leave it that leaves all such values
  pub each-left : (name : ℕ → ℕ → ℕ) (steps : List (Step T)) → AreReturned steps
      → AreLeft (λ old kept. meets kept) (merged name steps)
  each-left name [] each = tt
  each-left name (Links agent values ∷ steps) each = each-left name steps each
  each-left name (OnPage page (Pull user id value) ∷ steps) each =
      each-left name steps (before page (Pull user id value) steps each)
  each-left name (OnPage page (Return user id value) ∷ steps) each =
      let here = subst (EachReturned meets) (history-own page page (Return user id value) steps refl) (each page) in
      ((value, here.0), each-left name steps (before page (Return user id value) steps each))
