-- What the merging law can't do without, by two examples: that a page's operations come after its
-- link, and that users of different pages have different names.
use Rattle.std.proofs.Common.{inl, inr, ℕ, Some, List, [], ◌∷◌, map, refl, sym, subst, arith}
use Rattle.std.proofs.lemmas.Bool.{cases_eq}
use Rattle.std.specs.Prelude.{replicate}
use Rattle.pool_parts.specs.declared.page.history.Operation.TheVariants.{Pull}
use Rattle.pool_parts.specs.Ledger.{IsLegal}
use Rattle.pool_laws.specs.Steps.{Step, Links, OnPage, history_of, values_of, AreInOrder, AreLegalPages}
use Rattle.pool_laws.specs.Premises.{IsNoPool}
use Rattle.pool_laws.specs.Names.{pool_user}
use Rattle.pool_laws.proofs.Merging.{history-other}

-- 32 zeros
abbrev pub zeros : List ℕ
zeros = replicate 32 0

-- a pull of page 1 that comes before its link
abbrev pub too_early : List (Step ℕ)
too_early = Links 0 zeros ∷ OnPage 1 (Pull 0 0 0) ∷ []

early-pages : AreLegalPages zeros too_early
early-pages page = elim (cases_eq 1 page) [
  | inl here ↦ subst (λ p. IsLegal (map Some (values_of zeros p too_early)) (history_of p too_early)) here
      ((refl, refl), tt)
  | inr other ↦
      subst (IsLegal (map Some (values_of zeros page too_early)))
      (sym (history-other 1 page (Pull 0 0 0) [] other)) tt
]

pub order-matters : IsNoPool pool_user zeros too_early
order-matters = record { full = refl; pages = early-pages; no_pool = λ legal. let there = legal.1.0.0 in cc }

-- two pages, on each of which a user of number 0 pulls
abbrev pub both_zero : List (Step ℕ)
both_zero = OnPage 1 (Pull 0 0 0) ∷ OnPage 0 (Pull 0 0 0) ∷ Links 0 zeros ∷ []

both-pages : AreLegalPages zeros both_zero
both-pages page = elim (cases_eq 1 page) [
  | inl here ↦ subst (λ p. IsLegal (map Some (values_of zeros p both_zero)) (history_of p both_zero)) here
      ((refl, refl), tt)
  | inr other ↦
      subst (IsLegal (map Some (values_of zeros page both_zero)))
      (sym (history-other 1 page (Pull 0 0 0) (OnPage 0 (Pull 0 0 0) ∷ Links 0 zeros ∷ []) other))
      (elim (cases_eq 0 page) [
        | inl first ↦ subst (λ p. IsLegal (map Some (values_of zeros p both_zero))
            (history_of p (OnPage 0 (Pull 0 0 0) ∷ Links 0 zeros ∷ []))) first ((refl, refl), tt)
        | inr neither ↦
            subst (IsLegal (map Some (values_of zeros page both_zero)))
            (sym (history-other 0 page (Pull 0 0 0) (Links 0 zeros ∷ []) neither)) tt
      ])
]

pub in-order : AreInOrder both_zero
in-order = (omega arith, (omega arith, (refl, tt)))

pub names-matter : IsNoPool (λ page user. user) zeros both_zero
names-matter = record { full = refl; pages = both-pages; no_pool = λ legal. let held = legal.0.1 in cc }
