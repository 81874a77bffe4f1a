-- A page that was full at some place of its history was so at some place of the pool's
-- (`full-out`): that place cuts the steps in two (`place-of`), and what is so of all steps was so
-- of the first of them.
use Rattle.std.proofs.Common.{◌≡◌, ◌≢◌, inl, inr, ℕ, ◌<◌, ◌≤◌, Some, None, List, [], ◌∷◌, ◌++◌, map, length}
use Rattle.std.proofs.Common.{append_assoc, refl, ap, sym, ◌∙◌, subst, arith}
use Rattle.std.proofs.lemmas.Bool.{cases_eq, cases_lt, ne_eqb}
use Rattle.pool_parts.specs.Ledger.{History, value_at, WasFullBetween, IsPrefixOf}
use Rattle.pool_parts.proofs.Ledger.{behind}
use Rattle.pool_world.specs.Pool.{number, place_of}
use Rattle.pool_world.specs.Run.{opened}
use Rattle.pool_world.proofs.Runs.{pool-inside, some-values}
use Rattle.pool_laws.specs.Steps.{Step, Links, OnPage, AreNames, history_of, linked, values_of, AreInOrder, AreLegalPages}
use Rattle.pool_laws.specs.Steps.{merged}
use Rattle.pool_laws.specs.Growth.{WasPageOut}
use Rattle.pool_laws.proofs.Merging.{history-own, history-other, value-on, opens, numbered, none-before}
use Rattle.pool_laws.proofs.Merging.{pages-before_link, pages-before_operation, values-length, merged-pages}

module _ {T : Type 0} (name : ℕ → ℕ → ℕ) (first : List T) (full : length first ≡ 32) where
  -- each place of a page's history is one of the pool's
  place-of : (page : ℕ) (steps : List (Step T)) (later place : History T) → history_of page steps ≡ later ++ place
      → (early : List (Step T)) × (after : List (Step T)) × (steps ≡ after ++ early) × (history_of page early ≡ place)
  place-of page steps [] place is = (steps, [], refl, is)
  place-of page [] (operation ∷ later) place is = absurd (cc)
  place-of page (Links agent values ∷ steps) (operation ∷ later) place is =
      let (early, after, parts, there) = place-of page steps (operation ∷ later) place is in
      (early, Links agent values ∷ after, ap (λ l. Links agent values ∷ l) parts, there)
  place-of page (OnPage at done ∷ steps) (operation ∷ later) place is = elim (cases_eq at page) [
    | inl here ↦
        let (early, after, parts, there) = place-of page steps later place
        (ap behind (sym (history-own at page done steps here) ∙ is)) in
        (early, OnPage at done ∷ after, ap (λ l. OnPage at done ∷ l) parts, there)
    | inr other ↦
        let (early, after, parts, there) = place-of page steps (operation ∷ later) place
        (sym (history-other at page done steps other) ∙ is) in
        (early, OnPage at done ∷ after, ap (λ l. OnPage at done ∷ l) parts, there)
  ]

  -- what is so of the steps was so at each place of them
  early-so : (after early : List (Step T)) → AreInOrder (after ++ early) → AreLegalPages first (after ++ early)
      → AreInOrder early × AreLegalPages first early
  early-so [] early order pages = (order, pages)
  early-so (Links agent values ∷ after) early order pages =
      early-so after early order.1 (pages-before_link name first full agent values (after ++ early) order.1 pages)
  early-so (OnPage at operation ∷ after) early order pages =
      early-so after early order.1 (pages-before_operation name first full at operation (after ++ early) pages).1

  more-linked : (after early : List (Step T)) → linked early ≤ linked (after ++ early)
  more-linked [] early = omega arith
  more-linked (Links agent values ∷ after) early = let before = more-linked after early in omega (arith, before)
  more-linked (OnPage at operation ∷ after) early = more-linked after early

  same-values : (after early : List (Step T)) (page : ℕ) → page < linked early
      → values_of first page (after ++ early) ≡ values_of first page early
  same-values [] early page below = refl
  same-values (Links agent values ∷ after) early page below =
      let more = more-linked after early in
      let old : page ≢ linked (after ++ early) = λ same. omega (arith, same, more, below) in
      rw (ne_eqb page (linked (after ++ early)) old) (same-values after early page below)
  same-values (OnPage at operation ∷ after) early page below = same-values after early page below

  -- where all numbers of a page were out at a place of its history, they were so at a place of the
  -- pool's
  pub full-out : AreNames name → (steps : List (Step T)) → AreInOrder steps → AreLegalPages first steps → (page : ℕ)
      → page < linked steps → (from to : History T) → IsPrefixOf to (history_of page steps)
      → WasFullBetween (map Some (values_of first page steps)) from to 32
      → WasPageOut name first steps page from to
  full-out names steps order pages page below from to (later, there) (place, since, until, none) =
      let all = there ∙ ap (λ l. later ++ l) until.1 ∙ sym (append_assoc later until.0 place) in
      let (early, after, parts, same_place) = place-of page steps (later ++ until.0) place all in
      let (order', pages') = early-so after early (subst AreInOrder parts order) (subst (AreLegalPages first) parts pages) in
      let values = values_of first page steps in
      let is_linked : page < linked early = elim (cases_lt page (linked early)) [
        | inl so ↦ so
        | inr past ↦
            let nothing = sym same_place ∙ none-before name first full early order' page past in
            let count = values-length name first full steps order page below in
            absurd (some-values values 0 (omega (arith, count))
            (subst (λ h. value_at (map Some values) h 0 ≡ None) nothing (none 0 (omega arith))))
      ] in
      let are : values ≡ values_of first page early =
      ap (values_of first page) parts ∙ same-values after early page is_linked in
      let acts = merged name early in
      let count = merged-pages name early in
      record {
        early = early;
        later = after;
        is_place = parts;
        is_linked = is_linked;
        since = subst (IsPrefixOf from) (sym same_place) since;
        until = subst (λ h. IsPrefixOf h to) (sym same_place) until;
        out = λ id under.
            pool-inside first acts (number page id) (omega (arith, under, is_linked, count))
            ∙ ap (λ lies. place_of (Some lies))
            (value-on name (opened first acts) (map Some (values_of first page early)) early page id
            (numbered name first full early order' pages') under (opens name first full early order' page id is_linked under)
            ∙ (λ i. value_at (map Some (sym are i)) (same_place i) id)
            ∙ none id under);
      }
