-- The merging law: legal histories of pages, however their steps are interleaved, are one legal
-- history of a pool that grows, if each page's operations come after its link (`merge`). And such a
-- history of a pool falls into those of its pages (`split`). Both go step by step: what lies at a
-- number of the pool lies at its place of its page (`value-on`), and who holds one holds the other
-- (`held-by`).
use Rattle.std.proofs.Common.{◌≡◌, ◌≢◌, ◌⊎◌, inl, inr, ℕ, ◌+◌, ◌*◌, ◌<◌, ◌≤◌, if◌then◌else◌}
use Rattle.std.proofs.Common.{Option, Some, None, List, [], ◌∷◌, ◌++◌, map, length, get_or, refl, ap, sym, ◌∙◌, subst}
use Rattle.std.proofs.Common.{arith, length-append}
use Rattle.std.specs.Prelude.{⊤}
use Rattle.std.proofs.lemmas.Bool.{eq-eqb, ne_eqb, cases_eq}
use Rattle.std.proofs.lemmas.List.{get_or_append_left, get_or-append-add, length-map, map-append}
use Rattle.pool_parts.specs.declared.page.history.Operation.{Operation}
use Rattle.pool_parts.specs.declared.page.history.Operation.TheVariants.{Pull, Return}
use Rattle.pool_parts.specs.Ledger.{History, user_of, id_of, operations_of, held_id, left_by, value_at, MayFollow, IsLegal, value_at-here, value_at-elsewhere}
use Rattle.pool_parts.proofs.Ledger.{operations_of_own, operations_of_other}
use Rattle.pool_world.specs.Pool.{number}
use Rattle.pool_world.specs.Run.{ledger_of, made, opened, pages_of, AreLegalActs}
use Rattle.pool_world.proofs.LegalLedgers.{may-inside}
use Rattle.pool_world.proofs.Runs.{legal-acts}
use Rattle.pool_laws.specs.Steps.{Step, Links, OnPage, AreNames, history_of, linked, values_of, AreInOrder, AreLegalPages}
use Rattle.pool_laws.specs.Steps.{in_pool, merged}

-- the users of each page have names of their own; those of two pages may share one
abbrev pub AreNamesOnPages : (ℕ → ℕ → ℕ) → Type 0
AreNamesOnPages name = (page user who : ℕ) → name page user ≡ name page who → user ≡ who

-- each operation is on one of the 32 numbers of its page
abbrev pub AreNumbered : {T : Type 0} → List (Step T) → Type 0
AreNumbered [] = ⊤
AreNumbered (Links agent values ∷ steps) = AreNumbered steps
AreNumbered (OnPage page operation ∷ steps) = (id_of operation < 32) × AreNumbered steps

-- a number is of one page, and of one place there
number-page : (page id other place : ℕ) → id < 32 → place < 32 → number page id ≡ number other place → page ≡ other
number-page page id other place below under same = omega (arith, same, below, under)

number-place : (page id place : ℕ) → number page id ≡ number page place → id ≡ place
number-place page id place same = omega (arith, same)

-- the number of the pool that somebody holds who holds this number of a page
abbrev held_on : ℕ → Option ℕ → Option ℕ
held_on page None = None
held_on page (Some id) = Some (number page id)

held_on-none : (page : ℕ) (held : Option ℕ) → held_on page held ≡ None → held ≡ None
held_on-none page None same = refl
held_on-none page (Some id) same = absurd (cc)

held_on-some : (page : ℕ) (held : Option ℕ) (id : ℕ) → held_on page held ≡ Some (number page id) → held ≡ Some id
held_on-some page None id same = absurd (cc)
held_on-some page (Some place) id same =
    let is : number page place ≡ number page id = cc in ap Some (number-place page place id is)

module _ {T : Type 0} where
  -- an operation on a page is the first of its page's history, and no operation of another page's
  pub history-own : (at page : ℕ) (operation : Operation T) (steps : List (Step T)) → at ≡ page
      → history_of page (OnPage at operation ∷ steps) ≡ operation ∷ history_of page steps
  history-own at page operation steps same = rw (eq-eqb at page same) refl

  pub history-other : (at page : ℕ) (operation : Operation T) (steps : List (Step T)) → at ≢ page
      → history_of page (OnPage at operation ∷ steps) ≡ history_of page steps
  history-other at page operation steps other = rw (ne_eqb at page other) refl

module _ {T : Type 0} (name : ℕ → ℕ → ℕ) where
  in_pool-left : (page : ℕ) (operation : Operation T) → left_by (in_pool name page operation) ≡ left_by operation
  in_pool-left page (Pull user id value) = refl
  in_pool-left page (Return user id value) = refl

  in_pool-id : (page : ℕ) (operation : Operation T) → id_of (in_pool name page operation) ≡ number page (id_of operation)
  in_pool-id page (Pull user id value) = refl
  in_pool-id page (Return user id value) = refl

  in_pool-user : (page : ℕ) (operation : Operation T)
      → user_of (in_pool name page operation) ≡ name page (user_of operation)
  in_pool-user page (Pull user id value) = refl
  in_pool-user page (Return user id value) = refl

  -- what lies at a number of the pool is what lies at that place of its page
  pub value-on : (opening values : List (Option T)) (steps : List (Step T)) (page id : ℕ) → AreNumbered steps → id < 32
      → get_or opening (number page id) None ≡ get_or values id None
      → value_at opening (ledger_of (merged name steps)) (number page id) ≡ value_at values (history_of page steps) id
  value-on opening values [] page id all below same = same
  value-on opening values (Links agent more ∷ steps) page id all below same =
      value-on opening values steps page id all below same
  value-on opening values (OnPage at operation ∷ steps) page id all below same =
      let before = value-on opening values steps page id all.1 below same in
      let ledger = ledger_of (merged name steps) in
      elim (cases_eq at page) [
        | inl here ↦ elim (cases_eq (id_of operation) id) [
          | inl it ↦
              value_at-here opening (in_pool name at operation) ledger (number page id)
              (in_pool-id at operation ∙ (λ i. number (here i) (it i)))
              ∙ in_pool-left at operation
              ∙ sym (value_at-here values operation (history_of page steps) id it)
              ∙ ap (λ h. value_at values h id) (sym (history-own at page operation steps here))
          | inr differs ↦
              value_at-elsewhere opening (in_pool name at operation) ledger (number page id) (λ is.
              differs (number-place page (id_of operation) id (ap (λ p. number p (id_of operation)) (sym here)
              ∙ sym (in_pool-id at operation) ∙ is)))
              ∙ before
              ∙ sym (value_at-elsewhere values operation (history_of page steps) id differs)
              ∙ ap (λ h. value_at values h id) (sym (history-own at page operation steps here))
        ]
        | inr elsewhere ↦
            value_at-elsewhere opening (in_pool name at operation) ledger (number page id) (λ is.
            elsewhere (number-page at (id_of operation) page id all.0 below (sym (in_pool-id at operation) ∙ is)))
            ∙ before
            ∙ ap (λ h. value_at values h id) (sym (history-other at page operation steps elsewhere))
      ]

  held-operation : (page : ℕ) (operation : Operation T) (ledger own : History T)
      → held_id (in_pool name page operation ∷ ledger) ≡ held_on page (held_id (operation ∷ own))
  held-operation page (Pull user id value) ledger own = refl
  held-operation page (Return user id value) ledger own = refl

  -- what a user of a page holds by its name in the pool is what it holds in its page
  held-by : AreNames name → (steps : List (Step T)) (page user : ℕ)
      → held_id (operations_of (name page user) (ledger_of (merged name steps)))
      ≡ held_on page (held_id (operations_of user (history_of page steps)))
  held-by names [] page user = refl
  held-by names (Links agent more ∷ steps) page user = held-by names steps page user
  held-by names (OnPage at operation ∷ steps) page user =
      let before = held-by names steps page user in
      let ledger = ledger_of (merged name steps) in
      let history = history_of page steps in
      let others = λ (theirs : user_of (in_pool name at operation) ≢ name page user).
      ap held_id (operations_of_other (name page user) (in_pool name at operation) ledger theirs) in
      elim (cases_eq at page) [
        | inl here ↦ elim (cases_eq (user_of operation) user) [
          | inl own ↦
              ap held_id (operations_of_own (name page user) (in_pool name at operation) ledger
              (in_pool-user at operation ∙ (λ i. name (here i) (own i))))
              ∙ held-operation at operation (operations_of (name page user) ledger) (operations_of user history)
              ∙ ap (λ p. held_on p (held_id (operation ∷ operations_of user history))) here
              ∙ ap (λ o. held_on page (held_id o)) (sym (operations_of_own user operation history own))
              ∙ ap (λ h. held_on page (held_id (operations_of user h))) (sym (history-own at page operation steps here))
          | inr other ↦
              others (λ is. other (names at (user_of operation) page user (sym (in_pool-user at operation) ∙ is)).1)
              ∙ before
              ∙ ap (λ o. held_on page (held_id o)) (sym (operations_of_other user operation history other))
              ∙ ap (λ h. held_on page (held_id (operations_of user h))) (sym (history-own at page operation steps here))
        ]
        | inr elsewhere ↦
            others (λ is. elsewhere (names at (user_of operation) page user (sym (in_pool-user at operation) ∙ is)).0)
            ∙ before
            ∙ ap (λ h. held_on page (held_id (operations_of user h)))
            (sym (history-other at page operation steps elsewhere))
      ]

  -- an operation may follow on a page exactly if it may follow in the pool
  pub may-merge : AreNames name → (opening values : List (Option T)) (steps : List (Step T)) (page : ℕ)
      (operation : Operation T) → AreNumbered steps → id_of operation < 32
      → get_or opening (number page (id_of operation)) None ≡ get_or values (id_of operation) None
      → MayFollow values (history_of page steps) operation
      → MayFollow opening (ledger_of (merged name steps)) (in_pool name page operation)
  may-merge names opening values steps page (Pull user id value) all below same may = (
    value-on opening values steps page id all below same ∙ may.0,
    held-by names steps page user ∙ ap (held_on page) may.1,
  )
  may-merge names opening values steps page (Return user id value) all below same may = (
    value-on opening values steps page id all below same ∙ may.0,
    held-by names steps page user ∙ ap (held_on page) may.1,
  )

  pub merged-pages : (steps : List (Step T)) → pages_of (merged name steps) ≡ linked steps
  merged-pages [] = refl
  merged-pages (Links agent values ∷ steps) = ap (λ pages. pages + 1) (merged-pages steps)
  merged-pages (OnPage at operation ∷ steps) = merged-pages steps

  module _ (first : List T) (full : length first ≡ 32) where
    -- the pool opens with the values of its pages, one after another
    opens-length : (steps : List (Step T)) → AreInOrder steps
        → length (opened first (merged name steps)) ≡ 32 * linked steps
    opens-length [] order = length-map first Some ∙ full
    opens-length (OnPage at operation ∷ steps) order = opens-length steps order.1
    opens-length (Links agent values ∷ steps) order =
        let before = opens-length steps order.1 in
        let all = length-map (made first (merged name steps) ++ values) Some in
        let parts = length-append (made first (merged name steps)) values in
        let some = length-map (made first (merged name steps)) Some in
        let more = order.0 in
        omega (arith, before, all, parts, some, more)

    pub opens : (steps : List (Step T)) → AreInOrder steps → (page id : ℕ) → page < linked steps → id < 32
        → get_or (opened first (merged name steps)) (number page id) None
        ≡ get_or (map Some (values_of first page steps)) id None
    opens [] order page id below under =
        let zeroth : page ≡ 0 = omega (arith, below) in
        rw (eq-eqb page 0 zeroth) (ap (λ n. get_or (map Some first) n None) (omega (arith, zeroth)))
    opens (OnPage at operation ∷ steps) order page id below under = opens steps order.1 page id below under
    opens (Links agent values ∷ steps) order page id below under =
        let all = made first (merged name steps) in
        let count = opens-length steps order.1 in
        rw (map-append Some all values) (elim (cases_eq page (linked steps)) [
          | inl new ↦
              let place : number page id ≡ length (map Some all) + id = omega (arith, new, count) in
              rw (eq-eqb page (linked steps) new) (ap (λ n. get_or (map Some all ++ map Some values) n None) place
              ∙ get_or-append-add (map Some all) (map Some values) id None)
          | inr old ↦
              let within : page < linked steps = omega (arith, old, below) in
              rw (ne_eqb page (linked steps) old)
              (get_or_append_left (map Some all) (map Some values) None (number page id)
              (omega (arith, within, under, count)) ∙ opens steps order.1 page id within under)
        ])

    pub values-length : (steps : List (Step T)) → AreInOrder steps → (page : ℕ) → page < linked steps
        → length (values_of first page steps) ≡ 32
    values-length [] order page below =
        let zeroth : page ≡ 0 = omega (arith, below) in rw (eq-eqb page 0 zeroth) full
    values-length (OnPage at operation ∷ steps) order page below = values-length steps order.1 page below
    values-length (Links agent values ∷ steps) order page below = elim (cases_eq page (linked steps)) [
      | inl new ↦ rw (eq-eqb page (linked steps) new) order.0
      | inr old ↦
          rw (ne_eqb page (linked steps) old) (values-length steps order.1 page (omega (arith, old, below)))
    ]

    -- nothing was done on a page that isn't linked
    pub none-before : (steps : List (Step T)) → AreInOrder steps → (page : ℕ) → linked steps ≤ page
        → history_of page steps ≡ []
    none-before [] order page past = refl
    none-before (Links agent values ∷ steps) order page past = none-before steps order.1 page (omega (arith, past))
    none-before (OnPage at operation ∷ steps) order page past =
        let below = order.0 in
        history-other at page operation steps (λ is. omega (arith, is, below, past))
        ∙ none-before steps order.1 page past

    -- what is legal of each page was so before its last step
    legal-none : (values : List (Option T)) (history : History T) → history ≡ [] → IsLegal values history
    legal-none values history none = subst (IsLegal values) (sym none) tt

    pub pages-before_link : (agent : ℕ) (values : List T) (steps : List (Step T)) → AreInOrder steps
        → AreLegalPages first (Links agent values ∷ steps) → AreLegalPages first steps
    pages-before_link agent values steps order pages page = elim (cases_eq page (linked steps)) [
      | inl new ↦ legal-none _ (history_of page steps) (none-before steps order page (omega (arith, new)))
      | inr old ↦
          subst (λ test. IsLegal (map Some (if test then values else values_of first page steps)) (history_of page steps))
          (ne_eqb page (linked steps) old) (pages page)
    ]

    pages-after_link : (agent : ℕ) (values : List T) (steps : List (Step T)) → AreInOrder steps
        → AreLegalPages first steps → AreLegalPages first (Links agent values ∷ steps)
    pages-after_link agent values steps order pages page = elim (cases_eq page (linked steps)) [
      | inl new ↦ legal-none _ (history_of page steps) (none-before steps order page (omega (arith, new)))
      | inr old ↦
          subst (λ test. IsLegal (map Some (if test then values else values_of first page steps)) (history_of page steps))
          (sym (ne_eqb page (linked steps) old)) (pages page)
    ]

    pub pages-before_operation : (at : ℕ) (operation : Operation T) (steps : List (Step T))
        → AreLegalPages first (OnPage at operation ∷ steps)
        → MayFollow (map Some (values_of first at steps)) (history_of at steps) operation × AreLegalPages first steps
    pages-before_operation at operation steps pages =
        let values = λ (page : ℕ). map Some (values_of first page steps) in (
          (subst (IsLegal (values at)) (history-own at at operation steps refl) (pages at)).0,
          λ page. elim (cases_eq at page) [
            | inl here ↦ (subst (IsLegal (values page)) (history-own at page operation steps here) (pages page)).1
            | inr other ↦ subst (IsLegal (values page)) (history-other at page operation steps other) (pages page)
          ],
        )

    pages-after_operation : (at : ℕ) (operation : Operation T) (steps : List (Step T))
        → MayFollow (map Some (values_of first at steps)) (history_of at steps) operation → AreLegalPages first steps
        → AreLegalPages first (OnPage at operation ∷ steps)
    pages-after_operation at operation steps may pages page =
        let values = λ (page : ℕ). map Some (values_of first page steps) in
        elim (cases_eq at page) [
          | inl here ↦ subst (IsLegal (values page)) (sym (history-own at page operation steps here)) (
            subst (λ p. MayFollow (values p) (history_of p steps) operation) here may,
            pages page,
          )
          | inr other ↦ subst (IsLegal (values page)) (sym (history-other at page operation steps other)) (pages page)
        ]

    -- so each operation is on one of the 32 numbers of its page
    pub numbered : (steps : List (Step T)) → AreInOrder steps → AreLegalPages first steps → AreNumbered steps
    numbered [] order pages = tt
    numbered (Links agent values ∷ steps) order pages =
        numbered steps order.1 (pages-before_link agent values steps order.1 pages)
    numbered (OnPage at operation ∷ steps) order pages =
        let before = pages-before_operation at operation steps pages in
        let values = values_of first at steps in
        let inside = may-inside (map Some values) (history_of at steps) (before.1 at) operation before.0 in
        let count = length-map values Some in
        let all = values-length steps order.1 at order.0 in
        (omega (arith, inside, count, all), numbered steps order.1 before.1)

    -- the merging law: legal histories of pages, in which each operation comes after its page was
    -- linked, are one legal history of a pool that grows
    pub merge : AreNames name → (steps : List (Step T)) → AreInOrder steps → AreLegalPages first steps
        → AreLegalActs first (merged name steps)
    merge names [] order pages = tt
    merge names (Links agent values ∷ steps) order pages =
        (order.0, merge names steps order.1 (pages-before_link agent values steps order.1 pages))
    merge names (OnPage at operation ∷ steps) order pages =
        let before = pages-before_operation at operation steps pages in
        let all = numbered (OnPage at operation ∷ steps) order pages in
        let same = opens steps order.1 at (id_of operation) order.0 all.0 in (
          may-merge names (opened first (merged name steps)) (map Some (values_of first at steps)) steps at operation
              all.1 all.0 same before.0,
          merge names steps order.1 before.1,
        )

    -- what a user's name holds in the pool, and what the user holds in a page: nothing, the same,
    -- or the name holds a number of another page
    abbrev Agrees : ℕ → Option ℕ → Option ℕ → Type 0
    Agrees page held own =
        ((held ≡ None) × (own ≡ None))
        ⊎ ((id : ℕ) × (id < 32) × (held ≡ Some (number page id)) × (own ≡ Some id))
        ⊎ ((other : ℕ) × (id : ℕ) × (id < 32) × (other ≢ page) × (held ≡ Some (number other id)) × (own ≡ None))

    agrees-none : (page : ℕ) (held own : Option ℕ) → Agrees page held own → held ≡ None → own ≡ None
    agrees-none page held own agrees none = elim agrees [
      | inl nothing ↦ nothing.1
      | inr some ↦ elim some [
        | inl same ↦ let is = same.2 in absurd (cc)
        | inr other ↦ let is = other.4 in absurd (cc)
      ]
    ]

    agrees-some : (page : ℕ) (held own : Option ℕ) (id : ℕ) → Agrees page held own → id < 32
        → held ≡ Some (number page id) → own ≡ Some id
    agrees-some page held own id agrees below there = elim agrees [
      | inl nothing ↦ let is = nothing.0 in absurd (cc)
      | inr some ↦ elim some [
        | inl same ↦
            let is : Some (number page same.0) ≡ Some (number page id) = sym same.2 ∙ there in
            let number_is : number page same.0 ≡ number page id = cc in
            same.3 ∙ ap Some (number-place page same.0 id number_is)
        | inr other ↦
            let is : Some (number other.0 other.1) ≡ Some (number page id) = sym other.4 ∙ there in
            let number_is : number other.0 other.1 ≡ number page id = cc in
            absurd (other.3 (number-page other.0 other.1 page id other.2 below number_is))
      ]
    ]

    agrees-elsewhere : (page : ℕ) (held own : Option ℕ) (at id : ℕ) → Agrees page held own → at ≢ page → id < 32
        → held ≡ Some (number at id) → own ≡ None
    agrees-elsewhere page held own at id agrees elsewhere below there = elim agrees [
      | inl nothing ↦ nothing.1
      | inr some ↦ elim some [
        | inl same ↦
            let is : Some (number at id) ≡ Some (number page same.0) = sym there ∙ same.2 in
            let number_is : number at id ≡ number page same.0 = cc in
            absurd (elsewhere (number-page at id page same.0 below same.1 number_is))
        | inr other ↦ other.5
      ]
    ]

    agrees-own : (page : ℕ) (operation : Operation T) (ledger history : History T) → id_of operation < 32
        → Agrees page (held_id (in_pool name page operation ∷ ledger)) (held_id (operation ∷ history))
    agrees-own page (Pull user id value) ledger history below = inr (inl (id, below, refl, refl))
    agrees-own page (Return user id value) ledger history below = inl (refl, refl)

    agrees-away : (page at : ℕ) (operation : Operation T) (ledger : History T) (own : Option ℕ) (opening : List (Option T))
        → at ≢ page → id_of operation < 32
        → Agrees page (held_id (operations_of (user_of (in_pool name at operation)) ledger)) own
        → MayFollow opening ledger (in_pool name at operation)
        → (behind : History T) → Agrees page (held_id (in_pool name at operation ∷ behind)) own
    agrees-away page at (Pull user id value) ledger own opening elsewhere below agrees may behind =
        inr (inr (at, id, below, elsewhere, refl, agrees-none page _ own agrees may.1))
    agrees-away page at (Return user id value) ledger own opening elsewhere below agrees may behind =
        inl (refl, agrees-elsewhere page _ own at id agrees elsewhere below may.1)

    agrees : AreNamesOnPages name → (steps : List (Step T)) → AreNumbered steps → AreLegalActs first (merged name steps)
        → (page user : ℕ) → Agrees page (held_id (operations_of (name page user) (ledger_of (merged name steps))))
        (held_id (operations_of user (history_of page steps)))
    agrees names [] all one page user = inl (refl, refl)
    agrees names (Links agent more ∷ steps) all one page user = agrees names steps all one.1 page user
    agrees names (OnPage at operation ∷ steps) all one page user =
        let before = agrees names steps all.1 one.1 page user in
        let acts = merged name steps in
        let ledger = ledger_of acts in
        let history = history_of page steps in
        let pooled = in_pool name at operation in
        elim (cases_eq at page) [
          | inl here ↦ rw (eq-eqb at page here) (elim (cases_eq (user_of operation) user) [
            | inl own ↦
                let mine : user_of pooled ≡ name page user =
                in_pool-user at operation ∙ (λ i. name (here i) (own i)) in
                rw (operations_of_own (name page user) pooled ledger mine)
                (rw (operations_of_own user operation history own)
                (subst (λ p. Agrees page (held_id (in_pool name p operation ∷ operations_of (name page user) ledger))
                (held_id (operation ∷ operations_of user history))) (sym here)
                (agrees-own page operation _ _ all.0)))
            | inr other ↦
                let theirs : user_of pooled ≢ name page user = λ is.
                other (names page (user_of operation) user
                (ap (λ p. name p (user_of operation)) (sym here) ∙ sym (in_pool-user at operation) ∙ is)) in
                rw (operations_of_other (name page user) pooled ledger theirs)
                (rw (operations_of_other user operation history other) before)
          ])
          | inr elsewhere ↦ rw (ne_eqb at page elsewhere) (elim (cases_eq (user_of pooled) (name page user)) [
            | inl mine ↦
                rw (operations_of_own (name page user) pooled ledger mine)
                (agrees-away page at operation ledger _ (opened first acts) elsewhere all.0
                (subst (λ who. Agrees page (held_id (operations_of who ledger)) (held_id (operations_of user history)))
                (sym mine) before) one.0 _)
            | inr theirs ↦ rw (operations_of_other (name page user) pooled ledger theirs) before
          ])
        ]

    may-split : AreNamesOnPages name → (values : List (Option T)) (steps : List (Step T)) (page : ℕ)
        (operation : Operation T) → AreNumbered steps → AreLegalActs first (merged name steps) → id_of operation < 32
        → get_or (opened first (merged name steps)) (number page (id_of operation)) None
        ≡ get_or values (id_of operation) None
        → MayFollow (opened first (merged name steps)) (ledger_of (merged name steps)) (in_pool name page operation)
        → MayFollow values (history_of page steps) operation
    may-split names values steps page (Pull user id value) all one below same may = (
      sym (value-on (opened first (merged name steps)) values steps page id all below same) ∙ may.0,
      agrees-none page _ _ (agrees names steps all one page user) may.1,
    )
    may-split names values steps page (Return user id value) all one below same may = (
      sym (value-on (opened first (merged name steps)) values steps page id all below same) ∙ may.0,
      agrees-some page _ _ id (agrees names steps all one page user) below may.1,
    )

    -- the converse: a legal history of a pool that grows falls into legal histories of its pages,
    -- in which each operation comes after its page was linked
    pub split : AreNamesOnPages name → (steps : List (Step T)) → AreNumbered steps → AreLegalActs first (merged name steps)
        → AreInOrder steps × AreLegalPages first steps
    split names [] all one = (tt, λ page. tt)
    split names (Links agent values ∷ steps) all one =
        let (order, pages) = split names steps all one.1 in
        ((one.0, order), pages-after_link agent values steps order pages)
    split names (OnPage at operation ∷ steps) all one =
        let (order, pages) = split names steps all.1 one.1 in
        let opening = opened first (merged name steps) in
        let legal = legal-acts first (merged name steps) one.1 in
        let inside = may-inside opening (ledger_of (merged name steps)) legal (in_pool name at operation) one.0 in
        let is = in_pool-id at operation in
        let count = opens-length steps order in
        let below : at < linked steps = omega (arith, inside, is, count) in
        let same = opens steps order at (id_of operation) below all.0 in
        let may = may-split names (map Some (values_of first at steps)) steps at operation all.1 one.1 all.0 same one.0 in
        ((below, order), pages-after_operation at operation steps may pages)
