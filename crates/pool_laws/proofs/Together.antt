-- Legal histories of pages are those of the pages of one pool: its steps link all pages and then do
-- each history as a whole, one after another (`all-together`). So it is of what is known of two
-- pages of a running pool, by two items (`pulls-together`) or by the notes of their returns
-- (`returns-together`).
use Rattle.std.proofs.Common.{◌≡◌, ◌≢◌, ◌⊎◌, inl, inr, ℕ, ◌+◌, ◌<◌, ◌≤◌, ◌==◌, if◌then◌else◌, zero, suc, Option, Some, None}
use Rattle.std.proofs.Common.{List, [], ◌∷◌, map, length, refl, ap, sym, ◌∙◌, subst, arith}
use Rattle.std.proofs.lemmas.Bool.{eq-eqb, ne_eqb, cases_eq, cases_lt}
use Rattle.std.proofs.lemmas.List.{length-map}
use Rattle.std.proofs.lemmas.List.Elements.{All-tail}
use Rattle.std.specs.Prelude.{All, IsSomeAnd, IfSome}
use Rattle.pool_parts.specs.declared.made_or_reset.MadeOrReset.{MadeOrReset}
use Rattle.pool_parts.specs.declared.page.note.PageNote.{PageNote}
use Rattle.pool_parts.specs.Item.{Item, IsFilled}
use Rattle.pool_parts.specs.Answers.{IsMadeOrReset}
use Rattle.pool_parts.specs.Ledger.{History, IsLegal, EachReturned}
use Rattle.pool_parts.specs.Page.{IsGivenBack, view_of}
use Rattle.page_chain.specs.declared.linear_page.page_number.PageNumber.{PageNumber}
use Rattle.linear_pools.specs.LinearPool.{Pulls, linear_view}
use Rattle.linear_pools.specs.declared.linear_object_pool.AnswerOf.{AnswerOf}
use Rattle.linear_pools.specs.declared.linear_object_pool.LinearObjectPool.{LinearObjectPool}
use Rattle.pool_world.specs.Pool.{AllowsPages}
use Rattle.pool_laws.specs.Steps.{Step, Links, OnPage, AreNames, history_of, linked, values_of, AreInOrder, AreLegalPages}
use Rattle.pool_laws.specs.Steps.{merged}
use Rattle.pool_laws.specs.Together.{Known, ArePagesOf, StandTogether, known_by, noted}
use Rattle.pool_laws.proofs.Returned.{each-left}
use Rattle.pool_laws.proofs.SameRun.{has-run}
use Rattle.pool_laws.proofs.Merging.{merge, merged-pages, history-own, history-other}

larger : (a b : ℕ) → (m : ℕ) × (a ≤ m) × (b ≤ m) × ((m ≡ a) ⊎ (m ≡ b))
larger a b = elim (cases_lt a b) [
  | inl below ↦ (b, omega (arith, below), omega arith, inr refl)
  | inr past ↦ (a, omega arith, past, inl refl)
]

allows : (limit : Option ℕ) (page pages : ℕ) → IfSome limit (λ most. page < most) → pages ≡ page + 1
    → AllowsPages limit pages
allows None page pages below is = tt
allows (Some most) page pages below is = omega (arith, below, is)

module _ {T : Type 0} where
  -- the values of a filled page
  filled : (meets : T → Type 0) (items : List (Option T)) → All (λ item. IsSomeAnd item meets) items
      → (values : List T) × (map Some values ≡ items)
  filled meets [] all = ([], refl)
  filled meets (None ∷ items) all = absurd (all 0 None (omega arith))
  filled meets (Some value ∷ items) all =
      let (values, same) = filled meets items (All-tail (λ item. IsSomeAnd item meets) (Some value) items all) in (value ∷ values, ap (λ l. Some value ∷ l) same)

  filled-values : (meets : T → Type 0) (items : List (Option T)) → IsFilled 32 meets items
      → (values : List T) × (map Some values ≡ items) × (length values ≡ 32)
  filled-values meets items is =
      let (values, same) = filled meets items is.each in
      (values, same, sym (length-map values Some) ∙ ap length same ∙ is.all)

  -- so many pages are linked, with these values
  links_to : (ℕ → List T) → ℕ → List (Step T)
  links_to values zero = []
  links_to values (suc count) = Links 0 (values (linked (links_to values count))) ∷ links_to values count

  links-linked : (values : ℕ → List T) (count : ℕ) → linked (links_to values count) ≡ count + 1
  unfolding links_to
  links-linked values zero = refl
  links-linked values (suc count) = let before = links-linked values count in omega (arith, before)

  links-order : (values : ℕ → List T) (count : ℕ) → ((page : ℕ) → length (values page) ≡ 32)
      → AreInOrder (links_to values count)
  unfolding links_to
  links-order values zero full = tt
  links-order values (suc count) full = (full (linked (links_to values count)), links-order values count full)

  links-history : (values : ℕ → List T) (count page : ℕ) → history_of page (links_to values count) ≡ []
  unfolding links_to
  links-history values zero page = refl
  links-history values (suc count) page = links-history values count page

  links-values : (values : ℕ → List T) (count page : ℕ) → page ≤ count
      → values_of (values 0) page (links_to values count) ≡ values page
  unfolding links_to
  links-values values zero page below =
      let zeroth : page ≡ 0 = omega (arith, below) in rw (eq-eqb page 0 zeroth) (ap values (sym zeroth))
  links-values values (suc count) page below =
      let now = linked (links_to values count) in
      elim (cases_eq page now) [
        | inl new ↦ rw (eq-eqb page now new) (ap values (sym new))
        | inr old ↦
            let are = links-linked values count in
            rw (ne_eqb page now old) (links-values values count page (omega (arith, are, old, below)))
      ]

  -- a page's whole history comes after these steps
  doing : ℕ → History T → List (Step T) → List (Step T)
  doing page [] steps = steps
  doing page (operation ∷ history) steps = OnPage page operation ∷ doing page history steps

  doing-linked : (page : ℕ) (history : History T) (steps : List (Step T))
      → linked (doing page history steps) ≡ linked steps
  unfolding doing
  doing-linked page [] steps = refl
  doing-linked page (operation ∷ history) steps = doing-linked page history steps

  doing-values : (first : List T) (page : ℕ) (history : History T) (steps : List (Step T)) (other : ℕ)
      → values_of first other (doing page history steps) ≡ values_of first other steps
  unfolding doing
  doing-values first page [] steps other = refl
  doing-values first page (operation ∷ history) steps other = doing-values first page history steps other

  doing-order : (page : ℕ) (history : History T) (steps : List (Step T)) → page < linked steps → AreInOrder steps
      → AreInOrder (doing page history steps)
  unfolding doing
  doing-order page [] steps below order = order
  doing-order page (operation ∷ history) steps below order =
      let same = doing-linked page history steps in
      (omega (arith, below, same), doing-order page history steps below order)

  doing-own : (page : ℕ) (history : History T) (steps : List (Step T)) → history_of page steps ≡ []
      → history_of page (doing page history steps) ≡ history
  unfolding doing
  doing-own page [] steps none = none
  doing-own page (operation ∷ history) steps none =
      history-own page page operation (doing page history steps) refl
      ∙ ap (λ h. operation ∷ h) (doing-own page history steps none)

  doing-other : (page other : ℕ) (history : History T) (steps : List (Step T)) → page ≢ other
      → history_of other (doing page history steps) ≡ history_of other steps
  unfolding doing
  doing-other page other [] steps differ = refl
  doing-other page other (operation ∷ history) steps differ =
      history-other page other operation (doing page history steps) differ
      ∙ doing-other page other history steps differ

  -- the whole histories of so many pages and of the first one come after these steps
  doing-all : (ℕ → History T) → ℕ → List (Step T) → List (Step T)
  doing-all histories zero steps = doing 0 (histories 0) steps
  doing-all histories (suc count) steps = doing (suc count) (histories (suc count)) (doing-all histories count steps)

  all-linked : (histories : ℕ → History T) (count : ℕ) (steps : List (Step T))
      → linked (doing-all histories count steps) ≡ linked steps
  unfolding doing-all
  all-linked histories zero steps = doing-linked 0 (histories 0) steps
  all-linked histories (suc count) steps =
      doing-linked (suc count) (histories (suc count)) (doing-all histories count steps)
      ∙ all-linked histories count steps

  all-order : (histories : ℕ → History T) (count : ℕ) (steps : List (Step T)) → count < linked steps → AreInOrder steps
      → AreInOrder (doing-all histories count steps)
  unfolding doing-all
  all-order histories zero steps below order = doing-order 0 (histories 0) steps below order
  all-order histories (suc count) steps below order =
      let same = all-linked histories count steps in
      doing-order (suc count) (histories (suc count)) (doing-all histories count steps) (omega (arith, same, below))
      (all-order histories count steps (omega (arith, below)) order)

  all-values : (first : List T) (histories : ℕ → History T) (count : ℕ) (steps : List (Step T)) (page : ℕ)
      → values_of first page (doing-all histories count steps) ≡ values_of first page steps
  unfolding doing-all
  all-values first histories zero steps page = doing-values first 0 (histories 0) steps page
  all-values first histories (suc count) steps page =
      doing-values first (suc count) (histories (suc count)) (doing-all histories count steps) page
      ∙ all-values first histories count steps page

  all-past : (histories : ℕ → History T) (count : ℕ) (steps : List (Step T)) (page : ℕ) → count < page
      → history_of page (doing-all histories count steps) ≡ history_of page steps
  unfolding doing-all
  all-past histories zero steps page past =
      doing-other 0 page (histories 0) steps (λ same. omega (arith, same, past))
  all-past histories (suc count) steps page past =
      doing-other (suc count) page (histories (suc count)) (doing-all histories count steps) (λ same.
      omega (arith, same, past))
      ∙ all-past histories count steps page (omega (arith, past))

  all-history : (histories : ℕ → History T) (count : ℕ) (steps : List (Step T))
      → ((page : ℕ) → history_of page steps ≡ []) → (page : ℕ) → page ≤ count
      → history_of page (doing-all histories count steps) ≡ histories page
  unfolding doing-all
  all-history histories zero steps none page within =
      let zeroth : 0 ≡ page = omega (arith, within) in
      subst (λ p. history_of p (doing 0 (histories 0) steps) ≡ histories p) zeroth
      (doing-own 0 (histories 0) steps (none 0))
  all-history histories (suc count) steps none page within = elim (cases_eq (suc count) page) [
    | inl last ↦
        subst (λ p. history_of p (doing (suc count) (histories (suc count)) (doing-all histories count steps))
        ≡ histories p) last
        (doing-own (suc count) (histories (suc count)) (doing-all histories count steps)
        (all-past histories count steps (suc count) (omega arith) ∙ none (suc count)))
    | inr other ↦
        doing-other (suc count) page (histories (suc count)) (doing-all histories count steps) other
        ∙ all-history histories count steps none page (omega (arith, within, other))
  ]

  -- legal histories of any number of pages are those of the pages of one legal history of a pool
  pub all-together : (name : ℕ → ℕ → ℕ) → AreNames name → (values : ℕ → List T) (histories : ℕ → History T)
      → ((page : ℕ) → length (values page) ≡ 32) → ((page : ℕ) → IsLegal (map Some (values page)) (histories page))
      → (count : ℕ) → (steps : List (Step T)) × ArePagesOf name values histories count steps
  all-together name names values histories full legal count =
      let start = links_to values count in
      let steps = doing-all histories count start in
      let many = links-linked values count in
      let order = all-order histories count start (omega (arith, many)) (links-order values count full) in
      let first = values 0 in
      let are = λ (page : ℕ) (within : page ≤ count).
      all-values first histories count start page ∙ links-values values count page within in
      let history = λ (page : ℕ) (within : page ≤ count).
      all-history histories count start (links-history values count) page within in
      let none = λ (page : ℕ) (past : count < page).
      all-past histories count start page past ∙ links-history values count page in
      let pages : AreLegalPages first steps = λ page. elim (cases_lt count page) [
        | inl past ↦ subst (IsLegal (map Some (values_of first page steps))) (sym (none page past)) tt
        | inr within ↦
            subst (λ v. IsLegal (map Some v) (history_of page steps)) (sym (are page within))
            (subst (IsLegal (map Some (values page))) (sym (history page within)) (legal page))
      ] in (
        steps,
        record {
          in_order = order;
          pages = all-linked histories count start ∙ many;
          same_values = are;
          same_histories = history;
          no_others = none;
          legal = merge name first (full 0) names steps order pages;
        },
      )

  -- two legal histories of different pages, which opened with 32 values each, are of one history of
  -- a pool
  pub stand-together : (name : ℕ → ℕ → ℕ) → AreNames name → (limit : Option ℕ) (meets meets' kept : T → Type 0)
      (one other : Known T) → IfSome limit (λ pages. one.page < pages) → IfSome limit (λ pages. other.page < pages)
      → one.page ≢ other.page → IsFilled 32 meets one.opening → IsFilled 32 meets' other.opening
      → IsLegal one.opening one.history → IsLegal other.opening other.history → EachReturned kept one.history
      → EachReturned kept other.history → StandTogether name limit kept one other
  stand-together name names limit meets meets' kept one other fits fits' differ is is' legal legal' each each' =
      let (here, opens, full) = filled-values meets one.opening is in
      let (there, opens', full') = filled-values meets' other.opening is' in
      let values = λ (at : ℕ). if at == other.page then there else here in
      let histories : ℕ → History T = λ at.
      if at == other.page then other.history else (if at == one.page then one.history else []) in
      let all : (at : ℕ) → length (values at) ≡ 32 = λ at. elim (cases_eq at other.page) [
        | inl same ↦ rw (eq-eqb at other.page same) full'
        | inr apart ↦ rw (ne_eqb at other.page apart) full
      ] in
      let so : (at : ℕ) → IsLegal (map Some (values at)) (histories at) = λ at. elim (cases_eq at other.page) [
        | inl same ↦ rw (eq-eqb at other.page same) (rw opens' legal')
        | inr apart ↦ rw (ne_eqb at other.page apart) (elim (cases_eq at one.page) [
          | inl same ↦ rw (eq-eqb at one.page same) (rw opens legal)
          | inr neither ↦ rw (ne_eqb at one.page neither) tt
        ])
      ] in
      let (count, within, within', which) = larger one.page other.page in
      let (steps, they) = all-together name names values histories all so count in
      let are = they.pages in
      let fit : AllowsPages limit (linked steps) = elim which [
        | inl this ↦ allows limit one.page (linked steps) fits (omega (arith, this, are))
        | inr that ↦ allows limit other.page (linked steps) fits' (omega (arith, that, are))
      ] in
      let first = values 0 in
      let acts = merged name steps in
      let of_each : (at : ℕ) → EachReturned kept (histories at) = λ at. elim (cases_eq at other.page) [
        | inl same ↦ rw (eq-eqb at other.page same) each'
        | inr apart ↦ rw (ne_eqb at other.page apart) (elim (cases_eq at one.page) [
          | inl same ↦ rw (eq-eqb at one.page same) each
          | inr neither ↦ rw (ne_eqb at one.page neither) tt
        ])
      ] in
      let returned : (page : ℕ) → EachReturned kept (history_of page steps) = λ page. elim (cases_lt count page) [
        | inl past ↦ subst (EachReturned kept) (sym (they.no_others page past)) tt
        | inr inside ↦ subst (EachReturned kept) (sym (they.same_histories page inside)) (of_each page)
      ] in
      record {
        first = first;
        full = all 0;
        steps = steps;
        in_order = they.in_order;
        allowed = fit;
        one_known = record {
          opening = ap (map Some) (they.same_values one.page within ∙ rw (ne_eqb one.page other.page differ) refl) ∙ opens;
          history = they.same_histories one.page within
              ∙ rw (ne_eqb one.page other.page differ, eq-eqb one.page one.page refl) refl;
        };
        other_known = record {
          opening = ap (map Some) (they.same_values other.page within' ∙ rw (eq-eqb other.page other.page refl) refl)
              ∙ opens';
          history = they.same_histories other.page within' ∙ rw (eq-eqb other.page other.page refl) refl;
        };
        legal = they.legal;
        run = has-run (λ old value. kept value) first limit acts (each-left kept name steps returned)
            (subst (AllowsPages limit) (sym (merged-pages name steps)) fit) they.legal;
      }

module _ {T I R K : Type 0} where
  -- so it is with two items that were pulled from different pages of one pool
  pub pulls-together : (name : ℕ → ℕ → ℕ) → AreNames name → (meets : T → Type 0) (answers : I → Option T → Type 0)
      (leaves : R → T → T → Type 0) (pool : LinearObjectPool T I R K)
      (number number' : PageNumber T (MadeOrReset I R K) (AnswerOf I K)) (item item' : Item T)
      → number.number ≢ number'.number → Pulls meets answers leaves pool number item
      → Pulls meets answers leaves pool number' item'
      → StandTogether name (linear_view pool).limit (λ value. meets value × IsMadeOrReset answers leaves value)
      (known_by number.number item) (known_by number'.number item')
  pulls-together name names meets answers leaves pool number number' item item' differ pulled pulled' =
      stand-together name names (linear_view pool).limit _ _ _ (known_by number.number item)
      (known_by number'.number item') pulled.within pulled'.within differ pulled.opened
      pulled'.opened pulled.pulled.legal pulled'.pulled.legal pulled.each_returned pulled'.each_returned

  -- and with their returns, as notes of them know
  pub returns-together : (name : ℕ → ℕ → ℕ) → AreNames name → (meets : T → Type 0) (answers : I → Option T → Type 0)
      (leaves : R → T → T → Type 0) (by by' : T → T → Type 0) (pool : LinearObjectPool T I R K)
      (number number' : PageNumber T (MadeOrReset I R K) (AnswerOf I K)) (item item' : Item T) (note note' : PageNote T)
      → number.number ≢ number'.number
      → Pulls meets answers leaves pool number item → Pulls meets answers leaves pool number' item'
      → IsGivenBack by item note → IsGivenBack by' item' note'
      → EachReturned (λ value. meets value × IsMadeOrReset answers leaves value) (view_of note.seat).operations
      → EachReturned (λ value. meets value × IsMadeOrReset answers leaves value) (view_of note'.seat).operations
      → StandTogether name (linear_view pool).limit (λ value. meets value × IsMadeOrReset answers leaves value)
      (noted number.number note) (noted number'.number note')
  returns-together name names meets answers leaves by by' pool number number' item item' note note' differ pulled pulled'
      back back' each each' =
      let opens = λ (is : Item T) (of : PageNote T) (gives : T → T → Type 0) (given : IsGivenBack gives is of).
      sym given.returned.same_opening in
      stand-together name names (linear_view pool).limit _ _ _ (noted number.number note) (noted number'.number note')
      pulled.within pulled'.within differ
      (subst (IsFilled 32 _) (opens item note by back) pulled.opened)
      (subst (IsFilled 32 _) (opens item' note' by' back') pulled'.opened)
      (subst (λ opening. IsLegal opening (view_of note.seat).operations) (opens item note by back) back.returned.legal)
      (subst (λ opening. IsLegal opening (view_of note'.seat).operations) (opens item' note' by' back')
      back'.returned.legal) each each'
