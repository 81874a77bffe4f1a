-- The places of whole pages, one page behind another.
use Rattle.std.proofs.Common.{◌≡◌, ℕ, ◌+◌, ◌-◌, ◌*◌, ◌<◌, suc, zero, Option, Some, List, [], ◌∷◌, ◌++◌, length}
use Rattle.std.proofs.Common.{slice_set, refl, sym, ap, ◌∙◌, arith, inl, inr, length-append, append_assoc, append-nil}
use Rattle.std.specs.List.{slice_get}
use Rattle.std.proofs.lemmas.Bool.{cases_lt}
use Rattle.std.proofs.lemmas.List.Elements.{All-head, All-tail}
use Rattle.object_pool_cores.specs.Inside.Numbered.{laid_out, AreWhole, HasNoneBelow}
use Rattle.object_pool_cores.specs.OnePage.{HasNoFreeId}
use Rattle.pool_world.proofs.Places.{slice_get-append_front, slice_get-append_back}

module _ {X : Type 0} where
  -- a place is set in the first or the second of two lists
  slice_set-append_front : (xs ys : List X) (n : ℕ) (x : X) → n < length xs
      → slice_set (xs ++ ys) n x ≡ slice_set xs n x ++ ys
  slice_set-append_front [] ys n x within = absurd (omega arith)
  slice_set-append_front (y ∷ xs) ys zero x within = refl
  slice_set-append_front (y ∷ xs) ys (suc n) x within =
      ap (λ rest. y ∷ rest) (slice_set-append_front xs ys n x (omega arith))

  slice_set-append_back : (xs ys : List X) (n m : ℕ) (x : X) → m ≡ length xs + n
      → slice_set (xs ++ ys) m x ≡ xs ++ slice_set ys n x
  slice_set-append_back [] ys n m x e = ap (λ k. slice_set ys k x) (omega (arith, e))
  slice_set-append_back (y ∷ xs) ys n zero x e = absurd (omega (arith, e))
  slice_set-append_back (y ∷ xs) ys n (suc m) x e =
      ap (λ rest. y ∷ rest) (slice_set-append_back xs ys n m x (omega (arith, e)))

module _ {T : Type 0} where
  pub length-laid_out : (pages : List (List (Option T))) → AreWhole pages → length (laid_out pages) ≡ 32 * length pages
  length-laid_out [] whole = refl
  length-laid_out (page ∷ pages) whole =
      let here = All-head (λ p. length p ≡ 32) page pages whole in
      let behind = length-laid_out pages (All-tail (λ p. length p ≡ 32) page pages whole) in
      length-append page (laid_out pages) ∙ omega (arith, here, behind)

  pub get-laid_out : (pages : List (List (Option T))) (k id n : ℕ) (page : List (Option T)) → AreWhole pages
      → slice_get pages k ≡ Some page → id < 32 → n ≡ 32 * k + id → slice_get (laid_out pages) n ≡ slice_get page id
  get-laid_out [] k id n page whole here within e = absurd cc
  get-laid_out (first ∷ pages) zero id n page whole here within e =
      let count = All-head (λ p. length p ≡ 32) first pages whole in
      let same : first ≡ page = cc in
      let place : n ≡ id = omega (arith, e) in
      ap (slice_get (first ++ laid_out pages)) place
      ∙ slice_get-append_front first (laid_out pages) id (omega (arith, count)) ∙ ap (λ p. slice_get p id) same
  get-laid_out (first ∷ pages) (suc k) id n page whole here within e =
      let count = All-head (λ p. length p ≡ 32) first pages whole in
      let place : n ≡ (32 * k + id) + length first = omega (arith, e, count) in
      ap (slice_get (first ++ laid_out pages)) place ∙ slice_get-append_back first (laid_out pages) (32 * k + id)
      ∙ get-laid_out pages k id (32 * k + id) page (All-tail (λ p. length p ≡ 32) first pages whole) here within refl

  pub set-laid_out : (pages : List (List (Option T))) (k id n : ℕ) (page : List (Option T)) (place : Option T)
      → AreWhole pages
      → slice_get pages k ≡ Some page → id < 32 → n ≡ 32 * k + id
      → laid_out (slice_set pages k (slice_set page id place)) ≡ slice_set (laid_out pages) n place
  set-laid_out [] k id n page place whole here within e = absurd cc
  set-laid_out (first ∷ pages) zero id n page place whole here within e =
      let count = All-head (λ p. length p ≡ 32) first pages whole in
      let same : first ≡ page = cc in
      let at : n ≡ id = omega (arith, e) in
      ap (λ p. slice_set p id place ++ laid_out pages) (sym same)
      ∙ sym (slice_set-append_front first (laid_out pages) id place (omega (arith, count)))
      ∙ ap (λ m. slice_set (first ++ laid_out pages) m place) (sym at)
  set-laid_out (first ∷ pages) (suc k) id n page place whole here within e =
      let count = All-head (λ p. length p ≡ 32) first pages whole in
      ap (λ rest. first ++ rest)
      (set-laid_out pages k id (32 * k + id) page place (All-tail (λ p. length p ≡ 32) first pages whole) here
      within refl)
      ∙ sym (slice_set-append_back first (laid_out pages) (32 * k + id) n place (omega (arith, e, count)))

  pub laid_out-push : (pages : List (List (Option T))) (page : List (Option T))
      → laid_out (pages ++ page ∷ []) ≡ laid_out pages ++ page
  laid_out-push [] page = append-nil page
  laid_out-push (first ∷ pages) page = ap (λ rest. first ++ rest) (laid_out-push pages page)
      ∙ sym (append_assoc first (laid_out pages) page)

  -- a full page is passed
  pub HasNoneBelow-full : (pages : List (List (Option T))) (k : ℕ) (page : List (Option T)) → AreWhole pages
      → slice_get pages k ≡ Some page → HasNoFreeId page → HasNoneBelow (laid_out pages) (32 * k)
      → HasNoneBelow (laid_out pages) (32 * (k + 1))
  HasNoneBelow-full pages k page whole here full passed n v below free = elim (cases_lt n (32 * k)) [
    | inl before ↦ passed n v before free
    | inr inside ↦
        let within : n - 32 * k < 32 = omega arith in
        full (n - 32 * k) v (sym (get-laid_out pages k (n - 32 * k) n page whole here within (omega arith)) ∙ free)
  ]
