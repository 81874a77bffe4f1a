-- What changes in the table where the map changes at one index.
use Rattle.std.proofs.Common.{◌≡◌, ◌≢◌, ℕ, ◌+◌, ◌<◌, ◌≤◌, suc, zero, Option, Some, None, List, [], ◌∷◌, ◌++◌, length}
use Rattle.std.proofs.Common.{slice_set, refl, sym, ap, ◌∙◌, arith, inl, inr, length-append}
use Rattle.std.specs.Prelude.{Bool, unwrap_or, OnSome, is_some, option_map}
use Rattle.object_pool_cores.specs.declared.sequential.item.Item.{Item}
use Rattle.object_pool_cores.specs.Item.{with_value}
use Rattle.object_pool_cores.specs.Held.{held_at}
use Rattle.std.specs.List.{slice_get}
use Rattle.std.proofs.lemmas.Bool.{cases_lt, cases_eq}
use Rattle.std.proofs.lemmas.Option.{slice_get_past}
use Rattle.object_pool_cores.specs.Inside.HeldTable.{IsReplaced, listed}
use Rattle.pool_world.proofs.Places.{slice_get-append_front, slice_get-append_back}

module _ {X : Type 0} where
  pub length-listed : (at : ℕ → Option X) (n : ℕ) → length (listed at n) ≡ n
  length-listed at zero = refl
  length-listed at (suc n) = length-append (listed at n) (at n ∷ []) ∙ omega (arith, length-listed at n)

  -- what is read of the table
  slice_get-listed : (at : ℕ → Option X) (n i : ℕ) → i < n → slice_get (listed at n) i ≡ Some (at i)
  slice_get-listed at zero i within = absurd (omega arith)
  slice_get-listed at (suc n) i within = elim (cases_lt i n) [
    | inl before ↦ slice_get-append_front (listed at n) (at n ∷ []) i (omega (arith, before, length-listed at n))
        ∙ slice_get-listed at n i before
    | inr last ↦
        let same : i ≡ n = omega arith in
        let end : i ≡ 0 + length (listed at n) = omega (arith, length-listed at n) in
        ap (slice_get (listed at n ++ at n ∷ [])) end ∙ slice_get-append_back (listed at n) (at n ∷ []) 0
        ∙ ap (λ k. Some (at k)) (sym same)
  ]

  pub unwrap_or-listed : (at : ℕ → Option X) (n i : ℕ) → ((k : ℕ) → n ≤ k → at k ≡ None)
      → unwrap_or (slice_get (listed at n) i) None ≡ at i
  unwrap_or-listed at n i past = elim (cases_lt i n) [
    | inl within ↦ ap (λ o. unwrap_or o None) (slice_get-listed at n i within)
    | inr behind ↦
        ap (λ o. unwrap_or o None) (slice_get_past (listed at n) i (omega (arith, behind, length-listed at n)))
        ∙ sym (past i behind)
  ]

  -- the same at each index is the same table
  listed-same : (at other : ℕ → Option X) (n : ℕ) → ((k : ℕ) → k < n → other k ≡ at k) → listed other n ≡ listed at n
  listed-same at other zero same = refl
  listed-same at other (suc n) same =
      let front = listed-same at other n (λ k within. same k (omega arith)) in
      let last = same n (omega arith) in cc

  slice_set-front : (xs : List X) (x y : X) (i : ℕ) → i < length xs
      → slice_set (xs ++ x ∷ []) i y ≡ slice_set xs i y ++ x ∷ []
  slice_set-front [] x y i within = absurd (omega arith)
  slice_set-front (z ∷ xs) x y zero within = refl
  slice_set-front (z ∷ xs) x y (suc i) within = ap (λ rest. z ∷ rest) (slice_set-front xs x y i (omega arith))

  slice_set-last : (xs : List X) (x y : X) (i : ℕ) → i ≡ length xs → slice_set (xs ++ x ∷ []) i y ≡ xs ++ y ∷ []
  slice_set-last [] x y zero e = refl
  slice_set-last [] x y (suc i) e = absurd (omega (arith, e))
  slice_set-last (z ∷ xs) x y zero e = absurd (omega (arith, e))
  slice_set-last (z ∷ xs) x y (suc i) e = ap (λ rest. z ∷ rest) (slice_set-last xs x y i (omega (arith, e)))

  slice_set-past : (xs : List X) (y : X) (i : ℕ) → length xs ≤ i → slice_set xs i y ≡ xs
  slice_set-past [] y i past = refl
  slice_set-past (x ∷ xs) y zero past = absurd (omega arith)
  slice_set-past (x ∷ xs) y (suc i) past = ap (λ rest. x ∷ rest) (slice_set-past xs y i (omega arith))

module _ {X : Type 0} where
  -- another thing at one index
  pub listed-set : (at other : ℕ → Option X) (n i : ℕ) (place : Option X) → other i ≡ place
      → ((k : ℕ) → k ≢ i → other k ≡ at k)
      → listed other n ≡ slice_set (listed at n) i place
  listed-set at other zero i place here apart = refl
  listed-set at other (suc n) i place here apart = elim (cases_lt i n) [
    | inl before ↦
        let front = listed-set at other n i place here apart in
        let last = apart n (omega arith) in
        let set = slice_set-front (listed at n) (at n) place i (omega (arith, before, length-listed at n)) in cc
    | inr behind ↦ elim (cases_eq i n) [
      | inl same ↦
          let front = listed-same at other n (λ k within. apart k (omega arith)) in
          let last : other n ≡ place = ap other (sym same) ∙ here in
          let set = slice_set-last (listed at n) (at n) place i (omega (arith, same, length-listed at n)) in cc
      | inr differ ↦
          let front = listed-same at other n (λ k within. apart k (omega arith)) in
          let last = apart n (omega arith) in
          let set =
          slice_set-past (listed at n ++ at n ∷ []) place i (omega (arith, behind, length-listed at (suc n))) in cc
    ]
  ]

  -- something at the next index
  pub listed-push : (at other : ℕ → Option X) (n m : ℕ) (place : Option X) → m ≡ n + 1 → other n ≡ place
      → ((k : ℕ) → k ≢ n → other k ≡ at k) → listed other m ≡ listed at n ++ place ∷ []
  listed-push at other n m place more here apart =
      let front = listed-same at other n (λ k within. apart k (omega arith)) in
      let next : m ≡ suc n = omega (arith, more) in
      ap (listed other) next ∙ ap (λ all. all ++ other n ∷ []) front ∙ ap (λ last. listed at n ++ last ∷ []) here

-- what holds, holds of a Some
pub OnSome-always : {X : Type 0} {P : Type 0} (o : Option X) → P → OnSome o P
OnSome-always None p = tt
OnSome-always (Some x) p = p

module _ {T : Type 0} where
  -- the value at one index of the map is replaced
  pub IsReplaced-listed : (at other : ℕ → Option (Item T)) (n index : ℕ) (value : T) (there : Bool)
      → ((k : ℕ) → n ≤ k → at k ≡ None) → there ≡ is_some (at index)
      → other index ≡ option_map (λ item. with_value item value) (at index)
      → ((k : ℕ) → k ≢ index → other k ≡ at k)
      → IsReplaced (listed at n) index value (held_at (listed at n) index) there (listed other n)
  IsReplaced-listed at other n index value there past lookup here apart =
      rw (unwrap_or-listed at n index past) (by_item (at index) refl lookup here)
    where
      by_item : (o : Option (Item T)) → at index ≡ o → there ≡ is_some o
          → other index ≡ option_map (λ item. with_value item value) o
          → IsReplaced (listed at n) index value o there (listed other n)
      by_item None none lookup same = (
        lookup,
        listed-same at other n (λ k within. elim (cases_eq k index) [
          | inl here ↦ ap other here ∙ same ∙ sym none ∙ sym (ap at here)
          | inr differ ↦ apart k differ
        ]),
      )
      by_item (Some item) some lookup same =
          (lookup, listed-set at other n index (Some (with_value item value)) same apart)
