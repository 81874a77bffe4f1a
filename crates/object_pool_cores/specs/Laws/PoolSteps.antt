-- What the moves of a pool make of its places.
use Rattle.std.proofs.Common.{◌≡◌, ◌≢◌, ℕ, ◌-◌, ◌*◌, ◌<◌, ◌≤◌, Option, Some, None, List, refl, sym, ap, ◌∙◌, inl}
use Rattle.std.proofs.Common.{inr, ◌⊎◌}
use Rattle.std.specs.List.{slice_get}
use Rattle.std.proofs.lemmas.Bool.{cases_lt, cases_eq, eq-eqb, ne_eqb, lt-ltb, le-ltb}
use Rattle.pool_world.specs.Pool.{Pool, Place, Free, IsSame, free_with, with_place, after_growth}
use Rattle.object_pool_cores.specs.LeastChoice.{IsExhausted}

module _ {T : Type 0} where
  -- a place that changes, and one that doesn't
  pub with_place-same : (pool : Pool T) (n : ℕ) (place : Place T) → (with_place pool n place).at n ≡ place
  with_place-same pool n place = rw (eq-eqb n n refl) refl

  pub with_place-other :
      (pool : Pool T) (n m : ℕ) (place : Place T) → m ≢ n → (with_place pool n place).at m ≡ pool.at m
  with_place-other pool n m place other = rw (ne_eqb m n other) refl

  -- the places of a pool that has another place at one number
  pub at-with_place : (pool : Pool T) (n m : ℕ) (place other : Place T)
      → (with_place pool n place).at m ≡ other → ((m ≡ n) × (place ≡ other)) ⊎ ((m ≢ n) × (pool.at m ≡ other))
  at-with_place pool n m place other e = elim (cases_eq m n) [
    | inl same ↦
        inl (same, sym (with_place-same pool n place) ∙ ap (with_place pool n place).at (sym same) ∙ e)
    | inr differ ↦ inr (differ, sym (with_place-other pool n m place differ) ∙ e)
  ]

  -- the numbers of the pages that there were, and those of the page that came
  pub grown-old :
      (pool : Pool T) (values : List T) (n : ℕ) → n < 32 * pool.pages → (after_growth pool values).at n ≡ pool.at n
  grown-old pool values n below = rw (lt-ltb n (32 * pool.pages) below) refl

  pub grown-new : (pool : Pool T) (values : List T) (n : ℕ) → 32 * pool.pages ≤ n
      → (after_growth pool values).at n ≡ free_with (slice_get values (n - 32 * pool.pages))
  grown-new pool values n past = rw (le-ltb n (32 * pool.pages) past) refl

  pub IsSame-trans : (a b c : Pool T) → IsSame a b → IsSame b c → IsSame a c
  IsSame-trans a b c ab bc = record { pages = ab.pages ∙ bc.pages; places = λ n. ab.places n ∙ bc.places n }

  -- pools that are the same stay so when a place changes in both
  pub IsSame-with_place : (a b : Pool T) (n : ℕ) (place : Place T) → IsSame a b
      → IsSame (with_place a n place) (with_place b n place)
  IsSame-with_place a b n place ab = record {
    pages = ab.pages;
    places = λ m. elim (cases_eq m n) [
      | inl same ↦ rw same (with_place-same a n place ∙ sym (with_place-same b n place))
      | inr differ ↦
          with_place-other a n m place differ ∙ ab.places m ∙ sym (with_place-other b n m place differ)
    ];
  }

  -- what is free in a page more is one of its values, where nothing was free before
  pub free-grown : (pool : Pool T) (values : List T) (n : ℕ) (v : T) → IsExhausted pool
      → (after_growth pool values).at n ≡ Free v
      → (32 * pool.pages ≤ n) × (slice_get values (n - 32 * pool.pages) ≡ Some v)
  free-grown pool values n v exhausted free = elim (cases_lt n (32 * pool.pages)) [
    | inl old ↦ absurd (exhausted n v (sym (grown-old pool values n old) ∙ free))
    | inr new ↦ (
      new,
      free_with-value (slice_get values (n - 32 * pool.pages)) v
          (sym (grown-new pool values n new) ∙ free),
    )
  ]
    where
      free_with-value : (o : Option T) (w : T) → free_with o ≡ Free w → o ≡ Some w
      free_with-value None w e = cc
      free_with-value (Some u) w e = cc
