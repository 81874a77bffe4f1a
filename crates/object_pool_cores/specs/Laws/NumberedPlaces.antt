-- The places of a list of numbered items, and the pool that the list stands for.
use Rattle.std.proofs.Common.{◌≡◌, ◌≢◌, ℕ, ◌+◌, ◌-◌, ◌<◌, suc, zero, Option, Some, None, List, [], ◌∷◌, length, refl}
use Rattle.std.proofs.Common.{sym, ap, ◌∙◌, arith, map, slice_set, ◌/◌, ◌++◌, length-append, length-set}
use Rattle.std.proofs.Common.{inl, inr, ◌*◌}
use Rattle.std.specs.Prelude.{All}
use Rattle.std.specs.List.{slice_get}
use Rattle.std.proofs.lemmas.Bool.{cases_lt, cases_eq}
use Rattle.std.proofs.lemmas.List.{length-map}
use Rattle.std.proofs.lemmas.Option.{get_or_from_slice_get, slice_get_within, slice_get_cases, slice_get_past}
use Rattle.pool_world.specs.Pool.{IsPool, IsSame, AllowsPages, free_with, place_of, after_growth}
use Rattle.pool_world.specs.Pool.{with_place}
use Rattle.pool_world.proofs.Places.{place_of-there, slice_get-set_same, slice_get-set_other, slice_get-append_front}
use Rattle.pool_world.proofs.Places.{slice_get-append_back}
use Rattle.object_pool_cores.specs.Laws.PoolSteps.{with_place-same, with_place-other, grown-old, grown-new}
use Rattle.object_pool_cores.specs.Inside.Numbered.{Numbered, IsWellNumbered, Grows, listed_pool}

-- a pool that isn't at its limit may have a page more
AllowsPages-more : (limit : Option ℕ) (pages : ℕ) → AllowsPages limit pages → limit ≢ Some pages
    → AllowsPages limit (pages + 1)
AllowsPages-more None pages allowed other = tt
AllowsPages-more (Some most) pages allowed other =
    let below : most ≢ pages = λ e. other (ap Some e) in omega arith

module _ {T : Type 0} where
  -- a value of a page
  pub value_of-page : (values : List T) (n : ℕ) (v : T) → slice_get (map Some values) n ≡ Some (Some v)
      → slice_get values n ≡ Some v
  value_of-page [] n v e = cc
  value_of-page (w ∷ values) zero v e = cc
  value_of-page (w ∷ values) (suc n) v e = value_of-page values n v e

  -- how many items there are with a page more
  length-grown : (items : Numbered T) (values : List T) → length values ≡ 32
      → length (items.places ++ map Some values) ≡ length items.places + 32
  length-grown items values count = length-append items.places (map Some values)
      ∙ ap (λ n. length items.places + n) (length-map values Some ∙ count)

  -- a page of clean values leaves the items sound
  pub IsWellNumbered-grown : (meets : T → Type 0) (items : Numbered T) (values : List T) → IsWellNumbered meets items
      → items.limit ≢ Some (length items.places / 32) → length values ≡ 32 → All meets values
      → IsWellNumbered meets (record items { places = items.places ++ map Some values })
  IsWellNumbered-grown meets items values sound below count clean = record {
    whole = let more = length-grown items values count in let whole = sound.whole in omega arith;
    allowed =
        let more = length-grown items values count in
        let pages : length (items.places ++ map Some values) / 32 ≡ length items.places / 32 + 1 = omega arith
        in
        rw pages (AllowsPages-more items.limit (length items.places / 32) sound.allowed below);
    clean = λ n v e. elim (cases_lt n (length items.places)) [
      | inl front ↦ sound.clean n v (sym (slice_get-append_front items.places (map Some values) n front) ∙ e)
      | inr back ↦
          let place : n - length items.places + length items.places ≡ n = omega arith in
          let here = sym (slice_get-append_back items.places (map Some values) (n - length items.places))
          ∙ ap (slice_get (items.places ++ map Some values)) place ∙ e in
          let value = value_of-page values (n - length items.places) v here in
          rw (get_or_from_slice_get values (n - length items.places) v v value) at
          (clean (n - length items.places) v (slice_get_within values (n - length items.places) v value))
    ];
    starts = let more = length-grown items values count in let starts = sound.starts in omega arith;
    passed = λ n v below e.
        let starts = sound.starts in
        let front : n < length items.places = omega arith in
        sound.passed n v below (sym (slice_get-append_front items.places (map Some values) n front) ∙ e);
  }

module _ {T : Type 0} where
  -- sound items are a pool
  pub IsPool-sound :
      (meets : T → Type 0) (items : Numbered T) → IsWellNumbered meets items → IsPool items.limit (listed_pool items)
  IsPool-sound meets items sound = record {
    inside = λ n within.
        let whole = sound.whole in
        let there : n < length items.places = omega arith in
        elim (slice_get_cases items.places n).1 [
          | inl lookup ↦ λ e. place_of-there lookup.0 (ap place_of (sym lookup.2) ∙ e)
          | inr past ↦ absurd (omega arith)
        ];
    past = λ n behind. let whole = sound.whole in ap place_of (slice_get_past items.places n (omega arith));
    allowed = sound.allowed;
  }

  -- another place in the list is another place in the pool
  pub listed_pool-set : (items : Numbered T) (n : ℕ) (place : Option T) → n < length items.places
      → IsSame (listed_pool (record items { places = slice_set items.places n place }))
      (with_place (listed_pool items) n (place_of (Some place)))
  listed_pool-set items n place within = record {
    pages = ap (λ count. count / 32) (length-set items.places n place);
    places = λ m. elim (cases_eq m n) [
      | inl same ↦
          rw same
          (ap place_of (slice_get-set_same items.places n place within)
          ∙ sym (with_place-same (listed_pool items) n (place_of (Some place))))
      | inr differ ↦ ap place_of (slice_get-set_other items.places n m place differ)
          ∙ sym (with_place-other (listed_pool items) n m (place_of (Some place)) differ)
    ];
  }

  -- a page more in the list is a growth of the pool
  listed_pool-grown : (meets : T → Type 0) (items : Numbered T) (values : List T) → IsWellNumbered meets items
      → length values ≡ 32 → IsSame (listed_pool (record items { places = items.places ++ map Some values }))
      (after_growth (listed_pool items) values)
  listed_pool-grown meets items values sound count = record {
    pages = let more = length-grown items values count in omega arith;
    places = λ n. elim (cases_lt n (length items.places)) [
      | inl front ↦
          let whole = sound.whole in
          ap place_of (slice_get-append_front items.places (map Some values) n front)
          ∙ sym (grown-old (listed_pool items) values n (omega arith))
      | inr back ↦
          let whole = sound.whole in
          let first : 32 * (length items.places / 32) ≡ length items.places = omega arith in
          let place : n - length items.places + length items.places ≡ n = omega arith in
          let here = sym (ap (slice_get (items.places ++ map Some values)) place)
          ∙ slice_get-append_back items.places (map Some values) (n - length items.places) in
          ap place_of here ∙ free_place values (n - length items.places)
          ∙ sym (grown-new (listed_pool items) values n (omega arith)
          ∙ ap (λ k. free_with (slice_get values (n - k))) first)
    ];
  }
    where
      free_place : (ws : List T) (k : ℕ) → place_of (slice_get (map Some ws) k) ≡ free_with (slice_get ws k)
      free_place [] k = refl
      free_place (w ∷ ws) zero = refl
      free_place (w ∷ ws) (suc k) = free_place ws k

  -- what a page of answers behind a sound list is to the pool
  pub Grows-page : (meets : T → Type 0) (answers : Option T → Type 0) (items : Numbered T) (values : List T)
      → IsWellNumbered meets items → items.limit ≢ Some (length items.places / 32) → length values ≡ 32
      → All (λ v. answers (Some v)) values → Grows items.limit answers (listed_pool items)
      (listed_pool (record items { places = items.places ++ map Some values }))
  Grows-page meets answers items values sound below count answered = record {
    values = values;
    answered = answered;
    legal = (count, AllowsPages-more items.limit (length items.places / 32) sound.allowed below);
    grown = listed_pool-grown meets items values sound count;
  }
