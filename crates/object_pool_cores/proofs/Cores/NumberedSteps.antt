-- What changes for the numbers where one place of a page changes.
use Rattle.std.proofs.Common.{◌≡◌, ℕ, ◌+◌, ◌-◌, ◌*◌, ◌/◌, ◌<◌, ◌≤◌, ◌↔◌, Option, Some, None, List, [], length}
use Rattle.std.proofs.Common.{slice_set, min, refl, sym, ap, ◌∙◌, arith, inl, inr, length-set}
use Rattle.std.specs.List.{slice_get}
use Rattle.std.proofs.lemmas.Bool.{cases_lt}
use Rattle.std.proofs.lemmas.List.Elements.{All-set}
use Rattle.std.proofs.lemmas.Option.{slice_get_within, get_or_from_slice_get}
use Rattle.pool_world.specs.Pool.{Free, Out, IsSame, with_place, place_of}
use Rattle.object_pool_cores.specs.LeastChoice.{TakesLeast}
use Rattle.object_pool_cores.specs.Inside.Numbered.{Numbered, IsWellNumbered, AreWhole, HasNoneBelow, FindsNone}
use Rattle.object_pool_cores.specs.Inside.Numbered.{TakesLeastOf}
use Rattle.object_pool_cores.specs.Inside.Numbered.{laid_out, listed_pool}
use Rattle.object_pool_cores.specs.OnePage.{IsOutId, TakesLeastId}
use Rattle.pool_world.proofs.Places.{place_of-out, place_of-free}
use Rattle.object_pool_cores.specs.Laws.NumberedPlaces.{listed_pool-set}
use Rattle.object_pool_cores.specs.Laws.HeldItems.{slice_get-from_set}
use Rattle.object_pool_cores.proofs.Cores.PagedPlaces.{length-laid_out, get-laid_out, set-laid_out}

module _ {T : Type 0} where
  -- the items of these pages
  abbrev pub items_of : List (List (Option T)) → Option ℕ → ℕ → ℕ → Numbered T
  items_of pages limit start looked = record { places = laid_out pages; limit = limit; start = start; looked = looked }

  pub pages_of : (pages : List (List (Option T))) → AreWhole pages → length (laid_out pages) / 32 ≡ length pages
  pages_of pages whole = let count = length-laid_out pages whole in omega arith

  -- a number is out where its id is
  pub out-at : (pages : List (List (Option T))) (limit : Option ℕ) (start looked k id n : ℕ) (page : List (Option T))
      → AreWhole pages → slice_get pages k ≡ Some page → id < 32 → n ≡ 32 * k + id
      → IsOutId page id ↔ ((listed_pool (items_of pages limit start looked)).at n ≡ Out)
  out-at pages limit start looked k id n page whole here within e =
      let place = get-laid_out pages k id n page whole here within e in
      (λ out. ap place_of (place ∙ out), λ out. sym place ∙ place_of-out (slice_get (laid_out pages) n) out)

  pub out-within : (pages : List (List (Option T))) (limit : Option ℕ) (start looked n : ℕ) → AreWhole pages
      → (listed_pool (items_of pages limit start looked)).at n ≡ Out → n < 32 * length pages
  out-within pages limit start looked n whole out =
      let within = slice_get_within (laid_out pages) n None (place_of-out (slice_get (laid_out pages) n) out) in
      let count = length-laid_out pages whole in omega arith

  length-at : (pages : List (List (Option T))) (k : ℕ) (page : List (Option T)) → AreWhole pages
      → slice_get pages k ≡ Some page → length page ≡ 32
  length-at pages k page whole here =
      ap length (sym (get_or_from_slice_get pages k page [] here)) ∙ whole k [] (slice_get_within pages k page here)

  HasNoneBelow-fewer : (places : List (Option T)) (less more : ℕ) → less ≤ more → HasNoneBelow places more
      → HasNoneBelow places less
  HasNoneBelow-fewer places less more fewer none n v below free = none n v (omega arith) free

  -- a place changes: to a clean value at or behind the start, or to none
  IsSound-set : (meets : T → Type 0) (items : Numbered T) (n : ℕ) (place : Option T) (start looked : ℕ)
      → IsWellNumbered meets items
      → ((v : T) → place ≡ Some v → meets v × (32 * start ≤ n)) → start ≤ length items.places / 32
      → HasNoneBelow items.places (32 * start)
      → IsWellNumbered meets
      (record { places = slice_set items.places n place; limit = items.limit; start = start; looked = looked })
  IsSound-set meets items n place start looked sound clean starts passed = record {
    whole = rw length-set sound.whole;
    allowed = rw length-set sound.allowed;
    clean = λ m v e. elim (slice_get-from_set items.places n m place (Some v) e) [
      | inl here ↦ (clean v here.1).0
      | inr apart ↦ sound.clean m v apart.1
    ];
    starts = rw length-set starts;
    passed = λ m v below e. elim (slice_get-from_set items.places n m place (Some v) e) [
      | inl here ↦ let behind = (clean v here.1).1 in let at = here.0 in absurd (omega arith)
      | inr apart ↦ passed m v below apart.1
    ];
  }

  -- the least free id of the first page that isn't full is the least free number
  TakesLeast-at : (pages : List (List (Option T))) (limit : Option ℕ) (start looked k id n : ℕ) (v : T)
      (page left : List (Option T)) (after : Numbered T) → AreWhole pages → slice_get pages k ≡ Some page
      → n ≡ 32 * k + id
      → TakesLeastId page id v left → HasNoneBelow (laid_out pages) (32 * k)
      → after.places ≡ laid_out (slice_set pages k left)
      → TakesLeast (listed_pool (items_of pages limit start looked)) n v (listed_pool after)
  TakesLeast-at pages limit start looked k id n v page left after whole here e takes passed places =
      let there = get-laid_out pages k id n page whole here takes.in_page e ∙ takes.free in
      let set = set-laid_out pages k id n page None whole here takes.in_page e in
      let changed : after.places ≡ slice_set (laid_out pages) n None = places
      ∙ ap (λ p. laid_out (slice_set pages k p)) takes.taken ∙ set in
      let items = items_of pages limit start looked in
      record {
        free = ap place_of there;
        least = λ m w free.
            let lies = place_of-free (slice_get (laid_out pages) m) w free in
            elim (cases_lt m n) [
              | inr behind ↦ behind
              | inl below ↦ elim (cases_lt m (32 * k)) [
                | inl before ↦ absurd (passed m w before lies)
                | inr inside ↦
                    let lower : m - 32 * k < id = omega arith in
                    let page_bound = takes.in_page in
                    let in_page : m - 32 * k < 32 = omega arith in
                    absurd
                    (takes.least (m - 32 * k) w lower
                    (sym (get-laid_out pages k (m - 32 * k) m page whole here in_page (omega arith)) ∙ lies))
              ]
            ];
        taken = rw changed (listed_pool-set items n None (slice_get_within (laid_out pages) n (Some v) there));
      }

  -- all pages were passed
  pub FindsNone-passed : (pages : List (List (Option T))) (limit : Option ℕ) (start looked : ℕ) (after : Numbered T)
      → AreWhole pages → HasNoneBelow (laid_out pages) (32 * length pages) → after.places ≡ laid_out pages
      → after.start ≡ length pages → FindsNone (items_of pages limit start looked) after
  FindsNone-passed pages limit start looked after whole passed places at = record {
    exhausted = λ n v free.
        let lies = place_of-free (slice_get (laid_out pages) n) v free in
        let within = slice_get_within (laid_out pages) n (Some v) lies in
        let count = length-laid_out pages whole in
        passed n v (omega arith) lies;
    places = places;
    starts = at ∙ sym (pages_of pages whole);
  }

  -- a value is put at a number that was out
  pub record Puts (meets : T → Type 0) (before : Numbered T) (n : ℕ) (v : T) (pages : List (List (Option T)))
      (start : ℕ) : Type 0 where
    pub whole : AreWhole pages
    pub sound : IsWellNumbered meets (items_of pages before.limit start before.looked)
    pub returned : IsSame (listed_pool (items_of pages before.limit start before.looked))
        (with_place (listed_pool before) n (Free v))

  pub Puts-at : (meets : T → Type 0) (pages : List (List (Option T))) (limit : Option ℕ)
      (start looked k id n : ℕ) (v : T)
      (page left : List (Option T)) (new_start : ℕ) → AreWhole pages
      → IsWellNumbered meets (items_of pages limit start looked)
      → slice_get pages k ≡ Some page → id < 32 → n ≡ 32 * k + id → left ≡ slice_set page id (Some v) → meets v
      → new_start ≡ min start k → Puts meets (items_of pages limit start looked) n v (slice_set pages k left) new_start
  Puts-at meets pages limit start looked k id n v page left new_start whole sound here within e puts clean lower =
      let there = set-laid_out pages k id n page (Some v) whole here within e in
      let changed : laid_out (slice_set pages k left) ≡ slice_set (laid_out pages) n (Some v) =
      ap (λ p. laid_out (slice_set pages k p)) puts ∙ there in
      let items = items_of pages limit start looked in
      let starts = sound.starts in
      let bound = slice_get_within pages k page here in
      let count = length-laid_out pages whole in
      record {
        whole =
            All-set (λ p. length p ≡ 32) pages k left
            (ap length puts ∙ length-set page id (Some v) ∙ length-at pages k page whole here) whole;
        sound =
            rw changed
            (IsSound-set meets items n (Some v) new_start looked sound
            (λ w same. (rw (let s : w ≡ v = cc in s) clean, omega arith)) (omega arith)
            (HasNoneBelow-fewer (laid_out pages) (32 * new_start) (32 * start) (omega arith) sound.passed));
        returned = rw changed (let set = listed_pool-set items n (Some v) (omega arith) in record {
          pages = set.pages;
          places = set.places;
        });
      }

  -- the least free number was taken from the first page that isn't full
  pub record TakesAt (meets : T → Type 0) (before : Numbered T) (n : ℕ) (v : T) (pages : List (List (Option T)))
      (start looked : ℕ) : Type 0 where
    pub whole : AreWhole pages
    pub sound : IsWellNumbered meets (items_of pages before.limit start looked)
    pub least : TakesLeastOf before n v (items_of pages before.limit start looked)

  pub TakesAt-page : (meets : T → Type 0) (pages : List (List (Option T))) (limit : Option ℕ)
      (start looked k id n : ℕ) (v : T)
      (page left : List (Option T)) (new_looked : ℕ) → AreWhole pages
      → IsWellNumbered meets (items_of pages limit start looked)
      → slice_get pages k ≡ Some page → n ≡ 32 * k + id → TakesLeastId page id v left
      → HasNoneBelow (laid_out pages) (32 * k)
      → TakesAt meets (items_of pages limit start looked) n v (slice_set pages k left) k new_looked
  TakesAt-page meets pages limit start looked k id n v page left new_looked whole sound here e takes passed =
      let there = set-laid_out pages k id n page None whole here takes.in_page e in
      let changed : laid_out (slice_set pages k left) ≡ slice_set (laid_out pages) n None =
      ap (λ p. laid_out (slice_set pages k p)) takes.taken ∙ there in
      let bound = slice_get_within pages k page here in
      let count = length-laid_out pages whole in
      let in_page = takes.in_page in
      record {
        whole =
            All-set (λ p. length p ≡ 32) pages k left
            (ap length takes.taken ∙ length-set page id None ∙ length-at pages k page whole here) whole;
        sound =
            rw changed
            (IsSound-set meets (items_of pages limit start looked) n None k new_looked sound (λ w never. absurd cc)
            (omega arith) passed);
        least = record {
          takes = TakesLeast-at pages limit start looked k id n v page left
              (items_of (slice_set pages k left) limit k new_looked) whole here e takes passed refl;
          starts = omega arith;
        };
      }

  -- all pages are full
  pub IsSound-passed : (meets : T → Type 0) (pages : List (List (Option T))) (limit : Option ℕ)
      (start looked k new_looked : ℕ)
      → AreWhole pages → IsWellNumbered meets (items_of pages limit start looked) → k ≤ length pages
      → HasNoneBelow (laid_out pages) (32 * k) → IsWellNumbered meets (items_of pages limit k new_looked)
  IsSound-passed meets pages limit start looked k new_looked whole sound bound passed = record {
    whole = sound.whole;
    allowed = sound.allowed;
    clean = sound.clean;
    starts = let count = length-laid_out pages whole in omega arith;
    passed = passed;
  }
