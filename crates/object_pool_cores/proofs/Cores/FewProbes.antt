-- How many pages the steps of a pull look at.
use Rattle.std.proofs.Common.{◌≡◌, ◌≢◌, ℕ, ◌*◌, ◌<◌, ◌≤◌, suc, zero, Option, refl, sym, ap, ◌∙◌, arith, inl}
use Rattle.std.proofs.Common.{inr}
use Rattle.std.proofs.lemmas.Bool.{cases_lt}
use Rattle.pool_world.specs.Pool.{Pool, Place, Absent, Free, Out, IsPool}
use Rattle.object_pool_cores.specs.LeastChoice.{IsExhausted, TakesLeast}
use Rattle.object_pool_cores.specs.PageProbes.{one_if_out, out_below, out_count, ProbesFew}
use Rattle.object_pool_cores.specs.Inside.Numbered.{Numbered, FindsNone, Grows, ProbesPages, TakesLeastOf, listed_pool}
use Rattle.object_pool_cores.proofs.LeastChoiceSteps.{free-first}

module _ {T : Type 0} where
  -- a first part of the numbers is out
  out_below-first : (pool : Pool T) (m n : ℕ) → ((k : ℕ) → k < m → pool.at k ≡ Out) → m ≤ n → m ≤ out_below pool n
  out_below-first pool m zero out within = omega arith
  out_below-first pool m (suc n) out within = elim (cases_lt n m) [
    | inl last ↦
        let before = out_below-first pool n n (λ k below. out k (omega arith)) (omega arith) in
        let one : one_if_out (pool.at n) ≡ 1 = ap one_if_out (out n last) in omega arith
    | inr past ↦ let before = out_below-first pool m n out past in omega arith
  ]

  is_out : (place : Place T) → place ≢ Absent → ((v : T) → place ≡ Free v → ⊥) → place ≡ Out
  is_out Absent there taken = absurd (there refl)
  is_out (Free v) there taken = absurd (taken v refl)
  is_out Out there taken = refl

  -- the numbers below the least free one are out
  out_count-least : (limit : Option ℕ) (pool : Pool T) (n : ℕ) (v : T) (new : Pool T) → IsPool limit pool
      → TakesLeast pool n v new → n ≤ out_count pool
  out_count-least limit pool n v new sound takes = elim (cases_lt n (32 * pool.pages)) [
    | inl within ↦
        out_below-first pool n (32 * pool.pages) (λ k below. is_out (pool.at k) (sound.inside k (omega arith))
        (λ w free. let first = takes.least k w free in absurd (omega arith))) (omega arith)
    | inr past ↦ let never : Absent ≡ Free v = sym (sound.past n past) ∙ takes.free in absurd cc
  ]

  -- where none is free, each number is out
  out_count-exhausted : (limit : Option ℕ) (pool : Pool T) → IsPool limit pool → IsExhausted pool
      → 32 * pool.pages ≤ out_count pool
  out_count-exhausted limit pool sound exhausted = out_below-first pool (32 * pool.pages) (32 * pool.pages)
      (λ k below. is_out (pool.at k) (sound.inside k below) (exhausted k)) (omega arith)

  -- the least free number was taken
  pub ProbesFew-taken : (old new : Numbered T) (n : ℕ) (v : T) → IsPool old.limit (listed_pool old)
      → TakesLeastOf old n v new
      → ProbesPages old 1 new → ProbesFew (listed_pool old) old.looked new.looked
  ProbesFew-taken old new n v sound takes looks =
      let few = out_count-least old.limit (listed_pool old) n v (listed_pool new) sound takes.takes in
      let onward = looks.onward in
      let each = looks.each in
      let starts = takes.starts in
      (looks.more, omega arith)

  -- no number was free
  pub ProbesFew-none : (old middle : Numbered T) → IsPool old.limit (listed_pool old) → FindsNone old middle
      → ProbesPages old 0 middle
      → ProbesFew (listed_pool old) old.looked middle.looked
  ProbesFew-none old middle sound none looks =
      let few = out_count-exhausted old.limit (listed_pool old) sound none.exhausted in
      let onward = looks.onward in
      let each = looks.each in
      let starts = none.starts in
      (looks.more, omega arith)

  -- no number was free, and the first of a page more was taken
  pub ProbesFew-grown : (answers : Option T → Type 0) (old middle grown new : Numbered T) (n : ℕ) (v : T)
      → IsPool old.limit (listed_pool old) → FindsNone old middle → ProbesPages old 0 middle
      → Grows old.limit answers (listed_pool old) (listed_pool grown) → grown.start ≡ middle.start
      → grown.looked ≡ middle.looked
      → TakesLeastOf grown n v new → ProbesPages grown 1 new → ProbesFew (listed_pool old) old.looked new.looked
  ProbesFew-grown answers old middle grown new n v sound none looks grows same_start same_looked takes more =
      let few = out_count-exhausted old.limit (listed_pool old) sound none.exhausted in
      let first = free-first old.limit answers (listed_pool old) (listed_pool grown) grows in
      let least = takes.takes.least (32 * (listed_pool old).pages) first.0 first.1 in
      let each = looks.each in
      let last = more.each in
      let starts = none.starts in
      let ends = takes.starts in
      let onward = looks.onward in
      let further = more.onward in
      let mores = looks.more in
      let most = more.more in
      (omega arith, omega arith)
