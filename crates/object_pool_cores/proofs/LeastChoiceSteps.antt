-- What makes a pull one by least choice.
use Rattle.std.proofs.Common.{◌≡◌, ℕ, ◌-◌, ◌*◌, Option, List, [], ◌∷◌, length, Ok, sym, ap, ◌∙◌, arith, inr}
use Rattle.std.specs.List.{slice_get}
use Rattle.pool_world.specs.Pool.{Pool, Out, Free, IsSame, free_with, with_place, after_growth}
use Rattle.object_pool_cores.specs.LeastChoice.{IsExhausted, PullsLeast, TakesLeast}
use Rattle.object_pool_cores.specs.Inside.Numbered.{Grows}
use Rattle.object_pool_cores.specs.Laws.PoolSteps.{grown-new, IsSame-trans, IsSame-with_place}

module _ {T : Type 0} (limit : Option ℕ) (answers : Option T → Type 0) where
  -- the first number of a page more is free
  pub free-first : (old middle : Pool T) → Grows limit answers old middle
      → (v : T) × (middle.at (32 * old.pages) ≡ Free v)
  free-first old middle grows = first grows.values grows.legal.0 (grows.grown.places (32 * old.pages)
      ∙ grown-new old grows.values (32 * old.pages) (omega arith))
    where
      first : (values : List T) → length values ≡ 32
          → middle.at (32 * old.pages) ≡ free_with (slice_get values (32 * old.pages - 32 * old.pages))
          → (v : T) × (middle.at (32 * old.pages) ≡ Free v)
      first [] count e = absurd (omega arith)
      first (v ∷ values) count e = let none : 32 * old.pages - 32 * old.pages ≡ 0 = omega arith in
          (v, e ∙ ap (λ n. free_with (slice_get (v ∷ values) n)) none)

  -- a number that is the least of one pool is so of a pool that is the same
  TakesLeast-same : (a b : Pool T) (n : ℕ) (v : T) (new : Pool T) → IsSame a b → TakesLeast a n v new
      → TakesLeast b n v new
  TakesLeast-same a b n v new same takes = record {
    free = sym (same.places n) ∙ takes.free;
    least = λ m w free. takes.least m w (same.places m ∙ free);
    taken = IsSame-trans new (with_place a n Out) (with_place b n Out) takes.taken (IsSame-with_place a b n Out same);
  }

  -- the least number of a page more was pulled, where none was free before
  pub PullsLeast-grown : (old middle : Pool T) (n : ℕ) (v : T) (new : Pool T) → IsExhausted old
      → Grows limit answers old middle
      → TakesLeast middle n v new → PullsLeast limit answers old (Ok (n, v)) new
  PullsLeast-grown old middle n v new exhausted grows takes = inr (record {
    exhausted = exhausted;
    values = grows.values;
    answered = grows.answered;
    legal = grows.legal;
    takes = TakesLeast-same middle (after_growth old grows.values) n v new grows.grown takes;
  })
