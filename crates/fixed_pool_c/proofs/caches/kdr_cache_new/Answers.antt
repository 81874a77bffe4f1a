use Rattle.std.proofs.Common.{Some, refl, sym, ap, ◌∙◌, inl, inr}
use Rattle.fixed_pool_c.proofs.caches.kdr_cache_new.Goals as goal

pub returns-in-Some-clause-answer : goal.returns-in-Some-clause-answer
returns-in-Some-clause-answer c =
    inr (inr (inr (refl, (c.in-Some.before.value, c.in-Some.ensures.taken, c.put.ensures))))

pub returns-in-Ok-clause-answer : goal.returns-in-Ok-clause-answer
returns-in-Ok-clause-answer c =
    inl (
      refl,
      c.in_default.ensures.taken,
      (
        c.deref.result.now,
        c.in-Ok.cache.value,
        c.in-Some-take.ensures.taken ∙ ap Some (sym c.deref.ensures),
        c.put-in-Ok.ensures,
        c.in-Ok.ensures.opens,
      ),
    )
