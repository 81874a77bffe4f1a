-- That a pull takes the place that the cache got last, or one of its pool if it keeps none.
use Rattle.std.proofs.Common.{Some, sym, ap, ◌∙◌, subst, inl, inr}
use Rattle.fixed_pool_c.specs.Caches.{PullsFromPool, cache_pool}
use Rattle.fixed_pool_c.proofs.KeptPlaces.{same_through}
use Rattle.fixed_pool_c.proofs.caches.kdr_cache_pull.Goals as goal

pub returns-in-Some-pull_kept : goal.returns-in-Some-pull_kept
returns-in-Some-pull_kept c =
    inl (
      c.deref_mut.result.now,
      c.pull_kept.new.self,
      c.in-Some.ensures.taken ∙ ap Some (sym c.deref_mut.ensures.value),
      c.put.ensures,
      c.in-Some-pull_kept.ensures.same,
      inl c.in-Some-pull_kept.ensures.answer,
    )

pub returns-in-None : goal.returns-in-None
returns-in-None c =
    let none = c.in-None.ensures.answer in let same = c.in-None.ensures.same in
    let held = c.deref_mut.result.now in let apart = c.pull_kept.new.self in
    let further = c.pull_further.ensures in let number = c.pull_further.result in let place = c.pull_further.new.place in
    inl (
      held,
      further.0,
      c.in-Some.ensures.taken ∙ ap Some (sym c.deref_mut.ensures.value),
      further.1,
      same_through held apart further.0 same further.2.same,
      inr (
        none.0,
        none.2,
        further.2.keeps_same ∙ none.3,
        subst (λ pool. PullsFromPool number held.tag pool place) same.same_pool
            (subst (λ tag. PullsFromPool number tag (cache_pool apart) place) same.same_tag further.2.answer),
      ),
    )
