use Rattle.std.proofs.Common.{Some, refl, sym, ap, ◌∙◌, inl}
use Rattle.fixed_pool_c.proofs.caches.kdr_cache_flush.Goals as goal

pub returns : goal.returns
returns c =
    inl (
      refl,
      (
        c.deref_mut.result.now,
        c.flush.new.self,
        c.in-Some.ensures.taken ∙ ap Some (sym c.deref_mut.ensures.value),
        c.put.ensures,
        c.flush.ensures.same,
        (c.flush.ensures.empty, c.flush.ensures.returned),
      ),
    )
