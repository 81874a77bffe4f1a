-- That the note which is left knows of each return.
use Rattle.std.proofs.Common.{Some, refl, ap, ◌∙◌, sym, subst, inl}
use Rattle.std.specs.Prelude.{All}
use Rattle.fixed_pool_c.specs.Caches.{IsReturnedIn, kept}
use Rattle.fixed_pool_c.specs.declared.open_cache.OpenCache.{OpenCache}
use Rattle.fixed_pool_c.proofs.caches.kdr_cache_drop.Goals as goal

pub returns : goal.returns
returns c =
    inl (
      refl,
      c.close.ensures.empty,
      (
        c.deref_mut.result.now,
        c.into_inner-tag.result.note,
        c.in-Some.ensures.taken ∙ ap Some (sym c.deref_mut.ensures.value),
        c.close.ensures.final_note,
        subst (λ (cache : OpenCache). All (IsReturnedIn cache.note) (kept c.deref_mut.result.now))
            (sym c.into_inner-tag.ensures) c.flush.ensures.returned,
      ),
    )
