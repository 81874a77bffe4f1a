use Rattle.std.proofs.Common.{refl, ap, ◌∙◌, vec_capacity}
use Rattle.fixed_pool_c.specs.Caches.{cache_pool, kept}
use Rattle.fixed_pool_c.specs.declared.open_cache.OpenCache.{OpenCache}
use Rattle.fixed_pool_c.proofs.open_handle.OpenHandle.open_cache.Goals as goal

pub returns-in-Ok-new-clause-opens : goal.returns-in-Ok-new-clause-opens
returns-in-Ok-new-clause-opens c =
    let owner = c.in-Some.ensures in let made = c.in-Ok-new.ensures.ok in
    record {
      has_pool = (
        c.args.self.now,
        owner.0,
        refl,
        owner.1,
        ap cache_pool made ∙ c.in-Ok.ensures ∙ owner.2,
      );
      same_tag = ap (λ (cache : OpenCache). cache.tag) made;
      none = ap kept made ∙ c.in-Ok-with_capacity.ensures.items;
      has_room = ap (λ (cache : OpenCache). vec_capacity cache.kept) made ∙ c.in-Ok-with_capacity.ensures.exact;
    }
