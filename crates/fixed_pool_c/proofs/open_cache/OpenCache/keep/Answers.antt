-- That a place with the tag of the cache's pool, and with one of its numbers, has its permit. The cache
-- keeps it while it has room.
use Rattle.std.proofs.Common.{◌≤◌, refl, ap, ◌∙◌, subst, inl, arith}
use Rattle.fixed_pools.specs.FixedPool.{fixed_view}
use Rattle.fixed_pool_c.specs.Shows.{PlacePool}
use Rattle.fixed_pool_c.proofs.open_cache.OpenCache.keep.Goals as goal

pub take-requires : goal.take-requires
take-requires c tags some within =
    let place = c.args.place.now in
    let items = c.items.ensures ∙ ap (λ (pool : PlacePool). (fixed_view pool).items) c.deref.ensures in
    let owed = c.requires tags some (subst (λ count. place.after ≤ count) items within) in
    (owed.0, owed.1)

pub returns-then-len-capacity-clause-answer : goal.returns-then-len-capacity-clause-answer
returns-then-len-capacity-clause-answer c =
    inl (
      refl,
      record {
        has_room = omega (arith, c.if-len-capacity.true, c.len.ensures, c.capacity.ensures);
        holding = c.in-Ok.holding;
        held_one = c.in-Ok.ensures.taken;
        last = c.push_reserved.ensures.items;
        left = c.in-Ok.ensures.emptied;
      },
    )
