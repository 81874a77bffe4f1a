-- That a pull fills an empty place with the permit that the cache got last.
use Rattle.std.proofs.Common.{refl, sym, ◌∙◌, inl, Some}
use Rattle.std.proofs.lemmas.List.{nil_from_length}
use Rattle.std.proofs.lemmas.List.Elements.{All-pop}
use Rattle.fixed_pools.specs.FixedPool.{fixed_view}
use Rattle.fixed_pool_c.specs.Caches.{cache_pool}
use Rattle.fixed_pool_c.specs.Kept.{IsOfPool}
use Rattle.fixed_pool_c.proofs.Numbers.{no_permit}
use Rattle.fixed_pool_c.proofs.open_cache.OpenCache.pull_kept.Goals as goal

pub returns-in-Some-clause-answer : goal.returns-in-Some-clause-answer
returns-in-Some-clause-answer c =
    let place = c.args.place.now in let cache = c.args.self.now in
    let of_pool = IsOfPool (fixed_view (cache_pool cache)).identity in
    inl (
      refl,
      (c.if-place-ne0.false, no_permit place.permit.held place.after place.numbered c.if-place-ne0.false),
      c.hold.ensures.tag,
      record {
        holding = c.in-Some.holding;
        last = c.in-Some.ensures.items;
        holds = c.hold.ensures.held;
        of_pool = (All-pop of_pool cache.kept.items c.pop.new.self.items (Some c.in-Some.holding) c.in-Some.ensures.items
            cache.kept_of_pool).1.0;
        number = c.hold.ensures.number;
      },
    )

pub returns-in-None-clause-answer : goal.returns-in-None-clause-answer
returns-in-None-clause-answer c =
    let place = c.args.place.now in let cache = c.args.self.now in (
      (c.if-place-ne0.false, no_permit place.permit.held place.after place.numbered c.if-place-ne0.false),
      refl,
      nil_from_length cache.kept.items (sym cache.kept.ok.0 ∙ c.in-None.ensures.cases.0),
      nil_from_length c.pop.new.self.items (sym c.pop.new.self.ok.0 ∙ c.in-None.ensures.cases.1),
    )
