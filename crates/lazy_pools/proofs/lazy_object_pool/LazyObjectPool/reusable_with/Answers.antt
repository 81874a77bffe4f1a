use Rattle.std.proofs.Common.{Some, IfSome, refl, subst}
use Rattle.pool_parts.specs.Answers.{IsMadeOrReset}
use Rattle.pool_parts.specs.Item.{IsPulled, new_user}
use Rattle.pool_parts.specs.Page.{held_item, view_of}
use Rattle.lazy_pools.specs.LazyPool.{lazy_view}
use Rattle.lazy_pools.proofs.lazy_object_pool.LazyObjectPool.reusable_with.Goals as goal

pub returns-in-Some-clause-pulled : goal.returns-in-Some-clause-pulled
returns-in-Some-clause-pulled g c =
    let pool = lazy_view c.args.self.now in
    let place = c.requires.pulled in
    record {
      found = Some c.in-Some.value;
      pulled =
          subst (λ found. IsPulled pool.identity (new_user pool.opening (view_of c.args.pulled.holding.seat).user)
          (held_item c.args.pulled.holding found))
          c.in-Some.is place.pulled;
      value_is = refl;
      meets_condition =
          (subst (λ found. IfSome found (λ value. g.K.Clean.meets value
          × IsMadeOrReset g.I.Init.answers g.R.Reset.leaves value))
          c.in-Some.is place.kept).0;
    }
