use Rattle.std.proofs.Common.{refl}
use Rattle.pool_parts.proofs.PageAnswers.{returned}
use Rattle.lazy_pools.proofs.lazy_object_pool.LazyObjectPool.give_kept.Goals as goal

pub returns : goal.returns
returns g c = returned _ _ _ _ _ _ refl c.give-seat.ensures.pool c.give-seat.ensures.returned
