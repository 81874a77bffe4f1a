use Rattle.std.proofs.Common.{refl}
use Rattle.pool_parts.proofs.PageAnswers.{returned}
use Rattle.fixed_pools.proofs.fixed_object_pool.FixedObjectPool.give.Goals as goal

pub returns : goal.returns
returns g c = record {
  left = c.reset.new.value;
  by_reset = c.reset.ensures.leaves;
  returned = returned _ _ _ _ _ _ refl c.give.ensures.pool c.give.ensures.returned;
}
