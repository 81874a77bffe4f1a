use Rattle.pool_parts.proofs.PageOrder.{pull_is_later}
use Rattle.test_lockfree_object_pool.proofs.fixed_object_pool.pulled_after.Goals as goal

pub returns-in-Ok-clause-after : goal.returns-in-Ok-clause-after
returns-in-Ok-clause-after c = pull_is_later _ _ _ c.in-Ok.ensures.pulled.pulled
