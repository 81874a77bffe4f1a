use Rattle.pool_parts.proofs.PageAnswers.{full_page}
use Rattle.linear_pools.proofs.linear_object_pool.LinearObjectPool.try_pull_from.Goals as goal

pub pull_further-requires : goal.pull_further-requires
pull_further-requires g c = full_page _ _ _ c.in-Full.ensures
