use Rattle.pool_parts.proofs.PageOrder.{return_is_later}
use Rattle.pool_parts.proofs.Ledger.{prefix_further}
use Rattle.test_lockfree_object_pool.proofs.fixed_object_pool.answered.Goals as goal

pub returns-clause-after : goal.returns-clause-after
returns-clause-after c =
    prefix_further _ _ _ c.in-Some.ensures.after (return_is_later _ _ c.give_back-note.ensures.returned)
