use Rattle.stack_pools.proofs.Notes.{goes_on}
use Rattle.stack_pools.proofs.kept_stack.KeptStackFreeList.take_after.Goals as goal

pub returns-clause-after : goal.returns-clause-after
returns-clause-after g c =
    goes_on c.args.note c.taken.result.1 c.into_seen.result c.lock_after-stack.result.1.history c.into_seen.ensures
    c.lock_after-stack.ensures.after c.taken.ensures.after
